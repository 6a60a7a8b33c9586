-- Reading the tests of stored queries from the front.
use Rattle.std.specs.Prelude.{ℤ, Bool, false, cond, List, [], ◌∷◌, ◌&&◌, ◌||◌, codes}
use Rattle.sql_statements.specs.declared.statement.PeriodOperand.{PeriodOperand}
use Rattle.sql_statements.specs.declared.statement.PeriodOperand.TheVariants.{Named}
use Rattle.sql_statements.specs.declared.statement.PeriodPredicate.{PeriodPredicate}
use Rattle.sql_statements.specs.declared.statement.PeriodPredicate.TheVariants.{Overlaps, Equals}
use Rattle.sql_statements.specs.declared.statement.PeriodPredicate.TheVariants.{Contains, Precedes}
use Rattle.sql_statements.specs.declared.statement.PeriodPredicate.TheVariants.{Succeeds}
use Rattle.sql_statements.specs.declared.statement.PeriodPredicate.TheVariants.{ImmediatelyPrecedes}
use Rattle.sql_statements.specs.declared.statement.PeriodPredicate.TheVariants.{ImmediatelySucceeds}
use Rattle.sql_statements.specs.declared.statement.StoredTest.{StoredTest}
use Rattle.sql_statements.specs.declared.statement.StoredTest.TheVariants.{Values, Periods}
use Rattle.sql_statements.specs.declared.statement.StoredTest.TheVariants.{ContainsDay}
use Rattle.sql_statements.specs.Lexemes.{Lexeme}
use Rattle.sql_front.specs.Language.{keyword, symbol, or_test}
use Rattle.sql_front.specs.Builders.{dates_of}
use Rattle.sql_front.specs.Grammar.{comma, name}
use Rattle.sql_front.specs.reading.Reading.{Reader, begins, third_is, sequence_read, built_read}
use Rattle.sql_front.specs.reading.Reading.{choice_read, preceded_read, enclosed_read, denotes_read}
use Rattle.sql_front.specs.reading.Leaves.{date_read}
use Rattle.sql_front.specs.reading.ConditionReaders.{column_read, compare_read}

-- '(' date ',' date ')'
unfoldable pub dates_read : Reader (ℤ × ℤ)
dates_read = enclosed_read (sequence_read date_read (preceded_read comma date_read))

-- PERIOD '(' date ',' date ')', or else a period's name
unfoldable pub period_operand_read : Reader PeriodOperand
period_operand_read =
    choice_read (begins (keyword (codes "PERIOD")))
    (built_read dates_of (preceded_read (keyword (codes "PERIOD")) dates_read))
    (built_read Named column_read)

-- OVERLAPS | EQUALS | CONTAINS | [ IMMEDIATELY ] PRECEDES | [ IMMEDIATELY ] SUCCEEDS
unfoldable pub relation_read : Reader PeriodPredicate
relation_read =
    choice_read (begins (keyword (codes "OVERLAPS")))
    (denotes_read Overlaps (keyword (codes "OVERLAPS")))
    (choice_read (begins (keyword (codes "EQUALS")))
    (denotes_read Equals (keyword (codes "EQUALS")))
    (choice_read (begins (keyword (codes "CONTAINS")))
    (denotes_read Contains (keyword (codes "CONTAINS")))
    (choice_read (begins (keyword (codes "IMMEDIATELY")))
    (preceded_read (keyword (codes "IMMEDIATELY"))
    (choice_read (begins (keyword (codes "PRECEDES")))
    (denotes_read ImmediatelyPrecedes (keyword (codes "PRECEDES")))
    (denotes_read ImmediatelySucceeds (keyword (codes "SUCCEEDS")))))
    (choice_read (begins (keyword (codes "PRECEDES")))
    (denotes_read Precedes (keyword (codes "PRECEDES")))
    (denotes_read Succeeds (keyword (codes "SUCCEEDS")))))))

-- ---- a predicate: a period, and what is said of it

-- CONTAINS DATE
unfoldable pub begins_contains_date : List Lexeme → Bool
begins_contains_date [] = false
begins_contains_date (first ∷ rest) =
    keyword (codes "CONTAINS") first && begins (keyword (codes "DATE")) rest

-- a predicate of a period: a day that it contains, or its relation to another
pub data PredicateTail : Type 0 where
  contains_day : ℤ → PredicateTail
  related : PeriodPredicate × PeriodOperand → PredicateTail

-- the test that says this of a period
abbrev pub predicate_of : PeriodOperand × PredicateTail → StoredTest
predicate_of (period, contains_day day) = ContainsDay period day
predicate_of (period, related other) = Periods period other.0 other.1

-- CONTAINS date, or a relation and a period
abbrev pub tail_read : Reader PredicateTail
tail_read =
    choice_read begins_contains_date
    (built_read contains_day (preceded_read (keyword (codes "CONTAINS")) date_read))
    (built_read related (sequence_read relation_read period_operand_read))

-- a period, and what is said of it
unfoldable pub predicate_read : Reader StoredTest
predicate_read = built_read predicate_of (sequence_read period_operand_read tail_read)

-- ---- a predicate or a comparison

-- the words with which a relation begins
unfoldable pub relation_word : Lexeme → Bool
relation_word =
    or_test (keyword (codes "OVERLAPS")) (or_test (keyword (codes "EQUALS"))
    (or_test (keyword (codes "CONTAINS")) (or_test (keyword (codes "IMMEDIATELY"))
    (or_test (keyword (codes "PRECEDES")) (keyword (codes "SUCCEEDS"))))))

-- a relation's word after the column that these tokens begin with
unfoldable pub relation_after_column : List Lexeme → Bool
relation_after_column [] = false
relation_after_column (first ∷ rest) =
    cond (begins (symbol (codes ".")) rest) (third_is relation_word rest)
    (begins relation_word rest)

-- the tokens begin as a predicate does, and not as a comparison
unfoldable pub predicate_ahead : List Lexeme → Bool
predicate_ahead tokens =
    begins (keyword (codes "PERIOD")) tokens
    || (begins name tokens && relation_after_column tokens)

-- a predicate if one begins, or else a comparison
unfoldable pub stored_test_read : Reader StoredTest
stored_test_read = choice_read predicate_ahead predicate_read (built_read Values compare_read)

-- Worked rows of period predicates, in the conditions of stored queries.
use Rattle.std.proofs.Common.{pos, List, [], ◌∷◌, Some, None, codes, refl}
use Rattle.period_core.specs.declared.value.Value.TheVariants as value
use Rattle.sql_statements.specs.declared.statement.Comparison.TheVariants.{Equal}
use Rattle.sql_statements.specs.declared.statement.Operand.TheVariants.{Column, Literal}
use Rattle.sql_statements.specs.declared.statement.PeriodOperand.{PeriodOperand}
use Rattle.sql_statements.specs.declared.statement.PeriodOperand.TheVariants.{Named}
use Rattle.sql_statements.specs.declared.statement.PeriodPredicate.TheVariants.{Equals, Overlaps}
use Rattle.sql_statements.specs.declared.statement.StoredTest.{StoredTest}
use Rattle.sql_statements.specs.declared.statement.StoredTest.TheVariants.{Periods, Values}
use Rattle.sql_statements.specs.Lexemes.{Lexeme}
use Rattle.sql_statements.specs.Names.{is_plain_word}
use Rattle.sql_statements.specs.Words.{is_reserved}
use Rattle.sql_statements.specs.Trees.{Condition, Statement, all, any, conditions_of, negated, stored, test}
use Rattle.sql_front.specs.Grammar.{IsStatement}
use Rattle.sql_front.specs.reading.Leaves.{literal_read, name_read, number_read, unsigned_read}
use Rattle.sql_front.specs.reading.ConditionReaders.{column_read, compare_read, comparison_read, condition_read, conjunction_read, factor_read, inner_read, operand_read, test_read, where_read}
use Rattle.sql_front.specs.reading.PredicateReaders.{begins_contains_date, period_operand_read, predicate_ahead, predicate_read, relation_after_column, relation_read, relation_word, stored_test_read, dates_read}
use Rattle.sql_front.specs.reading.WindowReaders.{for_window_read}
use Rattle.sql_front.specs.reading.StatementReaders.{statement_read, stored_read, stored_table_read, later_statement_read, query_statement_read}
use Rattle.sql_front.specs.reading.Reading.{bounded_read}
use Rattle.sql_front.proofs.Spelling.{spelled_if_read}
use Rattle.sql_front.proofs.StatementExamples.{digits, sign, word}
use Rattle.sql_front.proofs.QueryExamples.{column}
use Rattle.sql_front.proofs.WindowExamples.{stored_from}

-- the tokens of SELECT * FROM T WHERE, and more
abbrev asking : List Lexeme → List Lexeme
asking condition = stored_from (word (codes "WHERE") ∷ condition)

abbrev asked : Condition StoredTest → Statement
asked condition = stored (record { table = codes "T"; window = None; condition = Some condition })

-- the operands P, Q and T.P
abbrev p : PeriodOperand
p = Named (column (codes "P"))

abbrev q : PeriodOperand
q = Named (column (codes "Q"))

-- ---- predicates that are no comparisons

-- SELECT * FROM T WHERE NOT P OVERLAPS Q AND (A = 1 OR P EQUALS Q)
abbrev mixed : List Lexeme
mixed = asking (
    word (codes "NOT") ∷ word (codes "P") ∷ word (codes "OVERLAPS") ∷ word (codes "Q") ∷ word (codes "AND")
    ∷ sign (codes "(") ∷ word (codes "A") ∷ sign (codes "=") ∷ digits (codes "1")
    ∷ word (codes "OR") ∷ word (codes "P") ∷ word (codes "EQUALS") ∷ word (codes "Q") ∷ sign (codes ")") ∷ [])

-- parentheses hold OR together, and NOT takes the one predicate
abbrev grouped : Condition StoredTest
grouped = any (conditions_of (
    all (conditions_of (test (Values (record { left = Column (column (codes "A")); comparison = Equal; right = Literal (value.Int (pos 1)) })) ∷ []))
    ∷ all (conditions_of (test (Periods p Equals q) ∷ []))
    ∷ []))

abbrev mixed_tree : Statement
mixed_tree = asked (any (conditions_of (all (conditions_of (negated (test (Periods p Overlaps q)) ∷ grouped ∷ [])) ∷ [])))

mixed_spelled : IsStatement mixed mixed_tree
unfolding statement_read later_statement_read query_statement_read stored_read stored_table_read for_window_read where_read condition_read conjunction_read factor_read test_read inner_read stored_test_read predicate_ahead relation_after_column relation_word predicate_read period_operand_read dates_read begins_contains_date relation_read compare_read operand_read comparison_read column_read literal_read unsigned_read number_read name_read bounded_read is_plain_word is_reserved
mixed_spelled = spelled_if_read 1 mixed mixed_tree refl refl refl refl

-- Worked rows of statements.
use Rattle.std.proofs.Common.{ℕ, pos, List, [], ◌∷◌, ◌++◌, Some, None, codes, refl}
use Rattle.period_core.specs.declared.value.Value.TheVariants as value
use Rattle.sql_statements.specs.declared.statement.Compare.{Compare}
use Rattle.sql_statements.specs.declared.statement.Comparison.TheVariants.{Equal}
use Rattle.sql_statements.specs.declared.statement.Operand.TheVariants.{Column, Literal}
use Rattle.sql_statements.specs.declared.token.TokenKind.TheVariants.{Word, Number, Text, Symbol}
use Rattle.sql_statements.specs.declared.tree.SetOperator.TheVariants.{Except, Intersect}
use Rattle.sql_statements.specs.Lexemes.{Lexeme}
use Rattle.sql_statements.specs.Names.{is_plain_word}
use Rattle.sql_statements.specs.Words.{is_reserved}
use Rattle.sql_statements.specs.Trees.{Condition, Query, Select, Statement, all, any, combined, conditions_of, last, negated, sequenced, simple, step, test, delete}
use Rattle.sql_front.specs.Grammar.{IsStatement}
use Rattle.sql_front.specs.reading.Leaves.{literal_read, name_read, number_read, unsigned_read}
use Rattle.sql_front.specs.reading.ConditionReaders.{column_read, compare_read, comparison_read, condition_read, conjunction_read, factor_read, operand_read, test_read, where_read}
use Rattle.sql_front.specs.reading.WindowReaders.{for_window_read}
use Rattle.sql_front.specs.reading.QueryReaders.{chain_read, item_read, joins_read, new_name_read, operator_read, primary_read, query_read, reference_read, select_read, sequenced_read, step_read, steps_read, selected_read, from_read, intersection_read, intersections_read, term_read}
use Rattle.sql_front.specs.reading.ChangeReaders.{delete_read, portion_read, deleted_read}
use Rattle.sql_front.specs.reading.StatementReaders.{statement_read, later_statement_read, query_statement_read}
use Rattle.sql_front.specs.reading.Reading.{bounded_read}
use Rattle.sql_front.proofs.Spelling.{spelled_if_read}

-- ---- tokens

abbrev pub word : List ℕ → Lexeme
word text = record { kind = Word; text = text; start = 0; end = 0 }

abbrev pub sign : List ℕ → Lexeme
sign text = record { kind = Symbol; text = text; start = 0; end = 0 }

abbrev pub digits : List ℕ → Lexeme
digits text = record { kind = Number; text = text; start = 0; end = 0 }

abbrev pub quoted_text : List ℕ → Lexeme
quoted_text text = record { kind = Text; text = text; start = 0; end = 0 }

-- ---- a query

-- SELECT DISTINCT and one column, FROM and one table
abbrev select : List ℕ → List ℕ → List Lexeme
select column table = word (codes "select") ∷ word (codes "DISTINCT") ∷ word column ∷ word (codes "FROM") ∷ word table ∷ []

abbrev selected : List ℕ → List ℕ → Select
selected column table = record {
  items = record { column = record { qualifier = None; name = column }; new_name = None } ∷ [];
  chains = record { first = record { table = table; window = None; new_name = None }; joins = [] } ∷ [];
  condition = None;
}

-- ---- set operators

-- INTERSECT binds tighter than EXCEPT, which is before it
abbrev tighter : List Lexeme
tighter =
    word (codes "VALIDTIME") ∷ select (codes "A") (codes "T") ++ word (codes "EXCEPT") ∷ select (codes "A") (codes "U")
    ++ word (codes "INTERSECT") ∷ select (codes "A") (codes "V")

-- a query whose right side is an INTERSECT
abbrev tied : Query
tied =
    combined (simple (selected (codes "A") (codes "T")))
    (step Except (combined (simple (selected (codes "A") (codes "U"))) (step Intersect (simple (selected (codes "A") (codes "V"))) last)) last)

intersect_binds_tighter : IsStatement tighter (sequenced tied)
unfolding statement_read later_statement_read query_statement_read sequenced_read query_read term_read intersections_read intersection_read primary_read operator_read steps_read step_read select_read selected_read from_read item_read chain_read joins_read reference_read new_name_read for_window_read where_read column_read name_read bounded_read is_plain_word is_reserved
intersect_binds_tighter = spelled_if_read 0 tighter (sequenced tied) refl refl refl refl

-- ---- conditions

-- the tokens of a comparison: column = 1
abbrev equals_one : List ℕ → List Lexeme
equals_one column = word column ∷ sign (codes "=") ∷ digits (codes "1") ∷ []

abbrev is_one : List ℕ → Condition Compare
is_one column = test (record { left = Column (record { qualifier = None; name = column }); comparison = Equal; right = Literal (value.Int (pos 1)) })

-- DELETE FROM T WHERE A = 1 OR B = 1 AND NOT C = 1
abbrev deletion : List Lexeme
deletion =
    word (codes "DELETE") ∷ word (codes "FROM") ∷ word (codes "T") ∷ word (codes "WHERE") ∷ equals_one (codes "A")
    ++ word (codes "OR") ∷ equals_one (codes "B") ++ word (codes "AND") ∷ word (codes "NOT") ∷ equals_one (codes "C")

-- AND binds tighter than OR, and NOT tighter than both
abbrev deleted : Statement
deleted = delete (record {
  table = codes "T";
  portion = None;
  condition = Some (any (conditions_of (
      all (conditions_of (is_one (codes "A") ∷ []))
      ∷ all (conditions_of (is_one (codes "B") ∷ negated (is_one (codes "C")) ∷ []))
      ∷ [])));
})

and_binds_tighter_than_or : IsStatement deletion deleted
unfolding statement_read later_statement_read query_statement_read delete_read deleted_read portion_read where_read condition_read conjunction_read factor_read test_read compare_read operand_read comparison_read column_read literal_read unsigned_read number_read name_read bounded_read is_plain_word is_reserved
and_binds_tighter_than_or = spelled_if_read 0 deletion deleted refl refl refl refl

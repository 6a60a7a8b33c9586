-- Worked rows of AT and of sequenced queries: items, new names, joins and chains.
use Rattle.std.proofs.Common.{ℕ, List, [], ◌∷◌, Option, Some, None, codes, refl}
use Rattle.sql_statements.specs.declared.statement.ColumnReference.{ColumnReference}
use Rattle.sql_statements.specs.declared.statement.Compare.{Compare}
use Rattle.sql_statements.specs.declared.statement.Comparison.{Comparison}
use Rattle.sql_statements.specs.declared.statement.Comparison.TheVariants.{Equal}
use Rattle.sql_statements.specs.declared.statement.Operand.TheVariants.{Column}
use Rattle.sql_statements.specs.declared.statement.SelectItem.{SelectItem}
use Rattle.sql_statements.specs.declared.statement.TableReference.{TableReference}
use Rattle.sql_statements.specs.Lexemes.{Lexeme}
use Rattle.sql_statements.specs.Names.{is_plain_word}
use Rattle.sql_statements.specs.Words.{is_reserved}
use Rattle.sql_statements.specs.Trees.{Condition, JoinChain, Statement, all, any, combined, conditions_of, last, sequenced, simple, test}
use Rattle.sql_front.specs.Grammar.{IsStatement}
use Rattle.sql_front.specs.reading.Leaves.{name_read}
use Rattle.sql_front.specs.reading.ConditionReaders.{column_read, compare_read, comparison_read, condition_read, conjunction_read, factor_read, operand_read, test_read, where_read}
use Rattle.sql_front.specs.reading.WindowReaders.{for_window_read}
use Rattle.sql_front.specs.reading.QueryReaders.{chain_read, item_read, join_read, joins_read, new_name_read, primary_read, query_read, reference_read, select_read, sequenced_read, step_read, steps_read, selected_read, from_read, joined_read, intersections_read, term_read}
use Rattle.sql_front.specs.reading.StatementReaders.{statement_read, later_statement_read, query_statement_read}
use Rattle.sql_front.specs.reading.Reading.{bounded_read}
use Rattle.sql_front.proofs.Spelling.{spelled_if_read}
use Rattle.sql_front.proofs.StatementExamples.{sign, word}

-- ---- columns and new names

-- a column alone, and one after the name of a table
abbrev pub column : List ℕ → ColumnReference
column name = record { qualifier = None; name = name }

abbrev pub column_of : List ℕ → List ℕ → ColumnReference
column_of table name = record { qualifier = Some table; name = name }

-- a table reference without a window
abbrev pub table : List ℕ → Option (List ℕ) → TableReference
table name new_name = record { table = name; window = None; new_name = new_name }

-- SELECT DISTINCT of a select list
abbrev selecting : List SelectItem → List JoinChain → Option (Condition Compare) → Statement
selecting items chains condition = sequenced (combined (simple (record { items = items; chains = chains; condition = condition })) last)

-- ---- tables

-- VALIDTIME SELECT DISTINCT A FROM
abbrev pub select_from : List Lexeme → List Lexeme
select_from tables = word (codes "VALIDTIME") ∷ word (codes "SELECT") ∷ word (codes "DISTINCT") ∷ word (codes "A") ∷ word (codes "FROM") ∷ tables

abbrev pub selected_where : List JoinChain → Option (Condition Compare) → Statement
selected_where = selecting (record { column = column (codes "A"); new_name = None } ∷ [])

abbrev pub selected_from : List JoinChain → Statement
selected_from chains = selected_where chains None

-- the condition of one test
abbrev pub condition_of : {T : Type 0} → T → Condition T
condition_of leaf = any (conditions_of (all (conditions_of (test leaf ∷ [])) ∷ []))

abbrev of_two : ColumnReference → Comparison → ColumnReference → Condition Compare
of_two left comparison right = condition_of (record { left = Column left; comparison = comparison; right = Column right })

-- VALIDTIME SELECT DISTINCT A FROM T INNER JOIN U AS Y ON B = Y.C JOIN V ON B = C, W Z
abbrev listing : List Lexeme
listing = select_from (
    word (codes "T") ∷ word (codes "INNER") ∷ word (codes "JOIN") ∷ word (codes "U") ∷ word (codes "AS") ∷ word (codes "Y") ∷ word (codes "ON")
    ∷ word (codes "B") ∷ sign (codes "=") ∷ word (codes "Y") ∷ sign (codes ".") ∷ word (codes "C")
    ∷ word (codes "JOIN") ∷ word (codes "V") ∷ word (codes "ON") ∷ word (codes "B") ∷ sign (codes "=") ∷ word (codes "C")
    ∷ sign (codes ",") ∷ word (codes "W") ∷ word (codes "Z") ∷ [])

-- INNER adds nothing, the joins are in their order, and a comma begins another chain
abbrev listed : Statement
listed = selected_from (
    record {
      first = table (codes "T") None;
      joins =
          record { reference = table (codes "U") (Some (codes "Y")); condition = of_two (column (codes "B")) Equal (column_of (codes "Y") (codes "C")) }
          ∷ record { reference = table (codes "V") None; condition = of_two (column (codes "B")) Equal (column (codes "C")) }
          ∷ [];
    }
    ∷ record { first = table (codes "W") (Some (codes "Z")); joins = [] }
    ∷ [])

listing_spelled : IsStatement listing listed
unfolding statement_read later_statement_read query_statement_read sequenced_read query_read term_read intersections_read primary_read steps_read step_read select_read selected_read from_read item_read chain_read join_read joined_read joins_read reference_read new_name_read for_window_read where_read condition_read conjunction_read factor_read test_read compare_read operand_read comparison_read column_read name_read bounded_read is_plain_word is_reserved
listing_spelled = spelled_if_read 0 listing listed refl refl refl refl

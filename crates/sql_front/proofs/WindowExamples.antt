-- Worked rows of system-time windows: AS OF, FROM and TO, BETWEEN and AND, of a stored query's table and of a reference.
use Rattle.std.proofs.Common.{pos, List, [], ◌∷◌, ◌++◌, Some, None, codes, refl}
use Rattle.period_core.specs.TextReading.{date_at, date_parts_of, fraction_at, is_date, is_time, moment_of_text, time_at, time_parts_of}
use Rattle.sql_statements.specs.declared.statement.SystemTime.TheVariants.{Between, FromTo}
use Rattle.sql_statements.specs.Lexemes.{Lexeme}
use Rattle.sql_statements.specs.Names.{is_plain_word}
use Rattle.sql_statements.specs.Words.{is_reserved}
use Rattle.sql_statements.specs.Trees.{Statement}
use Rattle.sql_front.specs.Grammar.{IsStatement}
use Rattle.sql_front.specs.reading.LeafValues.{clock_of_token, moment_of_token, moment_value}
use Rattle.sql_front.specs.reading.Leaves.{moment_read, name_read}
use Rattle.sql_front.specs.reading.ConditionReaders.{column_read, where_read}
use Rattle.sql_front.specs.reading.WindowReaders.{for_window_read, window_read, two_moments_read}
use Rattle.sql_front.specs.reading.QueryReaders.{chain_read, item_read, joins_read, new_name_read, primary_read, query_read, reference_read, select_read, sequenced_read, step_read, steps_read, selected_read, from_read, intersections_read, term_read}
use Rattle.sql_front.specs.reading.StatementReaders.{statement_read, later_statement_read, query_statement_read}
use Rattle.sql_front.specs.reading.Reading.{bounded_read}
use Rattle.sql_front.proofs.Spelling.{spelled_if_read}
use Rattle.sql_front.proofs.StatementExamples.{quoted_text, sign, word}
use Rattle.sql_front.proofs.QueryExamples.{select_from, selected_from}

-- ---- moments and windows

-- the tokens of TIMESTAMP '2024-01-01 00:00:00'
abbrev earlier : List Lexeme
earlier = word (codes "TIMESTAMP") ∷ quoted_text (codes "'2024-01-01 00:00:00'") ∷ []

-- the tokens of TIMESTAMP '2024-01-03 12:30:15'
abbrev later : List Lexeme
later = word (codes "TIMESTAMP") ∷ quoted_text (codes "'2024-01-03 12:30:15'") ∷ []

-- the tokens of FOR SYSTEM_TIME FROM and TO
abbrev from_to : List Lexeme → List Lexeme → List Lexeme
from_to start end = word (codes "FOR") ∷ word (codes "SYSTEM_TIME") ∷ word (codes "FROM") ∷ start ++ word (codes "TO") ∷ end

-- the tokens of FOR SYSTEM_TIME BETWEEN and AND
abbrev between : List Lexeme → List Lexeme → List Lexeme
between start end = word (codes "FOR") ∷ word (codes "SYSTEM_TIME") ∷ word (codes "BETWEEN") ∷ start ++ word (codes "AND") ∷ end

-- ---- the window of a stored query

-- the tokens of SELECT * FROM T, and more
abbrev pub stored_from : List Lexeme → List Lexeme
stored_from rest = word (codes "SELECT") ∷ sign (codes "*") ∷ word (codes "FROM") ∷ word (codes "T") ∷ rest

-- ---- the window of a reference, before its new name

-- VALIDTIME SELECT DISTINCT A FROM T FOR SYSTEM_TIME FROM TIMESTAMP '2024-01-01 00:00:00' TO TIMESTAMP '2024-01-03 12:30:15' AS X,
--     U FOR SYSTEM_TIME BETWEEN TIMESTAMP '2024-01-01 00:00:00' AND TIMESTAMP '2024-01-03 12:30:15'
abbrev several : List Lexeme
several = select_from (
    word (codes "T") ∷ from_to earlier later ++ word (codes "AS") ∷ word (codes "X") ∷ sign (codes ",")
    ∷ word (codes "U") ∷ between earlier later)

abbrev several_tree : Statement
several_tree = selected_from (
    record { first = record { table = codes "T"; window = Some (FromTo (pos 1_704_067_200_000_000) (pos 1_704_285_015_000_000)); new_name = Some (codes "X") }; joins = [] }
    ∷ record { first = record { table = codes "U"; window = Some (Between (pos 1_704_067_200_000_000) (pos 1_704_285_015_000_000)); new_name = None }; joins = [] }
    ∷ [])

several_spelled : IsStatement several several_tree
unfolding statement_read later_statement_read query_statement_read sequenced_read query_read term_read intersections_read primary_read steps_read step_read select_read selected_read from_read item_read chain_read joins_read reference_read new_name_read for_window_read window_read two_moments_read moment_read moment_value moment_of_token clock_of_token moment_of_text date_at time_at fraction_at date_parts_of time_parts_of is_date is_time where_read column_read name_read bounded_read is_plain_word is_reserved
several_spelled = spelled_if_read 0 several several_tree refl refl refl refl

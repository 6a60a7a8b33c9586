-- Reading queries from the front.
use Rattle.std.specs.Prelude.{ℕ, zero, suc, List, codes, Option, None, Bool}
use Rattle.sql_statements.specs.declared.statement.SelectItem.{SelectItem}
use Rattle.sql_statements.specs.declared.statement.TableReference.{TableReference}
use Rattle.sql_statements.specs.declared.tree.SetOperator.{SetOperator}
use Rattle.sql_statements.specs.declared.tree.SetOperator.TheVariants.{Union, Except, Intersect}
use Rattle.sql_statements.specs.Lexemes.{Lexeme}
use Rattle.sql_front.specs.Language.{keyword, symbol, or_test}
use Rattle.sql_statements.specs.declared.statement.Compare.{Compare}
use Rattle.sql_statements.specs.Trees.{Condition, Join, JoinChain, Select, Query, simple}
use Rattle.sql_front.specs.Builders.{table_reference_of, join_of, chain_of, item_of, select_of}
use Rattle.sql_front.specs.Builders.{term_of, combined_of}
use Rattle.sql_front.specs.Grammar.{name, comma}
use Rattle.sql_front.specs.reading.Reading.{Reader, begins, sequence_read, built_read, choice_read}
use Rattle.sql_front.specs.reading.Reading.{optional_read, repetition_read, preceded_read}
use Rattle.sql_front.specs.reading.Reading.{preceded_or_not_read, denotes_read, separated_read}
use Rattle.sql_front.specs.reading.Reading.{enclosed_read}
use Rattle.sql_front.specs.reading.Leaves.{name_read}
use Rattle.sql_front.specs.reading.ConditionReaders.{column_read, compare_read, condition_read}
use Rattle.sql_front.specs.reading.ConditionReaders.{where_read}
use Rattle.sql_front.specs.reading.WindowReaders.{for_window_read}

-- ---- references

-- the first token of a new name
abbrev pub begins_new_name : Lexeme → Bool
begins_new_name = or_test (keyword (codes "AS")) name

-- [ [ AS ] name ]
unfoldable pub new_name_read : Reader (Option (List ℕ))
new_name_read =
    optional_read begins_new_name (preceded_or_not_read (keyword (codes "AS")) name_read)

-- name [ FOR SYSTEM_TIME window ] [ [ AS ] name ]
unfoldable pub reference_read : Reader TableReference
reference_read =
    built_read table_reference_of
    (sequence_read name_read (sequence_read for_window_read new_name_read))

-- column [ [ AS ] name ]
unfoldable pub item_read : Reader SelectItem
item_read = built_read item_of (sequence_read column_read new_name_read)

-- ---- selects, whose conditions' parentheses nest at most n deep

-- JOIN reference ON cond
unfoldable pub joined_read : ℕ → Reader (TableReference × Condition Compare)
joined_read n =
    preceded_read (keyword (codes "JOIN")) (sequence_read reference_read
    (preceded_read (keyword (codes "ON")) (condition_read compare_read n)))

-- [ INNER ] JOIN reference ON cond
unfoldable pub join_read : ℕ → Reader Join
join_read n = built_read join_of (preceded_or_not_read (keyword (codes "INNER")) (joined_read n))

-- the first token of a join
abbrev pub begins_join : Lexeme → Bool
begins_join = or_test (keyword (codes "INNER")) (keyword (codes "JOIN"))

-- { join }
unfoldable pub joins_read : ℕ → Reader (List Join)
joins_read n = repetition_read (begins begins_join) (join_read n)

-- reference { join }
unfoldable pub chain_read : ℕ → Reader JoinChain
chain_read n = built_read chain_of (sequence_read reference_read (joins_read n))

-- FROM chain { ',' chain } [ WHERE cond ]
unfoldable pub from_read : ℕ → Reader (List JoinChain × Option (Condition Compare))
from_read n =
    preceded_read (keyword (codes "FROM"))
    (sequence_read (separated_read comma (chain_read n)) (where_read compare_read n))

-- the select after SELECT DISTINCT
unfoldable pub selected_read : ℕ → Reader Select
selected_read n =
    built_read select_of (sequence_read (separated_read comma item_read) (from_read n))

-- SELECT DISTINCT, and what follows it
unfoldable pub select_read : ℕ → Reader Select
select_read n =
    preceded_read (keyword (codes "SELECT"))
    (preceded_read (keyword (codes "DISTINCT")) (selected_read n))

-- ---- queries

-- UNION or EXCEPT
unfoldable pub operator_read : Reader SetOperator
operator_read =
    choice_read (begins (keyword (codes "UNION")))
    (denotes_read Union (keyword (codes "UNION")))
    (denotes_read Except (keyword (codes "EXCEPT")))

-- a set operator, as the first token of a step
abbrev pub begins_set_operator : Lexeme → Bool
begins_set_operator = or_test (keyword (codes "UNION")) (keyword (codes "EXCEPT"))

-- a select, or a query in parentheses
abbrev pub primary_with : Reader Select → Reader Query → Reader Query
primary_with select inner =
    choice_read (begins (symbol (codes "("))) (enclosed_read inner) (built_read simple select)

-- INTERSECT [ DISTINCT ] primary
abbrev pub intersection_with : Reader Query → Reader (SetOperator × Query)
intersection_with primary =
    sequence_read (denotes_read Intersect (keyword (codes "INTERSECT")))
    (preceded_or_not_read (keyword (codes "DISTINCT")) primary)

-- { intersection }
abbrev pub intersections_with : Reader (SetOperator × Query) → Reader (List (SetOperator × Query))
intersections_with intersection =
    repetition_read (begins (keyword (codes "INTERSECT"))) intersection

-- primary { intersection }
abbrev pub term_with : Reader Query → Reader (List (SetOperator × Query)) → Reader Query
term_with primary intersections = built_read term_of (sequence_read primary intersections)

-- ( UNION | EXCEPT ) [ DISTINCT ] term
abbrev pub step_with : Reader Query → Reader (SetOperator × Query)
step_with term =
    sequence_read operator_read (preceded_or_not_read (keyword (codes "DISTINCT")) term)

-- { step }
abbrev pub steps_with : Reader (SetOperator × Query) → Reader (List (SetOperator × Query))
steps_with step = repetition_read (begins begins_set_operator) step

-- term { step }
abbrev pub query_with : Reader Query → Reader (List (SetOperator × Query)) → Reader Query
query_with term steps = built_read combined_of (sequence_read term steps)

-- a term and a query, by their primaries
abbrev pub term_of_primaries : Reader Query → Reader Query
term_of_primaries primary = term_with primary (intersections_with (intersection_with primary))

-- a query whose terms are of the primaries given
abbrev pub query_of_primaries : Reader Query → Reader Query
query_of_primaries primary =
    query_with (term_of_primaries primary) (steps_with (step_with (term_of_primaries primary)))

-- a query whose parentheses nest less than n deep
unfoldable pub inner_query_read : ℕ → Reader Query
inner_query_read zero ts = None
inner_query_read (suc n) ts =
    query_of_primaries (primary_with (select_read n) (inner_query_read n)) ts

-- a select, or in parentheses a query that nests less than n deep
unfoldable pub primary_read : ℕ → Reader Query
primary_read n = primary_with (select_read n) (inner_query_read n)

-- INTERSECT with a primary whose parentheses nest at most n deep
unfoldable pub intersection_read : ℕ → Reader (SetOperator × Query)
intersection_read n = intersection_with (primary_read n)

-- any number of intersections
unfoldable pub intersections_read : ℕ → Reader (List (SetOperator × Query))
intersections_read n = intersections_with (intersection_read n)

-- a primary with the intersections after it
unfoldable pub term_read : ℕ → Reader Query
term_read n = term_with (primary_read n) (intersections_read n)

-- UNION or EXCEPT with a term whose parentheses nest at most n deep
unfoldable pub step_read : ℕ → Reader (SetOperator × Query)
step_read n = step_with (term_read n)

-- any number of the steps
unfoldable pub steps_read : ℕ → Reader (List (SetOperator × Query))
steps_read n = steps_with (step_read n)

-- a query whose parentheses nest at most n deep
unfoldable pub query_read : ℕ → Reader Query
query_read n = query_with (term_read n) (steps_read n)

-- VALIDTIME query
unfoldable pub sequenced_read : ℕ → Reader Query
sequenced_read n = preceded_read (keyword (codes "VALIDTIME")) (query_read n)

-- Queries are read.
use Rattle.std.proofs.Common.{◌≡◌, ℕ, zero, suc, true, List, [], ◌∷◌, refl, codes}
use Rattle.sql_statements.specs.declared.tree.SetOperator.{SetOperator}
use Rattle.sql_statements.specs.declared.tree.SetOperator.TheVariants.{Union, Except, Intersect}
use Rattle.sql_statements.specs.Lexemes.{Lexeme}
use Rattle.sql_front.specs.Language.{keyword, symbol, Choice, Enclosed, Fixed, Built, Optional, Preceded, PrecededOrNot, Repetition, Separated, Sequence, Denotes}
use Rattle.sql_statements.specs.Trees.{Query, simple}
use Rattle.sql_front.specs.Builders.{chain_of, combined_of, item_of, join_of, select_of, table_reference_of, term_of}
use Rattle.sql_front.specs.Grammar.{comma, ConditionBelow, IsWhere}
use Rattle.sql_front.specs.Grammar.{QueryBelow}
use Rattle.sql_front.specs.Placeholders.{placeholders}
use Rattle.sql_front.proofs.ReadGrammar.{IsChain, IsCompare, IsIntersection, IsItem, IsJoin, IsNewName, IsPrimary, IsQuery, IsReference, IsSelect, IsSequenced, IsStep, IsTerm}
use Rattle.sql_front.specs.reading.Reading.{Reader}
use Rattle.sql_front.specs.reading.QueryReaders.{chain_read, inner_query_read, intersection_read, intersection_with, intersections_read, intersections_with, item_read, join_read, joins_read, new_name_read, operator_read, primary_read, primary_with, query_of_primaries, query_read, reference_read, select_read, sequenced_read, step_read, step_with, steps_read, steps_with, selected_read, from_read, joined_read, term_of_primaries, term_read}
use Rattle.sql_front.proofs.First.{Starts, starts_built, starts_choice, starts_preceded, starts_preceded_or_not, starts_sequence, starts_denotes}
use Rattle.period_core.proofs.OptionFacts.{none_some}
use Rattle.sql_front.proofs.Laws.{Any, Reads, reads_both, reads_built, reads_preceded, reads_preceded_or_not, reads_denotes}
use Rattle.sql_front.proofs.NamesRead.{reads_name, starts_name}
use Rattle.sql_front.proofs.Sorts.{a_name, all_differ, any_of, apart_lists, leads_optional, leads_repetition, leads_starts, Next, reads_both_next, reads_choice_next, reads_enclosed_next, reads_less, reads_next, reads_optional_next, reads_repetition_next, reads_separated_next, sign, Sort, word}
use Rattle.sql_front.proofs.ConditionsRead.{condition_ends, reads_column_next, reads_compare_condition, reads_compare_where, starts_where, where_ends}
use Rattle.sql_front.proofs.WindowsRead.{reads_for_window}

-- ---- the tokens that may follow

abbrev pub query_ends : List Sort
query_ends = sign (codes ")") ∷ []

abbrev term_ends : List Sort
term_ends = word (codes "UNION") ∷ word (codes "EXCEPT") ∷ query_ends

abbrev pub select_ends : List Sort
select_ends = word (codes "INTERSECT") ∷ term_ends

abbrev chains_ends : List Sort
chains_ends = word (codes "WHERE") ∷ select_ends

abbrev pub chain_ends : List Sort
chain_ends = sign (codes ",") ∷ chains_ends

abbrev join_ends : List Sort
join_ends = word (codes "INNER") ∷ word (codes "JOIN") ∷ chain_ends

abbrev pub reference_ends : List Sort
reference_ends = word (codes "ON") ∷ join_ends

abbrev pub item_ends : List Sort
item_ends = sign (codes ",") ∷ word (codes "FROM") ∷ []

-- ---- references

abbrev pub new_name_firsts : List Sort
new_name_firsts = word (codes "AS") ∷ a_name ∷ []

pub starts_new_name : Starts (any_of new_name_firsts) IsNewName
starts_new_name = starts_preceded_or_not (keyword (codes "AS")) starts_name

-- a new name is read before tokens that begin none
pub reads_new_name : (ends : List Sort) → all_differ ends new_name_firsts ≡ true → Reads (Optional IsNewName) (Next ends) new_name_read
unfolding new_name_read
reads_new_name ends e =
    reads_optional_next new_name_firsts ends e starts_new_name
    (reads_next ends (reads_preceded_or_not starts_name (apart_lists (a_name ∷ []) (word (codes "AS") ∷ []) refl) reads_name))

pub reads_reference : Reads IsReference (Next reference_ends) reference_read
unfolding reference_read
reads_reference =
    let named_ends = word (codes "AS") ∷ a_name ∷ reference_ends in
    reads_built table_reference_of (reads_both reads_name
    (reads_both_next (reads_for_window named_ends refl) (reads_new_name reference_ends refl)
    (leads_optional new_name_firsts named_ends reference_ends refl refl starts_new_name)))

pub reads_item : Reads IsItem (Next item_ends) item_read
unfolding item_read
reads_item =
    let named_ends = word (codes "AS") ∷ a_name ∷ item_ends in
    reads_built item_of (reads_both_next (reads_column_next named_ends refl) (reads_new_name item_ends refl)
    (leads_optional new_name_firsts named_ends item_ends refl refl starts_new_name))

-- ---- chains

abbrev join_firsts : List Sort
join_firsts = word (codes "INNER") ∷ word (codes "JOIN") ∷ []

starts_join : (n : ℕ) → Starts (any_of join_firsts) (IsJoin n)
starts_join n = starts_built join_of (starts_preceded_or_not (keyword (codes "INNER")) (starts_preceded (keyword (codes "JOIN")) _))

reads_join : (n : ℕ) → Reads (IsJoin (suc n)) (Next join_ends) (join_read n)
unfolding join_read joined_read
reads_join n =
    let on = starts_preceded (keyword (codes "ON")) (ConditionBelow IsCompare (suc n)) in
    let joined = Sequence IsReference (Preceded (keyword (codes "ON")) (ConditionBelow IsCompare (suc n))) in
    reads_built join_of (reads_preceded_or_not (starts_preceded (keyword (codes "JOIN")) joined) (apart_lists (word (codes "JOIN") ∷ []) (word (codes "INNER") ∷ []) refl)
    (reads_preceded (keyword (codes "JOIN")) (reads_both_next reads_reference (reads_preceded (keyword (codes "ON")) (reads_less join_ends condition_ends refl (reads_compare_condition n)))
    (leads_starts (word (codes "ON") ∷ []) reference_ends join_ends refl on))))

reads_joins : (n : ℕ) → Reads (Repetition (IsJoin (suc n))) (Next chain_ends) (joins_read n)
unfolding joins_read
reads_joins n = reads_repetition_next join_firsts chain_ends join_ends refl refl refl (starts_join (suc n)) (reads_join n)

pub reads_chain : (n : ℕ) → Reads (IsChain (suc n)) (Next chain_ends) (chain_read n)
unfolding chain_read
reads_chain n =
    reads_built chain_of (reads_both_next reads_reference (reads_joins n)
    (leads_repetition join_firsts reference_ends chain_ends refl refl (starts_join (suc n))))

-- ---- selects

pub starts_select : (n : ℕ) → Starts (any_of (word (codes "SELECT") ∷ [])) (IsSelect n)
starts_select n = starts_preceded (keyword (codes "SELECT")) _

pub reads_select : (n : ℕ) → Reads (IsSelect (suc n)) (Next select_ends) (select_read n)
unfolding select_read selected_read from_read
reads_select n =
    let from = starts_preceded (keyword (codes "FROM")) (Sequence (Separated comma (IsChain (suc n))) (IsWhere IsCompare (suc n))) in
    reads_preceded (keyword (codes "SELECT")) (reads_preceded (keyword (codes "DISTINCT"))
    (reads_built select_of (reads_both_next (reads_separated_next (sign (codes ",")) (word (codes "FROM") ∷ []) item_ends refl refl refl reads_item)
    (reads_preceded (keyword (codes "FROM")) (reads_both_next (reads_separated_next (sign (codes ",")) chains_ends chain_ends refl refl refl (reads_chain n)) (reads_less select_ends where_ends refl (reads_compare_where n))
    (leads_optional (word (codes "WHERE") ∷ []) chains_ends select_ends refl refl (starts_where IsCompare (suc n)))))
    (leads_starts (word (codes "FROM") ∷ []) (word (codes "FROM") ∷ []) select_ends refl from))))

-- ---- queries

abbrev step_firsts : List Sort
step_firsts = word (codes "UNION") ∷ word (codes "EXCEPT") ∷ []

abbrev pub primary_firsts : List Sort
primary_firsts = sign (codes "(") ∷ word (codes "SELECT") ∷ []

abbrev IsOperator : List Lexeme → SetOperator → Type 0
IsOperator = Choice (Denotes Union (keyword (codes "UNION"))) (Denotes Except (keyword (codes "EXCEPT")))

starts_operator : Starts (any_of step_firsts) IsOperator
starts_operator = starts_choice (starts_denotes Union (keyword (codes "UNION"))) (starts_denotes Except (keyword (codes "EXCEPT")))

reads_operator : Reads IsOperator Any operator_read
unfolding operator_read
reads_operator =
    reads_choice_next (word (codes "UNION") ∷ []) (word (codes "EXCEPT") ∷ []) refl
    (starts_denotes Union (keyword (codes "UNION"))) (starts_denotes Except (keyword (codes "EXCEPT")))
    (reads_denotes Union (keyword (codes "UNION"))) (reads_denotes Except (keyword (codes "EXCEPT")))

module _ (n : ℕ) {L : List Lexeme → Query → Type 0} {inner : Reader Query} (r : Reads L (Next query_ends) inner) where
  abbrev opened : Starts (any_of (sign (codes "(") ∷ [])) (Enclosed L)
  opened = starts_preceded (symbol (codes "(")) (Built (λ (v : Query × Unit {0}). v.0) (Sequence L (Fixed (symbol (codes ")")))))

  abbrev selected : Starts (any_of (word (codes "SELECT") ∷ [])) (Built simple (IsSelect (suc n)))
  selected = starts_built simple (starts_select (suc n))

  starts_primary : Starts (any_of primary_firsts) (IsPrimary (suc n) L)
  starts_primary = starts_choice opened selected

  reads_primary : Reads (IsPrimary (suc n) L) (Next select_ends) (primary_with (select_read n) inner)
  reads_primary =
      reads_choice_next (sign (codes "(") ∷ []) (word (codes "SELECT") ∷ []) refl opened selected
      (reads_next select_ends (reads_enclosed_next query_ends refl r)) (reads_built simple (reads_select n))

  abbrev primary : Reader Query
  primary = primary_with (select_read n) inner

  starts_intersection : Starts (any_of (word (codes "INTERSECT") ∷ [])) (IsIntersection (suc n) L)
  starts_intersection =
      starts_sequence (PrecededOrNot (keyword (codes "DISTINCT")) (IsPrimary (suc n) L)) (starts_denotes Intersect (keyword (codes "INTERSECT")))

  reads_intersection : Reads (IsIntersection (suc n) L) (Next select_ends) (intersection_with primary)
  reads_intersection =
      reads_both (reads_denotes Intersect (keyword (codes "INTERSECT")))
      (reads_preceded_or_not starts_primary (apart_lists primary_firsts (word (codes "DISTINCT") ∷ []) refl) reads_primary)

  reads_intersections : Reads (Repetition (IsIntersection (suc n) L)) (Next term_ends) (intersections_with (intersection_with primary))
  reads_intersections = reads_repetition_next (word (codes "INTERSECT") ∷ []) term_ends select_ends refl refl refl starts_intersection reads_intersection

  starts_term : Starts (any_of primary_firsts) (IsTerm (suc n) L)
  starts_term = starts_built term_of (starts_sequence (Repetition (IsIntersection (suc n) L)) starts_primary)

  reads_term : Reads (IsTerm (suc n) L) (Next term_ends) (term_of_primaries primary)
  reads_term = reads_built term_of (reads_both_next reads_primary reads_intersections (leads_repetition (word (codes "INTERSECT") ∷ []) select_ends term_ends refl refl starts_intersection))

  starts_set_operator : Starts (any_of step_firsts) (IsStep (suc n) L)
  starts_set_operator = starts_sequence (PrecededOrNot (keyword (codes "DISTINCT")) (IsTerm (suc n) L)) starts_operator

  reads_step : Reads (IsStep (suc n) L) (Next term_ends) (step_with (term_of_primaries primary))
  reads_step = reads_both reads_operator (reads_preceded_or_not starts_term (apart_lists primary_firsts (word (codes "DISTINCT") ∷ []) refl) reads_term)

  reads_steps : Reads (Repetition (IsStep (suc n) L)) (Next query_ends) (steps_with (step_with (term_of_primaries primary)))
  reads_steps = reads_repetition_next step_firsts query_ends term_ends refl refl refl starts_set_operator reads_step

  reads_query_of : Reads (IsQuery (suc n) L) (Next query_ends) (query_of_primaries primary)
  reads_query_of = reads_built combined_of (reads_both_next reads_term reads_steps (leads_repetition step_firsts term_ends query_ends refl refl starts_set_operator))

-- queries are read at any depth
pub reads_inner_query : (n : ℕ) → Reads (QueryBelow placeholders n) (Next query_ends) (inner_query_read n)
unfolding QueryBelow inner_query_read
reads_inner_query zero = record { found = λ ts x e. absurd (none_some x e); again = λ front a rest h follow. absurd h }
reads_inner_query (suc n) = reads_query_of n (reads_inner_query n)

pub reads_query : (n : ℕ) → Reads (QueryBelow placeholders (suc n)) (Next query_ends) (query_read n)
unfolding QueryBelow query_read steps_read step_read term_read intersections_read intersection_read primary_read
reads_query n = reads_query_of n (reads_inner_query n)

pub starts_sequenced : (n : ℕ) → Starts (any_of (word (codes "VALIDTIME") ∷ [])) (IsSequenced n)
starts_sequenced n = starts_preceded (keyword (codes "VALIDTIME")) (QueryBelow placeholders n)

pub reads_sequenced : (n : ℕ) → Reads (IsSequenced (suc n)) (Next query_ends) (sequenced_read n)
unfolding sequenced_read
reads_sequenced n = reads_preceded (keyword (codes "VALIDTIME")) (reads_query n)

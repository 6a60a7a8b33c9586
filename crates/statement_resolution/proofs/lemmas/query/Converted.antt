-- A select by positions: its members so far in loops over joins and chains, and the whole if it has no fault.
use Rattle.std.proofs.Common.{◌≡◌, ◌<◌, ◌+◌, ◌++◌, ◌∷◌, ◌∙◌, ℕ, false, List, [], Option, None, Some, append_assoc, flat_map, get_or, length, map, refl, sym, take, ap}
use Rattle.std.specs.List.{position}
use Rattle.std.specs.Option.{option_map}
use Rattle.std.proofs.lemmas.Bool.{or_parts}
use Rattle.std.proofs.lemmas.Grind.{flat_map-append}
use Rattle.std.proofs.lemmas.List.{append-nil, map_push, take_more}
use Rattle.sql_statements.specs.Plain.{plain_chain, plain_condition, plain_join}
use Rattle.sql_statements.specs.Trees as written
use Rattle.sql_statements.specs.Trees.{Condition, Select}
use Rattle.sql_statements.specs.declared.statement.ColumnReference.{ColumnReference}
use Rattle.sql_statements.specs.declared.statement.Compare.{Compare}
use Rattle.sql_statements.specs.declared.statement.Join.{Join}
use Rattle.sql_statements.specs.declared.statement.JoinChain.{JoinChain}
use Rattle.sql_statements.specs.declared.statement.SelectItem.{SelectItem}
use Rattle.sql_statements.specs.declared.statement.TableReference.{TableReference}
use Rattle.statement_resolution.proofs.lemmas.conditions.Numbers.{agree as replaced, compare_placed, placed_by}
use Rattle.statement_resolution.proofs.lemmas.judged.FaultSums.{both_clear}
use Rattle.statement_resolution.proofs.lemmas.query.Members.{members_faults}
use Rattle.statement_resolution.proofs.lemmas.query.ReferenceLists.{front_tables, join_tables, join_tables_more}
use Rattle.statement_resolution.proofs.lemmas.query.ReferenceParts.{found_parts}
use Rattle.statement_resolution.proofs.lemmas.query.ScopeFaults.{conditions_push, joined_scope}
use Rattle.statement_resolution.proofs.lemmas.query.ValuePlaces.{some_value}
use Rattle.statement_resolution.specs.Positions.{compare_by, map_condition}
use Rattle.statement_resolution.specs.Placing.{or_zero}
use Rattle.statement_resolution.specs.Faults.{condition_faults, either, faults_among, no_faults}
use Rattle.statement_resolution.specs.query.Faults.{compare_faults, item_faults, lacks_any, lacks_one, match_faults, matches_among, query_faults, reference_faults, scoped_faults, select_faults}
use Rattle.statement_resolution.specs.query.Places.{place_among, placed_item, placed_members, placed_reference, scope_place, scoped_members}
use Rattle.statement_resolution.specs.query.Resolving.{Placed, column_position, members, seen_values, written_item, written_conjuncts, written_members, written_reference}
use Rattle.statement_resolution.specs.query.Scopes.{Scope, ScopedCondition, SeenColumn, chain_conditions, chain_tables, conditions_in, has_value, names_column, on_conditions, seen_columns, tables_of, where_conditions, whole_scope}
use Rattle.catalog_core.specs.declared.condition.CompareValues.{CompareValues}
use Rattle.statement_resolution.specs.declared.faults.Faults.{Faults}
use Rattle.catalog_core.specs.declared.table.TableDef.{TableDef}

-- ---- loops

module _ (catalog : List TableDef) where
  -- the members of the conditions of one more join
  pub joined_members : (before : List TableReference) (first : TableReference) (joins : List Join) (i : ℕ) (j : Join) (front slice : List SeenColumn) (old now after : List Placed)
      → i < length joins → j ≡ get_or joins i j → front ≡ seen_columns catalog before → slice ≡ seen_columns catalog (first ∷ join_tables (take (i + 1) joins))
      → now ≡ old ++ flat_map (scoped_members catalog) (chain_conditions before (first ∷ []) (map plain_join (take i joins)))
      → after ≡ now ++ placed_members (place_among front slice) (plain_condition j.condition)
      → after ≡ old ++ flat_map (scoped_members catalog) (chain_conditions before (first ∷ []) (map plain_join (take (i + 1) joins)))
  joined_members before first joins i j front slice old now after here item at seen so_far next =
      let f : ScopedCondition → List Placed = scoped_members catalog in
      let front_joins : List written.Join = map plain_join (take i joins) in
      let condition : Condition Compare = plain_condition j.condition in
      let done : List ScopedCondition = chain_conditions before (first ∷ []) front_joins in
      let this : ScopedCondition = joined_scope before (first ∷ []) front_joins (plain_join j) in
      let own : placed_members (place_among front slice) condition ≡ f this =
      ap (λ (cs : List SeenColumn). placed_members (place_among cs slice) condition) at
      ∙ ap (λ (cs : List SeenColumn). placed_members (place_among (seen_columns catalog before) cs) condition) (seen ∙ ap (λ (rs : List TableReference). seen_columns catalog (first ∷ rs)) (join_tables_more joins i j here item)) in
      let longer : flat_map f (chain_conditions before (first ∷ []) (map plain_join (take (i + 1) joins))) ≡ flat_map f done ++ f this =
      ap (λ (js : List Join). flat_map f (chain_conditions before (first ∷ []) (map plain_join js))) (take_more joins i j here)
      ∙ ap (λ (x : Join). flat_map f (chain_conditions before (first ∷ []) (map plain_join (take i joins ++ x ∷ [])))) (sym item)
      ∙ ap (λ (js : List written.Join). flat_map f (chain_conditions before (first ∷ []) js)) (map_push plain_join (take i joins) j)
      ∙ ap (flat_map f) (conditions_push before (first ∷ []) front_joins (plain_join j))
      ∙ flat_map-append f done (this ∷ [])
      ∙ ap (λ (ps : List Placed). flat_map f done ++ ps) (append-nil (f this)) in
      next ∙ ap (λ (ps : List Placed). ps ++ placed_members (place_among front slice) condition) so_far
      ∙ ap (λ (ps : List Placed). (old ++ flat_map f done) ++ ps) own
      ∙ append_assoc old (flat_map f done) (f this)
      ∙ ap (λ (ps : List Placed). old ++ ps) (sym longer)

  -- the members of the conditions of one more chain
  on_push : (before : List TableReference) (chains : List written.JoinChain) (c : written.JoinChain)
      → on_conditions before (chains ++ c ∷ []) ≡ on_conditions before chains ++ chain_conditions (before ++ flat_map chain_tables chains) (c.first ∷ []) c.joins
  on_push before [] c =
      append-nil (chain_conditions before (c.first ∷ []) c.joins) ∙ ap (λ (rs : List TableReference). chain_conditions rs (c.first ∷ []) c.joins) (sym (append-nil before))
  on_push before (x ∷ chains) c =
      let here : List ScopedCondition = chain_conditions before (x.first ∷ []) x.joins in
      ap (λ (cs : List ScopedCondition). here ++ cs) (on_push (before ++ chain_tables x) chains c
      ∙ ap (λ (rs : List TableReference). on_conditions (before ++ chain_tables x) chains ++ chain_conditions rs (c.first ∷ []) c.joins) (append_assoc before (chain_tables x) (flat_map chain_tables chains)))
      ∙ sym (append_assoc here (on_conditions (before ++ chain_tables x) chains) (chain_conditions (before ++ flat_map chain_tables (x ∷ chains)) (c.first ∷ []) c.joins))

  pub chained_members : (chains : List JoinChain) (i : ℕ) (c : JoinChain) (now after : List Placed) → i < length chains → c ≡ get_or chains i c
      → now ≡ flat_map (scoped_members catalog) (on_conditions [] (map plain_chain (take i chains)))
      → after ≡ now ++ flat_map (scoped_members catalog) (chain_conditions (front_tables chains i) (c.first ∷ []) (plain_chain c).joins)
      → after ≡ flat_map (scoped_members catalog) (on_conditions [] (map plain_chain (take (i + 1) chains)))
  chained_members chains i c now after here item so_far next =
      let f : ScopedCondition → List Placed = scoped_members catalog in
      let front : List written.JoinChain = map plain_chain (take i chains) in
      let this : List ScopedCondition = chain_conditions (front_tables chains i) (c.first ∷ []) (plain_chain c).joins in
      next ∙ ap (λ (ps : List Placed). ps ++ flat_map f this) so_far
      ∙ sym (flat_map-append f (on_conditions [] front) this)
      ∙ ap (flat_map f) (sym (on_push [] front (plain_chain c)))
      ∙ ap (λ (cs : List written.JoinChain). flat_map f (on_conditions [] cs)) (sym (map_push plain_chain (take i chains) c))
      ∙ ap (λ (x : JoinChain). flat_map f (on_conditions [] (map plain_chain (take i chains ++ x ∷ [])))) item
      ∙ ap (λ (cs : List JoinChain). flat_map f (on_conditions [] (map plain_chain cs))) (sym (take_more chains i c here))

  -- the members of WHERE
  pub where_members : (s : Select) (condition : Condition Compare) (columns : List SeenColumn) (now after : List Placed) → s.condition ≡ Some condition
      → now ≡ flat_map (scoped_members catalog) (on_conditions [] s.chains) → columns ≡ seen_columns catalog (tables_of s)
      → after ≡ now ++ placed_members (place_among [] columns) condition → after ≡ flat_map (scoped_members catalog) (conditions_in s)
  where_members s condition columns now after is so_far seen next =
      let f : ScopedCondition → List Placed = scoped_members catalog in
      let this : ScopedCondition = (whole_scope s, condition) in
      let own : placed_members (place_among [] columns) condition ≡ f this = ap (λ (cs : List SeenColumn). placed_members (place_among [] cs) condition) seen in
      next ∙ ap (λ (ps : List Placed). ps ++ placed_members (place_among [] columns) condition) so_far
      ∙ ap (λ (ps : List Placed). flat_map f (on_conditions [] s.chains) ++ ps) (own ∙ sym (append-nil (f this)))
      ∙ sym (flat_map-append f (on_conditions [] s.chains) (this ∷ []))
      ∙ ap (λ o. flat_map f (on_conditions [] s.chains ++ where_conditions (whole_scope s) o)) (sym is)

  pub no_where : (s : Select) (now : List Placed) → s.condition ≡ None → now ≡ flat_map (scoped_members catalog) (on_conditions [] s.chains) → now ≡ flat_map (scoped_members catalog) (conditions_in s)
  no_where s now is so_far =
      let f : ScopedCondition → List Placed = scoped_members catalog in
      so_far ∙ ap (flat_map f) (sym (append-nil (on_conditions [] s.chains)))
      ∙ ap (λ o. flat_map f (on_conditions [] s.chains ++ where_conditions (whole_scope s) o)) (sym is)

-- ---- selects without a fault

module _ (catalog : List TableDef) (scope : Scope) where
  -- the columns that a name matches
  abbrev here : ColumnReference → List SeenColumn
  here r = matches_among (seen_columns catalog scope.seen) r

  pub position_there : (r : ColumnReference) → match_faults (here r) ≡ no_faults → column_position catalog scope r ≡ Some (scope_place catalog scope r)
  unfolding match_faults
  position_there r clean =
      let before : ℕ = length (seen_values catalog scope.before) in
      (elim (position (names_column r) (seen_values catalog scope.seen)) as (λ o. position (names_column r) (seen_values catalog scope.seen) ≡ o → option_map (λ n. before + n) o ≡ Some (or_zero (option_map (λ n. before + n) o))) [
        | None ↦ (λ e. absurd (some_value (names_column r) has_value (seen_columns catalog scope.seen) (ap (λ (f : Faults). f.unknown) clean) (ap (λ (f : Faults). f.period) clean) e))
        | Some n ↦ (λ e. refl)
      ]) refl

  abbrev faults : Compare → Faults
  faults = compare_faults here

  abbrev by_name : Compare → Option CompareValues
  by_name = compare_by (column_position catalog scope)

  abbrev by_place : Compare → Option CompareValues
  by_place = placed_by (scope_place catalog scope)

  agree : (c : Condition Compare) → condition_faults faults c ≡ no_faults → map_condition by_name c ≡ map_condition by_place c
  agree c clean = replaced faults by_name by_place (compare_placed here (column_position catalog scope) (scope_place catalog scope) position_there) c clean

  members_agree : (cs : List (Condition Compare)) → faults_among (condition_faults faults) cs ≡ no_faults → map (map_condition by_name) cs ≡ map (map_condition by_place) cs
  members_agree [] clean = refl
  members_agree (c ∷ cs) clean =
      let parts = both_clear (condition_faults faults c) (faults_among (condition_faults faults) cs) clean in
      rw (agree c parts.0, members_agree cs parts.1) refl

  pub condition_agrees : (c : Condition Compare) → condition_faults faults c ≡ no_faults → written_members catalog (scope, c) ≡ scoped_members catalog (scope, c)
  condition_agrees c clean = members_agree (members c) (members_faults faults c ∙ clean)

module _ (catalog : List TableDef) where
  conjuncts_agree : (cs : List ScopedCondition) → faults_among (scoped_faults catalog) cs ≡ no_faults → flat_map (written_members catalog) cs ≡ flat_map (scoped_members catalog) cs
  conjuncts_agree [] clean = refl
  conjuncts_agree (c ∷ cs) clean =
      let parts = both_clear (scoped_faults catalog c) (faults_among (scoped_faults catalog) cs) clean in
      rw (condition_agrees catalog c.0 c.1 parts.0, conjuncts_agree cs parts.1) refl

  items_agree : (s : Select) (items : List SelectItem) → faults_among (item_faults (seen_columns catalog (tables_of s))) items ≡ no_faults
      → map (written_item catalog s) items ≡ map (placed_item (scope_place catalog (whole_scope s))) items
  items_agree s [] clean = refl
  items_agree s (item ∷ items) clean =
      let f : SelectItem → Faults = item_faults (seen_columns catalog (tables_of s)) in
      let parts = both_clear (f item) (faults_among f items) clean in
      rw (position_there catalog (whole_scope s) item.column parts.0, items_agree s items parts.1) refl

  references_agree : (rs : List TableReference) → lacks_any catalog rs ≡ false → map (written_reference catalog) rs ≡ map (placed_reference catalog) rs
  references_agree [] there = refl
  references_agree (r ∷ rs) there =
      let parts = or_parts (lacks_one catalog r) (lacks_any catalog rs) there in
      rw (found_parts catalog r parts.0, references_agree rs parts.1) refl

  -- a select by positions
  pub record Agrees (s : Select) : Type 0 where
    pub references : map (written_reference catalog) (tables_of s) ≡ map (placed_reference catalog) (tables_of s)
    pub conjuncts : written_conjuncts catalog s ≡ flat_map (scoped_members catalog) (conditions_in s)
    pub items : map (written_item catalog s) s.items ≡ map (placed_item (scope_place catalog (whole_scope s))) s.items

  pub select_agrees : (s : Select) → query_faults catalog (written.simple s) ≡ no_faults → Agrees s
  unfolding select_faults
  select_agrees s clean =
      let tables : Faults = reference_faults catalog (tables_of s) in
      let tests : Faults = faults_among (scoped_faults catalog) (conditions_in s) in
      let items : Faults = faults_among (item_faults (seen_columns catalog (tables_of s))) s.items in
      let all : Faults = either tables (either tests items) in
      let one = (both_clear (either all no_faults) no_faults clean).0 in
      let parts = both_clear tables (either tests items) (both_clear all no_faults one).0 in
      let rest = both_clear tests items parts.1 in
      record {
        references = references_agree (tables_of s) (ap (λ (f : Faults). f.table) parts.0);
        conjuncts = conjuncts_agree (conditions_in s) rest.0;
        items = items_agree s s.items rest.1;
      }

-- No foreign key of another table acts if a row of one of the three is removed.
use Rattle.std.proofs.Common.{◌≡◌, ℕ, ◌≤◌, ◌<◌, ◌==◌, ◌||◌, length, List, [], ◌∷◌, codes, cond, Bool, true, false, Some, None, Ok, refl, arith}
use Rattle.std.specs.Prelude.{Option, IfSome, option_and_then, option_map}
use Rattle.std.specs.List.{AllByRecursion, filter_map, find, flat_map}
use Rattle.std.proofs.lemmas.Bool.{or_parts}
use Rattle.std.proofs.lemmas.Bool.Decides.{nat_tests}
use Rattle.sqlite.specs.Order.{Row}
use Rattle.sqlite.specs.Tree.{Trees}
use Rattle.sqlite.proofs.Callers.{one_step}
use Rattle.sqlite_rules.specs.Action.{Writes, deed_for, pairs, work_by, work_for, works}
use Rattle.sqlite_rules.specs.Edit.{Applies, Edit, taken_by}
use Rattle.sqlite_rules.specs.declared.action.Deed.{Deed}
use Rattle.sqlite_schema.specs.Names.{same_name}
use Rattle.sqlite_schema.specs.Rules.{ParentKey, declared_order, key_in, key_places, parent_key}
use Rattle.sqlite_schema.specs.declared.schema.Keys.{Keys}
use Rattle.sqlite_schema.specs.declared.schema.Reference.{Reference}
use Rattle.sqlite_schema.specs.declared.schema.Table.{Table}
use Rattle.sqlite_trees.proofs.ListLemmas.{all_weaker}
use Rattle.sqlite_value.specs.declared.keys.Order.{Order}
use Rattle.version_tables.specs.Tables.{IsApart, Others, is_own_name, schema_with}

-- ---- the key that another table's reference points to is in a tree of another table

module _ (P : ℕ → Type 0) where
  abbrev pub IsKeyOf : Option ParentKey → Type 0
  IsKeyOf key = IfSome key (λ k. P k.0)

  order_of : (t : Table) (places : List ℕ) (order : Option Order) → P t.tree → IsKeyOf (option_map (λ o. (t.tree, places, o)) order)
  order_of t places None p = tt
  order_of t places (Some o) p = p

  key_of : (t : Table) (places : Option (List ℕ)) → P t.tree → IsKeyOf (option_and_then (key_in t) places)
  key_of t None p = tt
  key_of t (Some places) p = order_of t places (declared_order t places) p

  found_of : (ref : Reference) (tables : List Table) → AllByRecursion (λ t. P t.tree) tables → IsKeyOf (parent_key tables ref)
  found_of ref [] all = tt
  found_of ref (t ∷ more) all = go (same_name t.name ref.parent) (key_of t (key_places t ref.parent_columns) all.0) (found_of ref more all.1)
    where
      go : (b : Bool) → IsKeyOf (option_and_then (key_in t) (key_places t ref.parent_columns)) → IsKeyOf (parent_key more ref)
          → IsKeyOf (option_and_then (λ (p : Table). option_and_then (key_in p) (key_places p ref.parent_columns)) (cond b (Some t) (find (λ p. same_name p.name ref.parent) more)))
      go true here rest = here
      go false here rest = rest

  pub parent_of : (others : Others) (ref : Reference) → AllByRecursion (λ t. P t.tree) others.tables → is_own_name ref.parent ≡ false → IsKeyOf (parent_key (schema_with others).tables ref)
  parent_of others ref all other =
      let name = ref.parent in
      let first = or_parts (same_name (codes "bt_meta") name) (same_name (codes "bt_table") name || same_name (codes "bt_version") name) other in
      let rest = or_parts (same_name (codes "bt_table") name) (same_name (codes "bt_version") name) first.1 in
      rw (first.0, rest.0, rest.1) (found_of ref others.tables all)

-- ---- so there is nothing to do

module _ (others : Others) (apart : AllByRecursion IsApart others.tables) (tree : ℕ) (low : tree < 4) (keys : Keys) (olds news : List Row) where
  far : AllByRecursion (λ t. 4 ≤ t.tree) others.tables
  far = all_weaker IsApart (λ t. 4 ≤ t.tree) (λ t one. one.tree) others.tables apart

  no_work_by : (child : Table) (ref : Reference) (deed : Option Deed) (key : Option ParentKey) → IsKeyOf (λ t. 4 ≤ t) key → work_by 0 tree (pairs olds news) child ref deed key ≡ None
  no_work_by child ref None key way = refl
  no_work_by child ref (Some deed) None way = refl
  no_work_by child ref (Some deed) (Some key) way = let other : (key.0 == tree) ≡ false = grind (arith, nat_tests) in rw other refl

  none_of : (child : Table) (refs : List Reference) → AllByRecursion (λ ref. is_own_name ref.parent ≡ false) refs → filter_map (work_for (schema_with others) keys 0 tree olds news child) refs ≡ []
  none_of child [] apart_refs = refl
  none_of child (ref ∷ more) apart_refs =
      let here = no_work_by child ref (deed_for keys (length news == 0) ref) (parent_key (schema_with others).tables ref) (parent_of (λ t. 4 ≤ t) others ref far apart_refs.0) in
      rw here (none_of child more apart_refs.1)

  none_over : (tables : List Table) → AllByRecursion IsApart tables → flat_map (λ child. filter_map (work_for (schema_with others) keys 0 tree olds news child) child.references) tables ≡ []
  none_over [] all = refl
  none_over (t ∷ more) all = rw (none_of t t.references all.0.refers) (none_over more all.1)

  pub no_works : works (schema_with others) keys 0 tree olds news ≡ []
  no_works = none_over others.tables apart

-- a write of one of the first trees is its one step
pub one_step_with : (others : Others) → AllByRecursion IsApart others.tables → (keys : Keys) (db next : Trees) (edit : Edit) → edit.table.tree < 4 → Writes (schema_with others) keys db edit (Ok next) → Applies (schema_with others) keys db edit next
one_step_with others apart keys db next edit low writes = one_step (schema_with others) keys db next edit (no_works others apart edit.table.tree low keys (taken_by db edit) edit.news) writes

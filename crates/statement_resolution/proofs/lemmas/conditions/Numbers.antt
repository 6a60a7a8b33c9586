-- Conditions with their tests replaced, by their parts; and what has a position if it has no fault.
use Rattle.std.proofs.Common.{◌≡◌, ◌∙◌, ◌<◌, ◌≤◌, ◌+◌, ◌++◌, ℕ, List, [], ◌∷◌, Option, None, Some, ap, get_or, length, map, refl, subst, sym, take, take_all}
use Rattle.std.specs.Global.{Box, Vec}
use Rattle.std.specs.Option.{option_map}
use Rattle.std.proofs.lemmas.List.{map_push, take_more}
use Rattle.sql_statements.specs.declared.tree.Tree as code
use Rattle.sql_statements.specs.declared.statement.Assignment as written
use Rattle.sql_statements.specs.declared.statement.ColumnReference.{ColumnReference}
use Rattle.sql_statements.specs.declared.statement.Compare.{Compare}
use Rattle.sql_statements.specs.declared.statement.Operand.{Operand}
use Rattle.sql_statements.specs.declared.statement.Operand.TheVariants as operand
use Rattle.sql_statements.specs.Plain.{plain_condition}
use Rattle.sql_statements.specs.Trees.{Condition, Conditions, all, any, conditions_of, more, negated, none, test}
use Rattle.catalog_core.proofs.lemmas.conditions.Truth.{and_view, not_view, or_view}
use Rattle.catalog_core.proofs.lemmas.table.Positions.{positioned}
use Rattle.catalog_core.specs.Conditions.{tests_among, tests_of}
use Rattle.catalog_core.specs.query.Selection.{value_position}
use Rattle.statement_resolution.proofs.lemmas.judged.FaultSums.{both_clear, clear_parts}
use Rattle.statement_resolution.proofs.lemmas.query.SeenColumns.{own_place, own_there}
use Rattle.statement_resolution.specs.Faults.{condition_faults, either, faults_among, no_faults, where_faults}
use Rattle.statement_resolution.specs.Placing.{or_zero, place_compare, place_side, placed_assignment}
use Rattle.statement_resolution.specs.Positions.{ReplacesWhere, ResolvesWhere, compare_by, map_condition, map_conditions, resolved_assignment, resolved_comparison, side_by}
use Rattle.statement_resolution.specs.TableFaults.{own_compare_faults, set_faults}
use Rattle.statement_resolution.specs.query.Faults.{compare_faults, match_faults, matches_among, side_faults}
use Rattle.statement_resolution.specs.query.Places.{place_among}
use Rattle.statement_resolution.specs.query.Scopes.{SeenColumn, own_columns}
use Rattle.statement_resolution.specs.declared.faults.Faults.{Faults}
use Rattle.catalog_core.specs.declared.change.Assignment.{Assignment}
use Rattle.catalog_core.specs.declared.condition.CompareValues.{CompareValues}
use Rattle.catalog_core.specs.declared.table.TableDef.{TableDef}

-- ---- conditions

module _ {T R : Type 0} (f : T → R) where
  abbrev pub mapped : code.Tree T → Condition R
  mapped part = map_condition f (plain_condition part)

  mapped_parts : (parts : List (code.Tree T)) → map_conditions f (conditions_of (map plain_condition parts)) ≡ conditions_of (map mapped parts)
  mapped_parts [] = refl
  mapped_parts (part ∷ parts) = ap (λ (cs : Conditions R). more (mapped part) cs) (mapped_parts parts)

  or_mapped : (first : Box (code.Tree T)) (others : Vec (code.Tree T))
      → mapped (code.Or first others) ≡ any (more (mapped first.value) (conditions_of (map mapped others.items)))
  or_mapped first others = ap (map_condition f) (or_view first others) ∙ ap (λ (cs : Conditions R). any (more (mapped first.value) cs)) (mapped_parts others.items)

  and_mapped : (first : Box (code.Tree T)) (others : Vec (code.Tree T))
      → mapped (code.And first others) ≡ all (more (mapped first.value) (conditions_of (map mapped others.items)))
  and_mapped first others = ap (map_condition f) (and_view first others) ∙ ap (λ (cs : Conditions R). all (more (mapped first.value) cs)) (mapped_parts others.items)

  not_mapped : (part : Box (code.Tree T)) → mapped (code.Not part) ≡ negated (mapped part.value)
  not_mapped part = ap (map_condition f) (not_view part)

-- two conditions that are alike part by part
module _ {T S R : Type 0} (f : T → R) (g : S → R) where
  pub same_or : (first : Box (code.Tree T)) (others : Vec (code.Tree T)) (other_first : Box (code.Tree S)) (more_others : Vec (code.Tree S))
      → mapped f first.value ≡ mapped g other_first.value → map (mapped f) others.items ≡ map (mapped g) more_others.items
      → mapped f (code.Or first others) ≡ mapped g (code.Or other_first more_others)
  same_or first others other_first more_others h k =
      or_mapped f first others
      ∙ ap (λ (c : Condition R). any (more c (conditions_of (map (mapped f) others.items)))) h
      ∙ ap (λ (cs : List (Condition R)). any (more (mapped g other_first.value) (conditions_of cs))) k
      ∙ sym (or_mapped g other_first more_others)

  pub same_and : (first : Box (code.Tree T)) (others : Vec (code.Tree T)) (other_first : Box (code.Tree S)) (more_others : Vec (code.Tree S))
      → mapped f first.value ≡ mapped g other_first.value → map (mapped f) others.items ≡ map (mapped g) more_others.items
      → mapped f (code.And first others) ≡ mapped g (code.And other_first more_others)
  same_and first others other_first more_others h k =
      and_mapped f first others
      ∙ ap (λ (c : Condition R). all (more c (conditions_of (map (mapped f) others.items)))) h
      ∙ ap (λ (cs : List (Condition R)). all (more (mapped g other_first.value) (conditions_of cs))) k
      ∙ sym (and_mapped g other_first more_others)

-- ---- comparisons without a fault

-- each test by the places of its columns
abbrev pub placed_by : (ColumnReference → ℕ) → Compare → Option CompareValues
placed_by place c = Some (place_compare place c)

module _
    (matches : ColumnReference → List SeenColumn)
    (position : ColumnReference → Option ℕ)
    (place : ColumnReference → ℕ)
    (there : (r : ColumnReference) → match_faults (matches r) ≡ no_faults → position r ≡ Some (place r))
  where
    side_placed : (side : Operand) → side_faults matches side ≡ no_faults → side_by position side ≡ Some (place_side place side)
    side_placed (operand.Column r) clean = rw (there r clean) refl
    side_placed (operand.Literal value) clean = refl

    pub compare_placed : (c : Compare) → compare_faults matches c ≡ no_faults → compare_by position c ≡ placed_by place c
    unfolding compare_faults
    compare_placed c clean =
        let left : Faults = side_faults matches c.left in
        let right : Faults = side_faults matches c.right in
        let sides = both_clear left right (both_clear (either left right) _ clean).0 in
        rw (side_placed c.left sides.0, side_placed c.right sides.1) refl

-- ---- conditions without a fault

-- two ways to replace tests that agree on tests without a fault
module _ {T R : Type 0} (faults : T → Faults) (f g : T → R) (same : (x : T) → faults x ≡ no_faults → f x ≡ g x) where
  mutual
    pub agree : (c : Condition T) → condition_faults faults c ≡ no_faults → map_condition f c ≡ map_condition g c
    agree (any parts) clean = ap (λ (cs : Conditions R). any cs) (agree_each parts clean)
    agree (all parts) clean = ap (λ (cs : Conditions R). all cs) (agree_each parts clean)
    agree (negated part) clean = ap (λ (c : Condition R). negated c) (agree part clean)
    agree (test leaf) clean = ap (λ (x : R). test x) (same leaf (both_clear (faults leaf) no_faults clean).0)

    agree_each : (parts : Conditions T) → faults_among faults (tests_among parts) ≡ no_faults → map_conditions f parts ≡ map_conditions g parts
    agree_each none clean = refl
    agree_each (more part parts) clean =
        let both = clear_parts faults (tests_of part) (tests_among parts) clean in
        ap (λ (c : Condition R). more c (map_conditions f parts)) (agree part both.0) ∙ ap (λ (cs : Conditions R). more (map_condition g part) cs) (agree_each parts both.1)

  pub where_agrees : {S : Type 0} (h : S → R) (condition : Option (Condition T)) (numbered : Option (code.Tree S)) → where_faults faults condition ≡ no_faults
      → ReplacesWhere g h condition numbered → ReplacesWhere f h condition numbered
  where_agrees h None None clean same = tt
  where_agrees h None (Some n) clean same = same
  where_agrees h (Some c) None clean same = same
  where_agrees h (Some c) (Some n) clean same = agree c clean ∙ same

-- a WHERE of an UPDATE or a DELETE by its positions
pub where_placed : (t : TableDef) (columns : List SeenColumn) (condition : Option (Condition Compare)) (numbered : Option (code.Tree CompareValues)) → columns ≡ own_columns t
    → where_faults (own_compare_faults t) condition ≡ no_faults → ReplacesWhere (placed_by (place_among [] columns)) (λ leaf. Some leaf) condition numbered
    → ResolvesWhere (resolved_comparison t) condition numbered
where_placed t columns condition numbered seen clean same =
    where_agrees (own_compare_faults t) (resolved_comparison t) (placed_by (own_place t))
    (compare_placed (matches_among (own_columns t)) (λ (r : ColumnReference). value_position t r.name) (own_place t) (own_there t)) (λ leaf. Some leaf) condition numbered clean
    (subst (λ (cs : List SeenColumn). ReplacesWhere (placed_by (place_among [] cs)) (λ leaf. Some leaf) condition numbered) seen same)

-- ---- assignments without a fault

abbrev set_at : written.Assignment → ℕ → Assignment
set_at a n = record { position = n; value = a.value }

set_there : (t : TableDef) (a : written.Assignment) → set_faults t a ≡ no_faults → resolved_assignment t a ≡ Some (placed_assignment t a)
unfolding set_faults
set_there t a clean =
    (elim (value_position t a.column) as (λ o. value_position t a.column ≡ o → option_map (set_at a) o ≡ Some (set_at a (or_zero o))) [
      | None ↦ (λ e. absurd (positioned t a.column (ap (λ (f : Faults). f.unknown) clean) (ap (λ (f : Faults). f.period) clean) e))
      | Some n ↦ (λ e. refl)
    ]) refl

pub sets_placed : (t : TableDef) (sets : List written.Assignment) → faults_among (set_faults t) sets ≡ no_faults → map (resolved_assignment t) sets ≡ map (λ a. Some a) (map (placed_assignment t) sets)
sets_placed t [] clean = refl
sets_placed t (a ∷ sets) clean =
    let parts = both_clear (set_faults t a) (faults_among (set_faults t) sets) clean in
    rw (set_there t a parts.0, sets_placed t sets parts.1) refl

-- ---- loops over parts

pub map_more : {A B C : Type 0} (f : A → C) (g : B → C) (xs : List A) (i : ℕ) (x : A) (ys zs : List B) (y : B)
    → i < length xs → x ≡ get_or xs i x → map f (take i xs) ≡ map g ys → f x ≡ g y → zs ≡ ys ++ y ∷ []
    → map f (take (i + 1) xs) ≡ map g zs
map_more {A} {B} {C} f g xs i x ys zs y here item before same after =
    ap (map f) (take_more xs i x here)
    ∙ map_push f (take i xs) (get_or xs i x)
    ∙ ap (λ (cs : List C). cs ++ f (get_or xs i x) ∷ []) before
    ∙ ap (λ (c : C). map g ys ++ c ∷ []) (ap f (sym item) ∙ same)
    ∙ sym (map_push g ys y)
    ∙ ap (map g) (sym after)

pub map_end : {A B C : Type 0} (f : A → C) (g : B → C) (xs whole : List A) (i : ℕ) (ys : List B)
    → length xs ≤ i → xs ≡ whole → map f (take i xs) ≡ map g ys → map f whole ≡ map g ys
map_end f g xs whole i ys done same before = ap (map f) (sym same) ∙ ap (map f) (sym (take_all i xs done)) ∙ before

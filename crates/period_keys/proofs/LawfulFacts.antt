-- The faults of a change among the period rows after it.
use Rattle.std.proofs.Common.{◌≡◌, ◌⊎◌, ◌==◌, ◌∙◌, ℕ, ℤ, Bool, true, false, List, Some, ap, arith, cond, inl, inr, refl, subst, sym}
use Rattle.std.specs.Prelude.{◌↔◌, IsPermutation, Option, unwrap_or}
use Rattle.std.proofs.lemmas.List.Sorted.{Contains-permutation, IsPermutation-refl, IsPermutation-sym}
use Rattle.period_core.specs.declared.row.PeriodRow.{PeriodRow}
use Rattle.period_core.specs.declared.value.Value.{Value}
use Rattle.temporal_model.specs.Snapshot.{values_on}
use Rattle.catalog_core.specs.table.TableWords.{table_of}
use Rattle.catalog_core.specs.declared.change.Change.{Change}
use Rattle.catalog_core.specs.declared.table.Reference.{Reference}
use Rattle.catalog_core.specs.declared.table.TableDef.{TableDef}
use Rattle.history_model.specs.Effects.{effect, rows_after, traced}
use Rattle.history_model.specs.Histories.{State}
use Rattle.portion_dml.specs.Plans.{HaveEffect}
use Rattle.period_keys.specs.Days.{LacksParent, ShareKey}
use Rattle.period_keys.specs.Keys.{HasNoClash, IsKeyClash, IsUncovered}
use Rattle.period_keys.specs.Lawful.{HoldsTable, IsKeyFault, IsLawfulChange, IsLawfulState, LacksParentBy, OriginsShareKey, Refers, key_positions, own_positions, parent_positions, state_after}
use Rattle.period_keys.proofs.ByDays.{clashes_of_days, uncovered_of_days}
use Rattle.period_keys.proofs.Origins.{of_origins, origins_moved, traced_moved}

pub definition_is : (x y : TableDef) → Some x ≡ Some y → x ≡ y
definition_is x y e = ap (λ (o : Option TableDef). unwrap_or o x) e

pub faults_of_clashes :
    (catalog : List TableDef) (before : State) (change : Change) (def : TableDef) (rows after : List PeriodRow) → table_of catalog change.table ≡ Some def
    → HoldsTable rows before change.table → HaveEffect change.action rows after → HasNoClash (key_positions def) rows
    → (day : ℤ) → (IsKeyClash (key_positions def) after day ↔ IsKeyFault catalog before change day)
faults_of_clashes catalog before change def rows after is holds effect none day =
    let key : List ℕ = key_positions def in
    let were : List (List Value) = values_on rows day in
    let clean : ShareKey key were → ⊥ = λ h. none day ((clashes_of_days key rows day).1 h) in
    let law = of_origins key change.action day were (values_on after day) (effect day) clean in
    let moved = traced_moved change.action day were (before change.table day) (holds day) in (
      λ h. (def, is, origins_moved key (traced change.action day were) (traced change.action day (before change.table day)) moved (law.0 ((clashes_of_days key after day).0 h))),
      λ (other, other_is, shared).
          let same : other ≡ def = definition_is other def (sym other_is ∙ is) in
          (clashes_of_days key after day).1 (law.1
          (origins_moved key (traced change.action day (before change.table day)) (traced change.action day were) (IsPermutation-sym (traced change.action day were) (traced change.action day (before change.table day)) moved)
          (subst (λ (d : TableDef). OriginsShareKey (key_positions d) (traced change.action day (before change.table day))) same shared))),
    )

-- a list without a parent for some child, with other lists of the same members
lacking_moved : (own : List ℕ) (children others : List (List Value)) (keys : List ℕ) (parents more : List (List Value)) → IsPermutation children others → IsPermutation more parents
    → LacksParent own children keys parents → LacksParent own others keys more
lacking_moved own children others keys parents more moved back (child, there, alone) =
    (child, Contains-permutation children others child moved there, λ parent in_more same. alone parent (Contains-permutation more parents parent back in_more) same)

pub lacking_of_uncovered :
    (state : State) (number : ℕ) (child : TableDef) (reference : Reference) (parent : TableDef) (children parents : List PeriodRow)
    → HoldsTable children state number → HoldsTable parents state reference.parent
    → (day : ℤ) → (IsUncovered (own_positions child reference) children (parent_positions parent reference) parents day ↔ LacksParentBy state number child reference parent day)
lacking_of_uncovered state number child reference parent children parents below above day =
    let own : List ℕ = own_positions child reference in
    let keys : List ℕ = parent_positions parent reference in
    let by_days = uncovered_of_days own children keys parents day in (
      λ h. lacking_moved own (values_on children day) (state number day) keys (values_on parents day) (state reference.parent day) (below day)
          (IsPermutation-sym (values_on parents day) (state reference.parent day) (above day)) (by_days.0 h),
      λ h. by_days.1 (lacking_moved own (state number day) (values_on children day) keys (state reference.parent day) (values_on parents day)
          (IsPermutation-sym (values_on children day) (state number day) (below day)) (above day) h),
    )

-- a table that is not changed keeps its rows
unchanged : (change : Change) (before : State) (table : ℕ) (day : ℤ) → (table == change.table) ≡ false → state_after change before table day ≡ before table day
unchanged change before table day other = ap (λ b. cond b (rows_after change.action day (before table day)) (before table day)) other

same_number : (a b : ℕ) → (a == b) ≡ true → a ≡ b
same_number a b e = grind (arith, e)

pub own_references :
    (catalog : List TableDef) (before : State) (change : Change) → IsLawfulState catalog before
    → (number : ℕ) (child : TableDef) (reference : Reference) (parent : TableDef) (day : ℤ) → Refers catalog number child reference parent
    → LacksParentBy (state_after change before) number child reference parent day → (number ≡ change.table) ⊎ (reference.parent ≡ change.table)
own_references catalog before change lawful number child reference parent day refers lacks =
    by_tests (number == change.table) (reference.parent == change.table) refl refl
  where
    own : List ℕ
    own = own_positions child reference

    keys : List ℕ
    keys = parent_positions parent reference

    by_tests : (a b : Bool) → (number == change.table) ≡ a → (reference.parent == change.table) ≡ b → (number ≡ change.table) ⊎ (reference.parent ≡ change.table)
    by_tests true b is other = inl (same_number number change.table is)
    by_tests false true other is = inr (same_number reference.parent change.table is)
    by_tests false false child_other parent_other =
        absurd (lawful.references day (
          number,
          child,
          reference,
          parent,
          refers,
          subst (λ (rows : List (List Value)). LacksParent own rows keys (before reference.parent day)) (unchanged change before number day child_other)
              (subst (λ (rows : List (List Value)). LacksParent own (state_after change before number day) keys rows) (unchanged change before reference.parent day parent_other) lacks),
        ))

-- a lawful change leaves a lawful state
pub stays_lawful : (catalog : List TableDef) (before : State) (change : Change) → IsLawfulState catalog before → IsLawfulChange catalog before change → IsLawfulState catalog (state_after change before)
stays_lawful catalog before change lawful allowed = record {
  keys = λ table def is day shared. by_test table def is day (table == change.table) refl shared;
  references = allowed.references;
} where
  by_test : (table : ℕ) (def : TableDef) → table_of catalog table ≡ Some def → (day : ℤ) → (b : Bool) → (table == change.table) ≡ b
      → ShareKey (key_positions def) (cond b (rows_after change.action day (before table day)) (before table day)) → ⊥
  by_test table def is day false other shared = lawful.keys table def is day shared
  by_test table def is day true e shared =
      let same : table ≡ change.table = same_number table change.table e in
      let rows : List (List Value) = before table day in
      let law = of_origins (key_positions def) change.action day rows (rows_after change.action day rows) (IsPermutation-refl (rows_after change.action day rows)) (lawful.keys table def is day) in
      allowed.keys day (def, subst (λ n. table_of catalog n ≡ Some def) same is, subst (λ n. OriginsShareKey (key_positions def) (traced change.action day (before n day))) same (law.0 shared))

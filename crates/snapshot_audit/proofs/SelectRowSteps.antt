-- A select over periods: one reference more, the last reference, and all of them.
use Rattle.std.proofs.Common.{◌≡◌, ◌↔◌, ◌≤ℤ◌, ◌<ℤ◌, ℤ, List, [], ◌∷◌, ◌++◌, refl, sym, ◌∙◌, ap, subst, append_assoc, append-nil}
use Rattle.period_core.specs.Calendar.{first_day, last_day}
use Rattle.period_core.specs.declared.value.Value.{Value}
use Rattle.period_core.specs.declared.row.PeriodRow.{PeriodRow}
use Rattle.temporal_model.specs.Snapshot.{InSnapshot}
use Rattle.temporal_model.proofs.Members.{Contains-here, Contains-one}
use Rattle.temporal_model.proofs.Snapshots.{held, in_snapshot}
use Rattle.catalog_core.specs.declared.query.resolved.QueryReference.{QueryReference}
use Rattle.catalog_core.specs.declared.query.resolved.Select.{Select}
use Rattle.catalog_core.specs.query.Queries.{rows_for}
use Rattle.std.specs.Prelude.{IsTrue}
use Rattle.history_model.specs.OrdinaryQuery.{VisibleRows, VisibleInTables, meets_all}
use Rattle.snapshot_audit.specs.declared.combined_rows.CombinedOutput.TheVariants.{Front, SelectList}
use Rattle.snapshot_audit.specs.Differences.{InSelectOn}
use Rattle.snapshot_audit.specs.Pairs.{AreJoined}
use Rattle.snapshot_audit.specs.Selections.{InRest, InRestOn, IsSelected}
use Rattle.snapshot_audit.specs.Verdicts.{AgreesAlways}
use Rattle.snapshot_audit.proofs.SelectSteps.{rest_none}

-- a combined row continues with values that the first reference sees, and then with the later ones' values
abbrev InRestAfter : VisibleRows → Select → QueryReference → List QueryReference → List Value → List Value → Type 0
InRestAfter Sees select reference more front row =
    (next : List Value) × Sees reference next × InRest Sees select more (front ++ next) row

rest_step :
    (Sees : VisibleRows) (select : Select) (reference : QueryReference) (more : List QueryReference) (front row : List Value)
    → (InRestAfter Sees select reference more front row ↔ InRest Sees select (reference ∷ more) front row)
rest_step Sees select reference more front row = (
  λ (next, sees, (rest, product, its)). (
    next ++ rest,
    (next, rest, sees, product, refl),
    subst (λ vs. IsSelected select vs row) (append_assoc front next rest) its,
  ),
  λ (all, (first, rest, sees, product, is), its). (
    first,
    sees,
    (rest, product, subst (λ vs. IsSelected select vs row) (sym (append_assoc front first rest)) (subst (λ vs. IsSelected select (front ++ vs) row) (sym is) its)),
  ),
)

module _ (tables : List (List PeriodRow)) (select : Select) (reference : QueryReference) (fronts others joined : List PeriodRow) (seen : others ≡ rows_for tables reference) where
  pub rest_last :
      AreJoined select SelectList fronts others joined → (day : ℤ) (row : List Value)
      → (InSnapshot joined day row ↔ InRestOn (VisibleInTables tables) select (reference ∷ []) fronts day row)
  rest_last are day row = (
    λ h.
        let (first, second, p, q, its) = are.made day row h in (
          first,
          p,
          (rest_step (VisibleInTables tables day) select reference [] first row).0
              (second, subst (λ rows. InSnapshot rows day second) seen q, (rest_none (VisibleInTables tables day) select (first ++ second) row).0 its),
        ),
    λ (front, p, r).
        let (next, sees, last) = (rest_step (VisibleInTables tables day) select reference [] front row).1 r in
        let its : IsSelected select (front ++ next) row = (rest_none (VisibleInTables tables day) select (front ++ next) row).1 last in
        are.all day front next row p (subst (λ rows. InSnapshot rows day next) (sym seen) sees)
        ([], subst (λ vs. IsTrue (meets_all select.conjuncts vs)) (sym (append-nil (front ++ next))) its.0) its,
  )

  pub rest_more :
      (more : List QueryReference) (result : List PeriodRow) → AreJoined select Front fronts others joined
      → ((day : ℤ) (row : List Value) → (InSnapshot result day row ↔ InRestOn (VisibleInTables tables) select more joined day row))
      → (day : ℤ) (row : List Value)
      → (InSnapshot result day row ↔ InRestOn (VisibleInTables tables) select (reference ∷ more) fronts day row)
  rest_more more result are same day row = (
    λ h.
        let (front, j, r) = (same day row).0 h in
        let (first, second, p, q, is) = are.made day front j in (
          first,
          p,
          (rest_step (VisibleInTables tables day) select reference more first row).0
              (second, subst (λ rows. InSnapshot rows day second) seen q, subst (λ vs. InRest (VisibleInTables tables day) select more vs row) (sym is) r),
        ),
    λ (front, p, r).
        let (next, sees, (rest, product, its)) = (rest_step (VisibleInTables tables day) select reference more front row).1 r in
        (same day row).1 (
          front ++ next,
          are.all day front next (front ++ next) p (subst (λ rows. InSnapshot rows day next) (sym seen) sees) (rest, its.0) refl,
          (rest, product, its),
        ),
  )

-- the rows of a select, from one row of no values over all days
pub rest_all :
    (tables : List (List PeriodRow)) (select : Select) (front : PeriodRow) (result : List PeriodRow) → front.values ≡ []
    → front.period.start ≡ first_day → front.period.end ≡ last_day
    → ((day : ℤ) (row : List Value) → (InSnapshot result day row ↔ InRestOn (VisibleInTables tables) select select.references (front ∷ []) day row))
    → AgreesAlways (InSelectOn tables select) result
rest_all tables select front result none start end same day is_day row = (
  λ h.
      let (values, p, (rest, product, its)) = (same day row).0 h in
      let (r, c, v, covers) = held (front ∷ []) day values p in
      let empty : values ≡ [] = sym v ∙ ap (λ (x : PeriodRow). x.values) (sym (Contains-one front r c)) ∙ none in
      let (met, read) = subst (λ vs. IsSelected select (vs ++ rest) row) empty its in
      (rest, product, met, read),
  λ (values, product, met, read). (same day row).1 (
    [],
    in_snapshot (front ∷ []) day [] (front, Contains-here front [], none, (subst (λ d. d ≤ℤ day) (sym start) is_day.0, subst (λ d. day <ℤ d) (sym end) is_day.1)),
    (values, product, (met, read)),
  ),
)

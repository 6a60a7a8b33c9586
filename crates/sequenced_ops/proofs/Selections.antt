-- The steps of a selection: a row is accepted or refused.
use Rattle.std.proofs.Common.{◌≡◌, ◌↔◌, ◌++◌, ℕ, ℤ, Bool, true, false, IsTrue, List, Option, None, Some, MatchOption, [], ◌∷◌, refl, sym, subst, inl, inr, ◌⊎◌, append-nil}
use Rattle.catalog_core.specs.Conditions.{meets}
use Rattle.period_core.specs.DaySets.{InPeriod}
use Rattle.period_core.specs.declared.value.Value.{Value}
use Rattle.period_core.specs.declared.row.PeriodRow.{PeriodRow}
use Rattle.period_core.proofs.PeriodEnds.{days_from, days_to, day_in}
use Rattle.temporal_model.specs.Snapshot.{InSnapshot}
use Rattle.sequenced_ops.specs.Operations.{AddsProjection, Cond, InProjection, InSelection, ReadsColumns}
use Rattle.sequenced_ops.specs.Sweeping.{RowHolds}
use Rattle.sequenced_ops.proofs.TwoRows.{holds-cons, holds-nil, holds-push}

-- the rows selected already, and the selection of the rest, are the selection of all
abbrev pub SelectionLeft : Cond → List PeriodRow → List PeriodRow → List PeriodRow → Type 0
SelectionLeft condition rows kept rest =
    (day : ℤ) (vs : List Value) → ((InSnapshot kept day vs ⊎ InSelection condition rest day vs) ↔ InSelection condition rows day vs)

-- the next row meets the condition
pub row_accepted :
    (condition : Cond) (row : PeriodRow) (rest : List PeriodRow) → meets condition row.values ≡ true → (day : ℤ) (vs : List Value)
    → (InSelection condition (row ∷ rest) day vs ↔ (RowHolds row day vs ⊎ InSelection condition rest day vs))
row_accepted condition row rest met day vs = (
  λ (there, its). elim ((holds-cons row rest day vs).0 there) [ inl here ↦ inl here | inr more ↦ inr (more, its) ],
  λ h. elim h [
    | inl here ↦ ((holds-cons row rest day vs).1 (inl here), subst (λ v. meets condition v ≡ true) here.0 met)
    | inr more ↦ ((holds-cons row rest day vs).1 (inr more.0), more.1)
  ],
)

-- the next row does not meet the condition
pub row_refused :
    (condition : Cond) (row : PeriodRow) (rest : List PeriodRow) → meets condition row.values ≡ false → (day : ℤ) (vs : List Value)
    → (InSelection condition (row ∷ rest) day vs ↔ InSelection condition rest day vs)
row_refused condition row rest not day vs = (
  λ (there, met). elim ((holds-cons row rest day vs).0 there) [
    | inl here ↦ absurd (let refused : meets condition vs ≡ false = subst (λ v. meets condition v ≡ false) here.0 not in cc)
    | inr more ↦ (more, met)
  ],
  λ (there, met). ((holds-cons row rest day vs).1 (inr there), met),
)

-- ---- selections that are projected

-- the values that the rows hold on the day and that are accepted
abbrev pub InAccepted : (List Value → Bool) → List PeriodRow → ℤ → List Value → Type 0
InAccepted accepts rows day values = InSnapshot rows day values × IsTrue (accepts values)

-- the row holds on the day and is accepted, and these are its values at the positions
abbrev pub IsAcceptedOn : (List Value → Bool) → List ℕ → PeriodRow → ℤ → List Value → Type 0
IsAcceptedOn accepts columns row day read =
    InPeriod row.period day × IsTrue (accepts row.values) × ReadsColumns columns row.values read

-- the rows selected already are the projection of the selection of those that are done
abbrev pub SelectedSoFar
    : (List Value → Bool) → List ℕ → List PeriodRow → List PeriodRow → Type 0
SelectedSoFar accepts columns selected done =
    (day : ℤ) (vs : List Value)
    → (InSnapshot selected day vs ↔ InProjection columns (InAccepted accepts done) day vs)

pub selected_none
    : (accepts : List Value → Bool) (columns : List ℕ) → SelectedSoFar accepts columns [] []
selected_none accepts columns day vs = (
  λ h. absurd (holds-nil day vs h),
  λ (values, (there, met), reads). absurd (holds-nil day values there),
)

pub selected_next
    : (accepts : List Value → Bool) (columns : List ℕ) (selected more done : List PeriodRow)
    → (row : PeriodRow) → SelectedSoFar accepts columns selected done
    → ((day : ℤ) (vs : List Value)
    → (InSnapshot more day vs
    ↔ (InSnapshot selected day vs ⊎ IsAcceptedOn accepts columns row day vs)))
    → SelectedSoFar accepts columns more (done ++ row ∷ [])
selected_next accepts columns selected more done row before step day vs = (
  λ h. elim ((step day vs).0 h) [
    | inl old ↦ let (values, (there, met), reads) = (before day vs).0 old in
        (values, ((holds-push done row day values).1 (inl there), met), reads)
    | inr (inside, met, reads) ↦
        let here : RowHolds row day row.values =
        (refl, days_from row.period day inside, days_to row.period day inside) in
        (row.values, ((holds-push done row day row.values).1 (inr here), met), reads)
  ],
  λ (values, (there, met), reads).
      (step day vs).1
      (elim ((holds-push done row day values).0 there) [
        | inl old ↦ inl ((before day vs).1 (values, (old, met), reads))
        | inr (same, from, to) ↦ inr (
          day_in row.period day from to,
          subst (λ v. accepts v ≡ true) (sym same) met,
          subst (λ v. ReadsColumns columns v vs) (sym same) reads,
        )
      ]),
)

-- a row that is accepted, projected
pub projected_selected
    : (accepts : List Value → Bool) (columns : List ℕ) (old new : List PeriodRow)
    → (row : PeriodRow) → accepts row.values ≡ true
    → ((day : ℤ) (vs : List Value)
    → (InSnapshot new day vs
    ↔ (InSnapshot old day vs
    ⊎ (ReadsColumns columns row.values vs × InPeriod row.period day))))
    → (day : ℤ) (vs : List Value)
    → (InSnapshot new day vs
    ↔ (InSnapshot old day vs ⊎ IsAcceptedOn accepts columns row day vs))
projected_selected accepts columns old new row met step day vs = (
  λ h.
      elim ((step day vs).0 h) [
        | inl was ↦ inl was
        | inr (reads, inside) ↦ inr (inside, met, reads)
      ],
  λ h.
      (step day vs).1
      (elim h [ inl was ↦ inl was | inr (inside, its, reads) ↦ inr (reads, inside) ]),
)

-- ---- the row that is added

module _ (accepts : List Value → Bool) (columns : List ℕ) (row : PeriodRow) (old new : List PeriodRow) where
  pub AddsProjection-accepted : accepts row.values ≡ true → AddsProjection (λ _. true) columns row old new → AddsProjection accepts columns row old new
  AddsProjection-accepted met adds = record { added = adds.added; behind = adds.behind; is = again adds.added adds.is }
    where
      again : (added : Option PeriodRow)
          → MatchOption added ((read : List Value) → IsTrue true → ReadsColumns columns row.values read → ⊥)
          (λ projected. IsTrue true × ReadsColumns columns row.values projected.values × (projected.period ≡ row.period))
          → MatchOption added ((read : List Value) → IsTrue (accepts row.values) → ReadsColumns columns row.values read → ⊥)
          (λ projected. IsTrue (accepts row.values) × ReadsColumns columns row.values projected.values × (projected.period ≡ row.period))
      again None h = λ read ok reads. h read refl reads
      again (Some projected) h = (met, h.1, h.2)

pub AddsProjection-refused :
    (accepts : List Value → Bool) (columns : List ℕ) (row : PeriodRow) (rows : List PeriodRow)
    → accepts row.values ≡ false → AddsProjection accepts columns row rows rows
AddsProjection-refused accepts columns row rows not = record {
  added = None;
  behind = sym (append-nil rows);
  is = λ read ok reads. cc;
}

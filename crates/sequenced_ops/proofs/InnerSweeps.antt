-- The steps of the sweep that intersects: days that are passed, and days that both sides share.
use Rattle.std.proofs.Common.{◌≡◌, ◌<ℤ◌, ◌≤ℤ◌, ◌↔◌, ℤ, List, [], ◌∷◌, ◌++◌, sym, ◌∙◌, inl, inr, ◌⊎◌, arith}
use Rattle.std.proofs.lemmas.Int.{ints}
use Rattle.period_core.specs.DaySets.{InPeriod}
use Rattle.period_core.specs.declared.value.Value.{Value}
use Rattle.period_core.proofs.PeriodEnds.{days_from, days_to, day_in}
use Rattle.period_core.specs.declared.row.PeriodRow.{PeriodRow}
use Rattle.temporal_model.specs.Snapshot.{InSnapshot, Equivalent}
use Rattle.temporal_model.proofs.Members.{AllPairs-head}
use Rattle.sequenced_ops.specs.Operations.{InIntersection}
use Rattle.sequenced_ops.specs.Sweeping.{RowHolds, Precedes, IsDisjoint, KeepsLater}
use Rattle.sequenced_ops.proofs.TwoRows.{holds-cons, holds-push, unheld, precedes_all}
use Rattle.sequenced_ops.proofs.Sweeps.{passed}
use Rattle.sequenced_ops.proofs.Sides.{kept_for}

-- the row and the list both hold the values on the day
abbrev pub Inside : PeriodRow → List PeriodRow → ℤ → List Value → Type 0
Inside row rows day vs = RowHolds row day vs × InSnapshot rows day vs

-- the rows added already, and the row's days inside the rest, are the rows before and all of the
-- row's days inside the others
abbrev pub Remains : List PeriodRow → PeriodRow → List PeriodRow → List PeriodRow → List PeriodRow → Type 0
Remains old row others rows rest =
    (day : ℤ) (vs : List Value) → ((InSnapshot rows day vs ⊎ Inside row rest day vs) ↔ (InSnapshot old day vs ⊎ Inside row others day vs))

pub passed_inside :
    (row other : PeriodRow) (after : List PeriodRow) → Precedes other row → (day : ℤ) (vs : List Value)
    → (Inside row (other ∷ after) day vs ↔ Inside row after day vs)
passed_inside row other after h day vs = (
  λ (here, there). (here, (passed row other after h day vs here).0 there),
  λ (here, there). (here, (passed row other after h day vs here).1 there),
)

pub shared :
    (row other : PeriodRow) (after : List PeriodRow) (day : ℤ) (vs : List Value)
    → (Inside row (other ∷ after) day vs ↔ ((RowHolds row day vs × RowHolds other day vs) ⊎ Inside row after day vs))
shared row other after day vs = (
  λ (here, there). elim ((holds-cons other after day vs).0 there) [ inl both ↦ inl (here, both) | inr more ↦ inr (here, more) ],
  λ h. elim h [
    | inl both ↦ (both.0, (holds-cons other after day vs).1 (inl both.1))
    | inr more ↦ (more.0, (holds-cons other after day vs).1 (inr more.1))
  ],
)

-- the row ends no later than the other
pub shared_all :
    (row other : PeriodRow) (after : List PeriodRow) → IsDisjoint (other ∷ after) → row.values ≡ other.values → row.period.end ≤ℤ other.period.end
    → (day : ℤ) (vs : List Value)
    → (Inside row (other ∷ after) day vs ↔ (RowHolds row day vs × RowHolds other day vs))
shared_all row other after disjoint same within day vs = (
  λ (here, there). elim ((holds-cons other after day vs).0 there) [
    | inl both ↦ (here, both)
    | inr more ↦ absurd (let to : day <ℤ row.period.end = here.2 in
        unheld other after (AllPairs-head Precedes other after disjoint) day vs (sym same ∙ here.0) (omega (arith, ints)) more)
  ],
  λ both. (both.0, (holds-cons other after day vs).1 (inl both.1)),
)

pub none_inside :
    (row other : PeriodRow) (after : List PeriodRow) → IsDisjoint (other ∷ after) → Precedes row other → (day : ℤ) (vs : List Value)
    → Inside row (other ∷ after) day vs → ⊥
none_inside row other after disjoint h day vs (here, there) =
    unheld row (other ∷ after) (precedes_all row other after disjoint h) day vs here.0 here.2 there

-- a row on the days that two rows share
pub common :
    (rows : List PeriodRow) (row other new : PeriodRow) → row.values ≡ other.values → new.values ≡ row.values
    → ((day : ℤ) → (InPeriod new.period day ↔ (InPeriod row.period day × InPeriod other.period day))) → (day : ℤ) (vs : List Value)
    → (InSnapshot (rows ++ new ∷ []) day vs ↔ (InSnapshot rows day vs ⊎ (RowHolds row day vs × RowHolds other day vs)))
common rows row other new same values days day vs = (
  λ h. elim ((holds-push rows new day vs).0 h) [
    | inl old ↦ inl old
    | inr here ↦ let both = (days day).0 (day_in new.period day here.1 here.2) in
        inr (
          (sym values ∙ here.0, days_from row.period day both.0, days_to row.period day both.0),
          (sym same ∙ sym values ∙ here.0, days_from other.period day both.1, days_to other.period day both.1),
        )
  ],
  λ h. (holds-push rows new day vs).1 (elim h [
    | inl old ↦ inl old
    | inr both ↦ let inside = (days day).1 (day_in row.period day both.0.1 both.0.2, day_in other.period day both.1.1 both.1.2) in
        inr (values ∙ both.0.0, days_from new.period day inside, days_to new.period day inside)
  ]),
)

pub intersection_same :
    (left right lefts rights : List PeriodRow) → Equivalent left lefts → Equivalent right rights → (day : ℤ) (vs : List Value)
    → (InIntersection lefts rights day vs ↔ InIntersection left right day vs)
intersection_same left right lefts rights p q day vs = (
  λ (one, two). ((p day vs).1 one, (q day vs).1 two),
  λ (one, two). ((p day vs).0 one, (q day vs).0 two),
)

pub intersection_turn :
    (row : PeriodRow) (rest others left : List PeriodRow) → IsDisjoint (row ∷ rest) → KeepsLater row others left
    → (day : ℤ) (vs : List Value)
    → (InIntersection (row ∷ rest) others day vs ↔ (Inside row others day vs ⊎ InIntersection rest left day vs))
intersection_turn row rest others left up keeps day vs = (
  λ (one, two). elim ((holds-cons row rest day vs).0 one) [
    | inl here ↦ inl (here, two)
    | inr more ↦ inr (more, (kept_for row rest others left up keeps day vs more).0 two)
  ],
  λ h. elim h [
    | inl here ↦ ((holds-cons row rest day vs).1 (inl here.0), here.1)
    | inr more ↦ ((holds-cons row rest day vs).1 (inr more.0), (kept_for row rest others left up keeps day vs more.0).1 more.1)
  ],
)

-- the rows before, and the intersection of the rest, are the intersection of the two sides
abbrev pub IntersectionLeft : List PeriodRow → List PeriodRow → List PeriodRow → List PeriodRow → List PeriodRow → Type 0
IntersectionLeft left right rows others rest =
    (day : ℤ) (vs : List Value) → ((InSnapshot rows day vs ⊎ InIntersection rest others day vs) ↔ InIntersection left right day vs)

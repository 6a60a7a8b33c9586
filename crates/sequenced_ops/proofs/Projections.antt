-- The steps of a projection: a row is pushed over the values at its positions.
use Rattle.std.proofs.Common.{◌↔◌, ◌⊎◌, ◌++◌, inl, inr, ℕ, ℤ, List, [], ◌∷◌, subst}
use Rattle.period_core.specs.DaySets.{InPeriod}
use Rattle.period_core.specs.declared.value.Value.{Value}
use Rattle.period_core.proofs.PeriodEnds.{days_from, days_to, day_in}
use Rattle.period_core.specs.declared.row.PeriodRow.{PeriodRow}
use Rattle.temporal_model.specs.Snapshot.{InSnapshot}
use Rattle.sequenced_ops.specs.Operations.{ReadsColumns}
use Rattle.sequenced_ops.proofs.Keys.{same_read}
use Rattle.sequenced_ops.proofs.TwoRows.{holds-push}

-- the values of the row at the positions, on a day on which it holds
abbrev pub IsProjectedOn : List ℕ → PeriodRow → ℤ → List Value → Type 0
IsProjectedOn columns row day read = ReadsColumns columns row.values read × InPeriod row.period day

-- the values of a row, over the period of another
abbrev pub over : PeriodRow → List Value → PeriodRow
over row values = record { values = values; period = row.period }

pub projection_pushed :
    (columns : List ℕ) (row : PeriodRow) (read : List Value) (rows : List PeriodRow) → ReadsColumns columns row.values read → (day : ℤ) (vs : List Value)
    → (InSnapshot (rows ++ over row read ∷ []) day vs ↔ (InSnapshot rows day vs ⊎ IsProjectedOn columns row day vs))
projection_pushed columns row read rows its day vs = (
  λ h. elim ((holds-push rows (over row read) day vs).0 h) [
    | inl old ↦ inl old
    | inr here ↦ inr (subst (λ (v : List Value). ReadsColumns columns row.values v) here.0 its, day_in row.period day here.1 here.2)
  ],
  λ h. (holds-push rows (over row read) day vs).1 (elim h [
    | inl old ↦ inl old
    | inr here ↦ inr (same_read columns row.values read vs its here.0, days_from row.period day here.1, days_to row.period day here.1)
  ]),
)

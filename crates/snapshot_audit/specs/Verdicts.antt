-- Verdicts on an answer.
use Rattle.std.specs.Prelude.{◌≡◌, ◌↔◌, ◌∷◌, ◌<ℤ◌, ℤ, ℕ, List, length}
use Rattle.period_core.specs.declared.value.Value.{Value}
use Rattle.period_core.specs.declared.row.PeriodRow.{PeriodRow}
use Rattle.period_core.specs.declared.answer.Witness.{Witness}
use Rattle.temporal_model.specs.Snapshot.{InSnapshot, IsDay}
use Rattle.temporal_model.specs.Answer.{IsShortest, IsCertified}
use Rattle.temporal_model.specs.Witness.{WitnessEachRow}
use Rattle.snapshot_audit.specs.ChangeDays.{AreChangeDays}
use Rattle.snapshot_audit.specs.Faults.{IsFirstFault, IsFaultless}
use Rattle.snapshot_audit.specs.declared.verdict.Verdict.{Verdict}
use Rattle.snapshot_audit.specs.declared.verdict.Verdict.TheVariants.{Agrees, Differs, BadWitness}

-- both sets have the same members
abbrev pub HaveSameMembers : (List Value → Type 0) → (List Value → Type 0) → Type 0
HaveSameMembers InOne InOther = (values : List Value) → (InOne values ↔ InOther values)

-- the snapshot of the rows is the set of this day
abbrev pub AgreesOn : (ℤ → List Value → Type 0) → List PeriodRow → ℤ → Type 0
AgreesOn InSet rows day = HaveSameMembers (InSnapshot rows day) (InSet day)

-- the answer agrees on every day that a period can cover
abbrev pub AgreesAlways : (ℤ → List Value → Type 0) → List PeriodRow → Type 0
AgreesAlways InSet rows = (day : ℤ) → IsDay day → AgreesOn InSet rows day

-- the least day on which the rows do not have the set
pub record IsFirstDifference (InSet : ℤ → List Value → Type 0) (rows : List PeriodRow) (day : ℤ)
    : Type 0 where
  pub is_day : IsDay day
  pub differs : AgreesOn InSet rows day → ⊥
  pub before : (earlier : ℤ) → IsDay earlier → earlier <ℤ day → AgreesOn InSet rows earlier

-- the sets of the days, and nothing outside the days
abbrev pub SetOnDays : (ℤ → List Value → Type 0) → ℤ → List Value → Type 0
SetOnDays InSet day values = IsDay day × InSet day values

-- on every day the answer's snapshot is the set of that day, it is shortest, and each row has its
-- witness; the count is the number of change days
pub record IsConfirmed (InSet : ℤ → List Value → Type 0) (tables : List (List PeriodRow))
    (rows : List PeriodRow) (witnesses : List Witness) (count : ℕ) : Type 0 where
  pub agrees : AgreesAlways InSet rows
  pub shortest : IsShortest rows
  pub certified : IsCertified rows
  pub witnessed : WitnessEachRow (SetOnDays InSet) rows witnesses
  pub faultless : IsFaultless rows witnesses
  pub days : List ℤ
  pub change_days : AreChangeDays (rows ∷ tables) days
  pub counted : length days ≡ count

-- the meaning of each verdict: a difference precedes a fault of the witnesses
abbrev pub IsVerdict : (ℤ → List Value → Type 0) → List (List PeriodRow) → List PeriodRow
    → List Witness → Verdict → Type 0
IsVerdict InSet tables rows witnesses (Agrees count) = IsConfirmed InSet tables rows witnesses count
IsVerdict InSet tables rows witnesses (Differs day) = IsFirstDifference InSet rows day
IsVerdict InSet tables rows witnesses (BadWitness number) =
    AgreesAlways InSet rows × IsFirstFault rows witnesses number

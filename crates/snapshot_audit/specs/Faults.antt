-- Sound rows of a list, with their witnesses, and the first that is not.
use Rattle.std.specs.Prelude.{◌≡◌, ◌<◌, ◌≤◌, ◌+◌, ◌⊎◌, ◌-ℤ◌, ℕ, pos, List, Some, length, take}
use Rattle.std.specs.Prelude.{Contains, slice_get}
use Rattle.period_core.specs.declared.row.PeriodRow.{PeriodRow}
use Rattle.period_core.specs.declared.answer.Witness.{Witness}
use Rattle.temporal_model.specs.Snapshot.{InSnapshot}
use Rattle.temporal_model.specs.Answer.{SameBeginning}
use Rattle.temporal_model.specs.Witness.{witness_of}

-- a row of the list has the values and the first day of this one
abbrev pub BeginsIn : List PeriodRow → PeriodRow → Type 0
BeginsIn rows row = (other : PeriodRow) × Contains rows other × SameBeginning other row

-- the values of the row at this place are absent on the day before its first,
-- and no earlier row has its values and first day
pub record BeginsAnew (rows : List PeriodRow) (place : ℕ) (row : PeriodRow) : Type 0 where
  pub absent_before : InSnapshot rows (row.period.start -ℤ pos 1) row.values → ⊥
  pub first : BeginsIn (take place rows) row → ⊥

-- the row at this place has its witness and begins anew
pub record IsSound (rows : List PeriodRow) (witnesses : List Witness) (place : ℕ) (row : PeriodRow)
    : Type 0 where
  pub witness : slice_get witnesses place ≡ Some (witness_of row)
  pub anew : BeginsAnew rows place row

-- each row before this place is sound
abbrev pub SoundBelow : List PeriodRow → List Witness → ℕ → Type 0
SoundBelow rows witnesses n =
    (place : ℕ) (row : PeriodRow) → place < n → slice_get rows place ≡ Some row
    → IsSound rows witnesses place row

-- the row at this place is not sound
abbrev pub IsUnsoundAt : List PeriodRow → List Witness → ℕ → Type 0
IsUnsoundAt rows witnesses place =
    (row : PeriodRow) × (slice_get rows place ≡ Some row) × (IsSound rows witnesses place row → ⊥)

-- the number, from 1, of the first row that is not sound,
-- or one more than there are rows, if all are sound and only witnesses are spare
pub record IsFirstFault (rows : List PeriodRow) (witnesses : List Witness) (number : ℕ)
    : Type 0 where
  pub place : ℕ
  pub counted : place + 1 ≡ number
  pub before : SoundBelow rows witnesses place
  pub fault : IsUnsoundAt rows witnesses place
      ⊎ ((place ≡ length rows) × (length rows < length witnesses))

-- each row is sound, and no witness is spare
pub record IsFaultless (rows : List PeriodRow) (witnesses : List Witness) : Type 0 where
  pub sound : SoundBelow rows witnesses (length rows)
  pub spare : length witnesses ≤ length rows

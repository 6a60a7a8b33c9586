-- The witness of an answer's row, by which it is needed: a day on which its values are in the set,
-- and the day before, on which they are not.
use Rattle.std.specs.Prelude.{◌≡◌, ◌-ℤ◌, ℤ, pos, List}
use Rattle.std.specs.List.{AllZip}
use Rattle.period_core.specs.Calendar.{day_before}
use Rattle.period_core.specs.declared.value.Value.{Value}
use Rattle.period_core.specs.declared.row.PeriodRow.{PeriodRow}
use Rattle.period_core.specs.declared.answer.Witness.{Witness}

-- the row's first day, and the day before, which 0001-01-01 has not
abbrev pub witness_of : PeriodRow → Witness
witness_of row = record { held = row.period.start; absent = day_before row.period.start }

-- a witness of the row against daily sets, which say of each day which values are in its set
pub record IsWitness (sets : ℤ → List Value → Type 0) (row : PeriodRow) (witness : Witness)
    : Type 0 where
  pub days : witness ≡ witness_of row
  pub held : sets row.period.start row.values
  pub absent : sets (row.period.start -ℤ pos 1) row.values → ⊥

-- each row has its witness, in the same place
abbrev pub WitnessEachRow : (ℤ → List Value → Type 0) → List PeriodRow → List Witness → Type 0
WitnessEachRow sets = AllZip (IsWitness sets)

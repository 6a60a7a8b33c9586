-- Runs: rows of the same values, one after the other in a list.
use Rattle.std.specs.Prelude.{◌≡◌, ◌≢◌, ◌<◌, ◌≤◌, ℕ, List, Option, length, slice_get}
use Rattle.std.specs.Option.{option_map}
use Rattle.period_core.specs.declared.value.Value.{Value}
use Rattle.period_core.specs.declared.row.PeriodRow.{PeriodRow}

-- the values of the row at this place, if there is one
abbrev pub row_values : List PeriodRow → ℕ → Option (List Value)
row_values rows place = option_map (λ (row : PeriodRow). row.values) (slice_get rows place)

-- the rows from `at` on and before `end` have the values of the row at `at`, and the row at `end`,
-- if there is one, has different values
pub record IsRunEnd (rows : List PeriodRow) (at end : ℕ) : Type 0 where
  pub behind : at < end
  pub within : end ≤ length rows
  pub same : (place : ℕ) → at ≤ place → place < end
      → row_values rows place ≡ row_values rows at
  pub other : row_values rows end ≢ row_values rows at

-- Rows of a key whose periods are stored with their places.
use Rattle.std.specs.Prelude.{◌≡◌, ◌<◌, ℤ, List, Contains, length, slice_index_or}
use Rattle.period_core.specs.declared.period.Period.{Period}
use Rattle.period_core.specs.declared.version.VersionRow.{VersionRow}
use Rattle.period_keys.specs.declared.placed_period.PlacedPeriod.{PlacedPeriod}
use Rattle.period_keys.specs.Keys.{BothHold}

-- the row at the place has the period
abbrev pub IsAt : List VersionRow → PlacedPeriod → Type 0
IsAt rows item =
    (item.place < length rows)
    × ((d : VersionRow) → (slice_index_or rows item.place d).period ≡ item.period)

-- an item meets a day: its row has its period, which is not among the removed ones, and shares
-- the day with the other period
abbrev pub IsKeptAt : List VersionRow → List Period → Period → ℤ → PlacedPeriod → Type 0
IsKeptAt rows gone period day item =
    IsAt rows item × BothHold day period item.period × (Contains gone item.period → ⊥)

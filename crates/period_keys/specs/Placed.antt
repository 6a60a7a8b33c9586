-- Rows whose places are found by their periods.
use Rattle.std.specs.Prelude.{◌<◌, ℕ, Box, List, Contains, length, slice_index_or}
use Rattle.std.specs.Global.{Global}
use Rattle.std.specs.List.{Any}
use Rattle.period_core.specs.declared.version.VersionRow.{VersionRow}
use Rattle.period_keys.specs.declared.block.Block.{Block}
use Rattle.period_keys.specs.declared.period_blocks.PeriodBlocks.{PeriodBlocks}
use Rattle.period_keys.specs.declared.placed_period.PlacedPeriod.{PlacedPeriod}

-- the period is among them, with this place
abbrev pub HasPlaced : PeriodBlocks → PlacedPeriod → Type 0
HasPlaced placed item =
    Any (λ (block : Block). Contains block.items.items item) placed.blocks.items

-- each row's period is among them, with its place; there may be more
abbrev pub ArePlaced : List VersionRow → PeriodBlocks → Type 0
ArePlaced rows placed =
    (place : ℕ) (d : VersionRow) → place < length rows
    → (HasPlaced placed
    (record { period = (slice_index_or rows place d).period; place = place }) → ⊥) → ⊥

-- blocks in a box that have the places of the rows
abbrev pub ArePlacedIn : List VersionRow → Box PeriodBlocks Global → Type 0
ArePlacedIn rows boxed = ArePlaced rows boxed.value

-- Several indexes of one table's rows, each by its own positions.
use Rattle.std.specs.Prelude.{◌≡◌, ◌<◌, ◌≤◌, ℕ, List, length, map, slice_index_or}
use Rattle.std.specs.List.{All}
use Rattle.period_core.specs.declared.row.PeriodRow.{PeriodRow}
use Rattle.period_core.specs.declared.value.Value.{Value}
use Rattle.period_keys.specs.declared.period_indexes.PeriodIndex.{PeriodIndex}
use Rattle.period_keys.specs.Index.{IsIndexOf}
use Rattle.period_keys.specs.Keys.{key_values}

-- the index has the periods of the rows, by their values at its positions
abbrev pub Indexes : List PeriodRow → PeriodIndex → Type 0
Indexes rows index = IsIndexOf index.positions rows index.periods

-- each of the indexes does
abbrev pub EachIndexes : List PeriodRow → List PeriodIndex → Type 0
EachIndexes rows indexes = All (Indexes rows) indexes

-- the indexes before this place have the first rows, the rest the second
abbrev pub PartlyIndex : List PeriodRow → List PeriodRow → List PeriodIndex → ℕ → Type 0
PartlyIndex first second indexes count =
    (k : ℕ) (d : PeriodIndex) → k < length indexes
    → (k < count → Indexes first (slice_index_or indexes k d))
    × (count ≤ k → Indexes second (slice_index_or indexes k d))

-- the positions of an index
abbrev pub positions_by : PeriodIndex → List ℕ
positions_by index = index.positions

-- the rows' keys by each of the positions
abbrev pub AreKeysByEach : List PeriodRow → List (List ℕ) → List (List (List Value)) → Type 0
AreKeysByEach rows each keys = keys ≡ map (λ positions. map (key_values positions) rows) each

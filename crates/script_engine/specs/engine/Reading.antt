-- Versions that are read of those in memory.
use Rattle.std.specs.Prelude.{◌≡◌, ◌⊎◌, ◌++◌, ◌∷◌, [], ℕ, Bool, List, false, map, reverse, true}
use Rattle.std.specs.Option.{option_map_or}
use Rattle.period_core.specs.Windows.{window_sees}
use Rattle.period_core.specs.declared.version.VersionRow.{VersionRow}
use Rattle.catalog_core.specs.table.TableWords.{table_of}
use Rattle.period_keys.specs.Rows.{RowsByKey}
use Rattle.period_keys.specs.Versions.{has_key_in}
use Rattle.script_engine.specs.declared.engine.reading.Access.{Access}
use Rattle.script_engine.specs.engine.InMemory.{rows_in}

-- the positions of the key among a row's values, of the table of a number; of a number without a
-- table none
abbrev pub positions_in : List RowsByKey → ℕ → List ℕ
positions_in tables number =
    option_map_or (λ (t : RowsByKey). t.positions) (table_of tables number) []

-- the versions in memory of the table of a number: the current ones, and then those that have
-- ended, the last to end first
abbrev pub versions_in : List RowsByKey → ℕ → List VersionRow → List VersionRow
versions_in tables number ended = rows_in tables number ++ reverse ended

-- some of all, in their order: each one is taken, and each of the rest may be left out
pub data AreTaken {X : Type 0} (IsTaken MayLack : X → Type 0) : List X → List X → Type 0 where
  none : AreTaken IsTaken MayLack [] []
  taken : {x : X} {all some : List X} → IsTaken x → AreTaken IsTaken MayLack all some
      → AreTaken IsTaken MayLack (x ∷ all) (x ∷ some)
  left : {x : X} {all some : List X} → MayLack x → AreTaken IsTaken MayLack all some
      → AreTaken IsTaken MayLack (x ∷ all) some

-- the window of the access sees the version
abbrev pub IsSeen : Access → VersionRow → Type 0
IsSeen access version = window_sees access.window version.from version.to ≡ true

-- the version's values at the positions of the access are in its range
abbrev pub is_within : Access → VersionRow → Bool
is_within access version = has_key_in access.rows.positions access.rows.range version

-- the window of the access does not see the version, its values are not in the range, or the
-- selection may leave it out
abbrev pub MayBeUnread : Access → (VersionRow → Type 0) → VersionRow → Type 0
MayBeUnread access MayLack version =
    (window_sees access.window version.from version.to ≡ false)
    ⊎ ((is_within access version ≡ false) ⊎ MayLack version)

-- the new rows are the old ones, followed by those that are made of the versions taken of all
abbrev pub AddRead
    : {R : Type 0} → (VersionRow → Type 0) → (VersionRow → Type 0) → (VersionRow → R)
    → List VersionRow → List R → List R → Type 0
AddRead IsTaken MayLack made all old new =
    (some : List VersionRow) × AreTaken IsTaken MayLack all some × (new ≡ old ++ map made some)

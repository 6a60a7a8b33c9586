-- Ended versions that are found one by one, by the hash of their values at some positions.
use Rattle.std.specs.Prelude.{◌≡◌, ◌<◌, ◌≤◌, ℕ, Option, List, None, Some, false, length, true}
use Rattle.std.specs.Prelude.{slice_index_or, take}
use Rattle.std.specs.List.{All}
use Rattle.period_core.specs.Encoding.{IsColumnValue}
use Rattle.period_core.specs.Windows.{window_sees}
use Rattle.period_core.specs.declared.version.VersionRow.{VersionRow}
use Rattle.period_core.specs.declared.window.Window.{Window}
use Rattle.ended_versions.specs.Hashes.{has_each, hash_at}
use Rattle.ended_versions.specs.Packed.{PackedVersion, packed}
use Rattle.ended_versions.specs.declared.chained_values.ChainedValues.{ChainedValues}

-- the version, if the window sees it
abbrev pub IsVersionIfSeen : Window → VersionRow → Option VersionRow → Type 0
IsVersionIfSeen window version None = window_sees window version.from version.to ≡ false
IsVersionIfSeen window version (Some found) =
    (window_sees window version.from version.to ≡ true) × (found ≡ version)

-- the hashes belong to the first of the versions, as many as there are hashes, by the values at
-- these positions, in their order; each of these versions has a value at each of the positions
pub record AreHashes (positions : List ℕ) (list : List PackedVersion) (hashes : List ℕ) : Type 0
  where
    pub within : length hashes ≤ length list
    pub each : (place : ℕ) (d : PackedVersion) (e : ℕ) (version : VersionRow)
        → place < length hashes → All IsColumnValue version.values
        → packed version ≡ slice_index_or list place d
        → (slice_index_or hashes place e ≡ hash_at positions version)
        × (has_each positions version.values ≡ true)

-- the first of the versions are chained by their values at the positions
abbrev pub AreChainedIn : List PackedVersion → ChainedValues → Type 0
AreChainedIn list chained = AreHashes chained.positions list chained.hashes

-- the chains of the first so many versions
abbrev pub first_chained : ℕ → ChainedValues → ChainedValues
first_chained count chained = record chained { hashes = take count chained.hashes }

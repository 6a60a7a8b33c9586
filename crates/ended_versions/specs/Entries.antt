-- The entries of the list of ended versions, and the fields of each.
use Rattle.std.specs.Prelude.{◌≤◌, ◌<◌, ◌≤ℤ◌, ◌+◌, ℕ, Bool, AllPairs, List, length}
use Rattle.std.specs.Prelude.{slice_index_or, slice_range}
use Rattle.std.specs.Int.Bits.{bit_and}
use Rattle.std.specs.List.{All}
use Rattle.period_core.specs.Encoding.{IsEncoding}
use Rattle.period_core.specs.Windows.{window_sees}
use Rattle.period_core.specs.declared.window.Window.{Window}
use Rattle.ended_versions.specs.Packed.{PackedVersion}
use Rattle.ended_versions.specs.declared.blocks.VersionEntry.{VersionEntry}

-- the version of an entry
abbrev pub packed_in : List ℕ → VersionEntry → PackedVersion
packed_in bytes entry = record {
  bytes = slice_range bytes entry.start entry.end;
  period = entry.period;
  from = entry.from;
  to = entry.to;
}

-- whether the window sees the entry's version
abbrev pub is_seen : Window → VersionEntry → Bool
is_seen window entry = window_sees window entry.from entry.to

-- the bytes have the values of the entry
pub record IsKept (bytes : List ℕ) (entry : VersionEntry) : Type 0 where
  pub forward : entry.start ≤ entry.end
  pub within : entry.end ≤ length bytes
  pub spelled : IsEncoding (slice_range bytes entry.start entry.end)

-- the second entry ended no earlier, and its values come after the first one's
pub record Precedes (first second : VersionEntry) : Type 0 where
  pub ended : first.to ≤ℤ second.to
  pub apart : first.end ≤ second.start

-- each entry precedes those after it
abbrev pub AreInOrder : List VersionEntry → Type 0
AreInOrder = AllPairs Precedes

-- the first place of the block that a place ends
abbrev pub block_start : ℕ → ℕ
block_start place = bit_and (place + 1) place

-- no version of the block that an entry ends begins before its `earliest_from`
abbrev pub KnowLeast : List VersionEntry → Type 0
KnowLeast entries =
    (last place : ℕ) (d : VersionEntry) → block_start last ≤ place → place ≤ last
    → last < length entries
    → (slice_index_or entries last d).earliest_from ≤ℤ (slice_index_or entries place d).from

-- a whole list of entries over its bytes
pub record AreEntries (bytes : List ℕ) (entries : List VersionEntry) : Type 0 where
  pub kept : All (IsKept bytes) entries
  pub ordered : AreInOrder entries
  pub earliest_from : KnowLeast entries

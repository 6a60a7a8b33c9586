-- A table's rows by their values at other positions than those of its key.
use Rattle.std.specs.Prelude.{◌≡◌, ◌++◌, ℕ, Bool, Contains, List, drop, filter, length, map, true}
use Rattle.std.specs.List.{All, list_any}
use Rattle.std.specs.Map.{keys_of}
use Rattle.period_core.specs.declared.value.Value.{Value}
use Rattle.period_core.specs.declared.version.VersionRow.{VersionRow}
use Rattle.period_keys.specs.declared.key_range.KeyRange.{KeyRange}
use Rattle.period_keys.specs.declared.row_range.RowRange.{RowRange}
use Rattle.period_keys.specs.declared.secondary_index.SecondaryIndex.{SecondaryIndex}
use Rattle.period_keys.specs.Ranges.{is_in_range}
use Rattle.period_keys.specs.Versions.{has_key_in, is_of_key, version_key}

-- the entries of an index, in their order
abbrev pub entries_of : SecondaryIndex → List (List Value)
entries_of index = keys_of index.entries.entries

-- the index has the entry of each row: its values at the index's positions, and then its key
pub record HasEntries (key : List ℕ) (rows : List VersionRow) (index : SecondaryIndex)
    : Type 0 where
  pub positions : index.entry_positions ≡ index.positions ++ key
  pub entries : (v : VersionRow) → Contains rows v
      → Contains (entries_of index) (version_key index.entry_positions v)

-- each of the indexes has
abbrev pub HaveEntries : List ℕ → List VersionRow → List SecondaryIndex → Type 0
HaveEntries key rows indexes = All (HasEntries key rows) indexes

-- the second has the positions of the first, and at least its entries
pub record HasMoreEntries (old new : SecondaryIndex) : Type 0 where
  pub positions : new.positions ≡ old.positions
  pub entry_positions : new.entry_positions ≡ old.entry_positions
  pub entries : (entry : List Value)
      → Contains (entries_of old) entry → Contains (entries_of new) entry

-- the keys of the entries in the range, in the order of the entries
abbrev pub keys_within : SecondaryIndex → KeyRange → List (List Value)
keys_within index range =
    map (drop (length index.positions)) (filter (is_in_range range) (entries_of index))

-- the version has one of these keys
abbrev pub is_of_some_key : List ℕ → List (List Value) → VersionRow → Bool
is_of_some_key positions keys version = list_any (λ key. is_of_key positions key version) keys

-- rows that are found are some of all, in their order, and among them each one whose values at the
-- positions are in the range
pub record AreRowsWithin (rows : RowRange) (all found : List VersionRow) : Type 0 where
  pub keep : VersionRow → Bool
  pub kept : (v : VersionRow) → has_key_in rows.positions rows.range v ≡ true → keep v ≡ true
  pub are_kept : found ≡ filter keep all

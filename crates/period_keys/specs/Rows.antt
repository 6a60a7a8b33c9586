-- A table's current version rows by key, and the groups that hold them.
use Rattle.std.specs.Prelude.{◌≡◌, ◌++◌, ◌∷◌, [], ℕ, Contains, IsPermutation, List, filter}
use Rattle.std.specs.List.{AllByRecursion}
use Rattle.std.specs.List.Sorted.{IsStrictlySortedBy}
use Rattle.std.specs.Map.{keys_of}
use Rattle.std.specs.BTreeMap.{BTreeMap, IsOrdered}
use Rattle.period_core.specs.Order.{values_cmp}
use Rattle.period_core.specs.declared.value.Value.{Value}
use Rattle.period_core.specs.declared.version.VersionRow.{VersionRow}
use Rattle.period_keys.specs.declared.key_range.KeyRange.{KeyRange}
use Rattle.period_keys.specs.declared.key_rows.KeyRows.{KeyRows}
use Rattle.period_keys.specs.Versions.{has_key_in, is_of_key, version_key}

-- the positions of the key's columns among a row's values, and all rows, in some order
pub record RowsByKey : Type 0 where
  pub positions : List ℕ
  pub rows : List VersionRow

-- the rows of this key
abbrev pub rows_of_key : RowsByKey → List Value → List VersionRow
rows_of_key table key = filter (is_of_key table.positions key) table.rows

-- the rows whose keys are in the range
abbrev pub rows_within : RowsByKey → KeyRange → List VersionRow
rows_within table range = filter (has_key_in table.positions range) table.rows

-- the second has the same positions, and these rows, in some order
pub record HasRows (wanted : List VersionRow) (old new : RowsByKey) : Type 0 where
  pub positions : new.positions ≡ old.positions
  pub rows : IsPermutation new.rows wanted

-- ---- groups of rows

-- the rows of the groups, one group after another
abbrev pub rows_of_groups : List (List Value × KeyRows) → List VersionRow
rows_of_groups [] = []
rows_of_groups (group ∷ groups) = group.1.rows.items ++ rows_of_groups groups

-- the rows of some lists without the keys
abbrev pub rows_of_lists : List KeyRows → List VersionRow
rows_of_lists [] = []
rows_of_lists (group ∷ groups) = group.rows.items ++ rows_of_lists groups

-- each row of a group has its key
abbrev pub HaveKey : List ℕ → List Value × KeyRows → Type 0
HaveKey positions group =
    (v : VersionRow) → Contains group.1.rows.items v → group.0 ≡ version_key positions v

-- each row is in the group of its key
pub record AreGrouped (positions : List ℕ) (groups : BTreeMap (List Value) KeyRows) : Type 0 where
  pub ordered : IsOrdered values_cmp groups
  pub keyed : AllByRecursion (HaveKey positions) groups.entries

-- the groups have the rows of a table, each in the group of its key, and the keys ascend
pub record AreGroupsOf (table : RowsByKey) (groups : List (List Value × KeyRows)) : Type 0 where
  pub ascending : IsStrictlySortedBy values_cmp (keys_of groups)
  pub keyed : AllByRecursion (HaveKey table.positions) groups
  pub rows : rows_of_groups groups ≡ table.rows

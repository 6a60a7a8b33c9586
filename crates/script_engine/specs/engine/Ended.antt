-- The versions in an engine's memory that have ended.
use Rattle.std.specs.Prelude.{◌≡◌, ◌<ℤ◌, ◌≤ℤ◌, ◌++◌, ℕ, ℤ, AllPairs, Bool, Contains, List, []}
use Rattle.std.specs.Prelude.{IsPermutation, filter, map, not}
use Rattle.std.specs.List.{All}
use Rattle.std.specs.Option.{option_map_or}
use Rattle.std.specs.Ordering.{int_eq}
use Rattle.period_core.specs.Moments.{forever}
use Rattle.period_core.specs.declared.version.VersionRow.{VersionRow}
use Rattle.catalog_core.specs.table.TableWords.{table_of}
use Rattle.ended_versions.specs.Packed.{AreEndedBy, AreOfColumns, Hold, PackedVersion, packed}
use Rattle.version_store.specs.Contents.{Contents, TableVersion, of_table, version_in}

-- the version is current: its system time ends at FOREVER
abbrev pub is_current : VersionRow → Bool
is_current version = int_eq version.to forever

-- the version has ended: its system time does not end at FOREVER
abbrev pub has_ended : VersionRow → Bool
has_ended version = not (int_eq version.to forever)

-- each of the versions ended no later than those after it
abbrev pub AreInOrderOfEnds : List VersionRow → Type 0
AreInOrderOfEnds = AllPairs (λ (first second : VersionRow). first.to ≤ℤ second.to)

-- one of the versions ended after the moment
abbrev pub SomeEndedAfter : ℤ → List VersionRow → Type 0
SomeEndedAfter moment versions =
    (version : VersionRow) × Contains versions version × (moment <ℤ version.to)

-- a version of a table has ended
abbrev pub table_ended : TableVersion → Bool
table_ended version = not (int_eq version.to forever)

-- the versions of the table that have ended
abbrev pub ended_of : ℕ → List TableVersion → List TableVersion
ended_of table versions = filter table_ended (of_table table versions)

-- the list in memory of the table of a number; of a number without a table none
abbrev pub ended_in : List (List PackedVersion) → ℕ → List PackedVersion
ended_in lists number =
    option_map_or (λ (list : List PackedVersion). list) (table_of lists number) []

-- the list has the versions of the table that have ended, in some order
pub record HasEnded (c : Contents) (table : ℕ) (list : List PackedVersion) : Type 0 where
  pub versions : List VersionRow
  pub held : Hold list versions
  pub all : IsPermutation (ended_of table c.versions) (map (version_in table) versions)

-- each table has its ended versions
abbrev pub HaveEnded : Contents → List (List PackedVersion) → Type 0
HaveEnded c lists = (number : ℕ) → HasEnded c number (ended_in lists number)

-- all versions of the lists ended by the moment
abbrev pub AllEndedBy : ℤ → List (List PackedVersion) → Type 0
AllEndedBy moment = All (AreEndedBy moment)

-- the versions were added to the list of a table, and no other list changed
pub record HaveClosed (number : ℕ) (more : List VersionRow) (old new : List (List PackedVersion))
    : Type 0 where
  pub held : AreOfColumns more
  pub there : ended_in new number ≡ ended_in old number ++ map packed more
  pub others : (other : ℕ) → (other ≡ number → ⊥) → ended_in new other ≡ ended_in old other

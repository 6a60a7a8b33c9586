-- The contents of a store after a change.
use Rattle.std.specs.Prelude.{◌++◌, ◌∷◌, [], ℕ, ℤ, Bool, cond, List, map}
use Rattle.std.specs.List.{AllByRecursion, flat_map, list_any}
use Rattle.std.specs.Ordering.{int_cmp, is_eq}
use Rattle.period_core.specs.Encoding.{encoded}
use Rattle.period_core.specs.Moments.{forever}
use Rattle.period_core.specs.declared.row.PeriodRow.{PeriodRow}
use Rattle.period_core.specs.declared.version.VersionRow.{VersionRow}
use Rattle.catalog_core.specs.declared.table.TableDef.{TableDef}
use Rattle.version_store.specs.Contents.{Contents, TableVersion, added_in, same_version}
use Rattle.version_store.specs.Contents.{version_in}
use Rattle.version_store.specs.DistinctKeys.{HaveDistinctKeys}
use Rattle.version_tables.specs.Healthy.{IsShort}

-- one more table, at the end
abbrev pub with_table : TableDef → Contents → Contents
with_table definition c = record c { tables = c.tables ++ definition ∷ [] }

-- the contents with another clock
abbrev pub with_clock : ℤ → Contents → Contents
with_clock moment c = record c { clock = moment }

-- a version that is closed at the moment: it is removed if it began then
abbrev pub closed_at : ℤ → TableVersion → List TableVersion
closed_at moment v = cond (is_eq (int_cmp v.from moment)) [] (record v { to = moment } ∷ [])

-- the version is one of those rows of the table
abbrev pub is_ended : ℕ → List VersionRow → TableVersion → Bool
is_ended table ended v = list_any (λ row. same_version (version_in table row) v) ended

-- the remains of a version: it is closed at the moment if it is one of the ended rows, and else
-- stays
abbrev pub remains_of : ℕ → ℤ → List VersionRow → TableVersion → List TableVersion
remains_of table moment ended v = cond (is_ended table ended v) (closed_at moment v) (v ∷ [])

-- the rows of a table end at the moment
abbrev pub ended_at : ℕ → ℤ → List VersionRow → Contents → Contents
ended_at table moment ended c =
    record c { versions = flat_map (remains_of table moment ended) c.versions }

-- rows are added to a table: each is recorded from the moment on, and is current
abbrev pub added_at : ℕ → ℤ → List PeriodRow → Contents → Contents
added_at table moment added c =
    record c { versions = c.versions ++ map (added_in table moment forever) added }

-- the contents after a plan for a table at a moment: rows end, and then rows are added
abbrev pub planned : ℕ → ℤ → List VersionRow → List PeriodRow → Contents → Contents
planned table moment ended added c = added_at table moment added (ended_at table moment ended c)

-- a plan that can be made of contents: each of its rows is short as it is written, and no two
-- versions are of one key afterwards
pub record CanMake (table : ℕ) (moment : ℤ) (ended : List VersionRow) (added : List PeriodRow)
    (c : Contents) : Type 0 where
  pub ended_short : AllByRecursion (λ (row : VersionRow). IsShort (encoded row.values)) ended
  pub added_short : AllByRecursion (λ (row : PeriodRow). IsShort (encoded row.values)) added
  pub distinct : HaveDistinctKeys (planned table moment ended added c).versions

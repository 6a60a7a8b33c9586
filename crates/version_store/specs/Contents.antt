-- The contents of a store: the tables' definitions, the clock, the version rows.
use Rattle.std.specs.Prelude.{◌≡◌, ◌==◌, ◌&&◌, ◌++◌, ◌∷◌, ℕ, ℤ, Bool, List, [], length, map}
use Rattle.std.specs.Prelude.{filter}
use Rattle.std.specs.Prelude.{IsPermutation, IsSorted}
use Rattle.std.specs.Option.{option_map_or}
use Rattle.std.specs.declared.cmp.Ordering.{Ordering}
use Rattle.std.specs.List.{All, AllByRecursion}
use Rattle.std.specs.Ordering.{on, then_cmp, int_cmp, is_eq}
use Rattle.period_core.specs.Encoding.{IsColumnValue}
use Rattle.period_core.specs.Moments.{IsMomentNumber, first_moment}
use Rattle.period_core.specs.Order.{values_cmp}
use Rattle.period_core.specs.declared.row.PeriodRow.{PeriodRow}
use Rattle.period_core.specs.declared.value.Value.{Value}
use Rattle.period_core.specs.declared.version.VersionRow.{VersionRow}
use Rattle.catalog_core.specs.declared.table.TableDef.{TableDef}
use Rattle.catalog_core.specs.table.TableWords.{table_of}
use Rattle.version_tables.specs.Good.{AreDays}

-- a version of the table of a number: its values hold on the days from start on and before end, as
-- recorded from one moment on and before another
pub record TableVersion : Type 0 where
  pub table : ℕ
  pub values : List Value
  pub start : ℤ
  pub end : ℤ
  pub from : ℤ
  pub to : ℤ

-- the tables in the order of their creation, numbered from 1; the clock; the versions of all
-- tables, in any order
pub record Contents : Type 0 where
  pub tables : List TableDef
  pub clock : ℤ
  pub versions : List TableVersion

-- a new store has no tables, and its clock is the first moment
abbrev pub empty_contents : Contents
empty_contents = record { tables = []; clock = first_moment; versions = [] }

-- a version row of a table, by the table's number
abbrev pub version_in : ℕ → VersionRow → TableVersion
version_in table row = record {
  table = table;
  values = row.values;
  start = row.period.start;
  end = row.period.end;
  from = row.from;
  to = row.to;
}

-- a period row as it is added to a table: recorded from one moment on and before another
abbrev pub added_in : ℕ → ℤ → ℤ → PeriodRow → TableVersion
added_in table from to row = record {
  table = table;
  values = row.values;
  start = row.period.start;
  end = row.period.end;
  from = from;
  to = to;
}

-- whether two versions have one key: table, values, period start, system start
abbrev pub same_version : TableVersion → TableVersion → Bool
same_version k v =
    (v.table == k.table)
    && (is_eq (values_cmp v.values k.values)
    && (is_eq (int_cmp v.start k.start) && is_eq (int_cmp v.from k.from)))

-- the order of versions: by values, then period start, then system start
abbrev pub version_cmp : TableVersion → TableVersion → Ordering
version_cmp =
    then_cmp (on (λ v. v.values) values_cmp)
    (then_cmp (on (λ v. v.start) int_cmp) (on (λ v. v.from) int_cmp))

-- the versions of the table
abbrev pub of_table : ℕ → List TableVersion → List TableVersion
of_table table = filter (λ v. v.table == table)

-- the rows are the versions of the table, each once, in that order
pub record AreRowsOf (c : Contents) (table : ℕ) (rows : List VersionRow) : Type 0 where
  pub all : IsPermutation (of_table table c.versions) (map (version_in table) rows)
  pub sorted : IsSorted version_cmp (map (version_in table) rows)

-- the rows of the table of a number, of lists in the order of the tables; of a number without a
-- list none
abbrev pub rows_of_table : List (List VersionRow) → ℕ → List VersionRow
rows_of_table lists number =
    option_map_or (λ (rows : List VersionRow). rows) (table_of lists number) []

-- the lists have the versions of each table, each once and in any order
abbrev pub AreVersionsOf : Contents → List (List VersionRow) → Type 0
AreVersionsOf c lists = (number : ℕ) → IsPermutation (of_table number c.versions)
    (map (version_in number) (rows_of_table lists number))

-- a row was added to the list of a table, and no other list changed
pub record HasMore (number : ℕ) (row : VersionRow) (old new : List (List VersionRow)) : Type 0
  where
    pub count : length new ≡ length old
    pub there : rows_of_table new number ≡ rows_of_table old number ++ row ∷ []
    pub others : (other : ℕ) → (other ≡ number → ⊥)
        → rows_of_table new other ≡ rows_of_table old other

-- each value is one that a column holds
abbrev pub HaveColumnValues : List TableVersion → Type 0
HaveColumnValues = AllByRecursion (λ v. All IsColumnValue v.values)

-- the version's period is one of days, and its system time one of moments, so no later than FOREVER
pub record IsDated (v : TableVersion) : Type 0 where
  pub days : AreDays v.start v.end
  pub from : IsMomentNumber v.from
  pub to : IsMomentNumber v.to

-- all versions are dated
abbrev pub AreDated : List TableVersion → Type 0
AreDated = AllByRecursion IsDated

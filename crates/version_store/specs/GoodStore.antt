-- Good stores, point by point.
use Rattle.std.specs.Prelude.{◌≡◌, ◌≤◌, ◌+◌, ℤ, pos, true, false, List, [], ◌∷◌, ◌++◌}
use Rattle.std.specs.Prelude.{ℕ, length, map, Some}
use Rattle.std.specs.List.{All, AllByRecursion}
use Rattle.period_core.specs.Encoding.{IsColumnValue}
use Rattle.period_core.specs.declared.version.VersionRow.{VersionRow}
use Rattle.catalog_core.specs.Limits.{most_tables}
use Rattle.catalog_core.specs.table.TableWords.{table_of}
use Rattle.catalog_core.specs.declared.table.TableDef.{TableDef}
use Rattle.sqlite.specs.Effect.{Database}
use Rattle.sqlite.specs.Order.{Row}
use Rattle.sqlite.specs.Tree.{IsAscending}
use Rattle.sqlite.specs.declared.types.Value.TheVariants.{Int, Blob}
use Rattle.version_tables.specs.Forms.{end_in, moment_in}
use Rattle.version_tables.specs.Good.{AreDays, AreMoments, IsClock, AreMetaRows}
use Rattle.version_tables.specs.Represents.{HasRecords, stored}
use Rattle.version_tables.specs.Rows.{IsNumberAt}
use Rattle.version_tables.specs.Tables.{HasStoreTables}
use Rattle.version_tables.specs.declared.form.Form.{Form}
use Rattle.version_tables.specs.declared.form.Form.TheVariants.{Microseconds}
use Rattle.version_store.specs.Contents.{Contents, TableVersion, of_table, rows_of_table}
use Rattle.version_store.specs.Contents.{same_version, version_in}
use Rattle.catalog_core.specs.create.Lawful.{IsLawful}
use Rattle.version_store.specs.RowValues.{are_row_values}
use Rattle.version_store.specs.Units.{in_microseconds, version_of}
use Rattle.version_store.specs.Written.{IsReadable, written_in, written_table, written_version}

-- the version's table exists, its values belong to a row of it, its period is one of days, its
-- system time one of moments up to the clock, in the unit of the form
pub record IsGoodVersionIn (form : Form) (tables : List TableDef) (clock : ℤ) (v : TableVersion)
    : Type 0 where
  pub definition : TableDef
  pub table : table_of tables v.table ≡ Some definition
  pub values : are_row_values definition v.values ≡ true
  pub held : All IsColumnValue v.values
  pub days : AreDays v.start v.end
  pub moments : AreMoments form clock v.from v.to

-- a good version with its moments in microseconds
abbrev pub IsGoodVersion : List TableDef → ℤ → TableVersion → Type 0
IsGoodVersion = IsGoodVersionIn Microseconds

-- each version's table exists
abbrev pub HaveTables : Contents → Type 0
HaveTables c =
    AllByRecursion (λ v. (d : TableDef) × (table_of c.tables v.table ≡ Some d)) c.versions

-- each definition is one that CREATE gives over those before it
abbrev pub AreLawful : List TableDef → List TableDef → Type 0
AreLawful before [] = Unit {0}
AreLawful before (d ∷ more) = IsLawful before d × AreLawful (before ++ d ∷ []) more

-- the points that are judged; what keys and references ask of the contents is a parameter
pub record IsGoodStore (Constrained : Contents → Type 0) (db : Database) : Type 0 where
  -- the contents that it represents: the rows of the three tables are the rows of the contents, in
  -- the unit of this form
  pub form : Form
  pub contents : Contents
  pub says : HasRecords db (written_in form contents)
  -- 1: the three tables exist, as the store makes them; all other tables follow them
  pub tables_there : HasStoreTables db.schema
  -- 2: the one row of bt_meta has form 1 or 2, as `written_in` says, and a clock
  pub clock : IsClock form contents.clock
  -- 3: the definitions are numbered from 1, as `written_in` says; they are at most 64, can be read,
  -- and are lawful
  pub few : length contents.tables ≤ most_tables
  pub readable : AllByRecursion IsReadable contents.tables
  pub lawful : AreLawful [] contents.tables
  -- 4: each version
  pub versions : AllByRecursion (IsGoodVersionIn form contents.tables contents.clock)
      contents.versions
  -- 5: no two versions have one key: table, values, period start, system start
  pub distinct : IsAscending (λ (a b : TableVersion). same_version a b ≡ false) contents.versions
  -- 6: keys and references
  pub constrained : Constrained (in_microseconds form contents)

-- contents, in microseconds, for which the points 2 to 4 and 6 hold; point 5 is of a database
pub record AreGood (Constrained : Contents → Type 0) (c : Contents) : Type 0 where
  pub clock : IsClock Microseconds c.clock
  pub few : length c.tables ≤ most_tables
  pub lawful : AreLawful [] c.tables
  pub versions : AllByRecursion (IsGoodVersion c.tables c.clock) c.versions
  pub constrained : Constrained c

-- no condition more is asked: the points 1 to 5 alone
abbrev pub NoExtraCondition : Contents → Type 0
NoExtraCondition c = Unit {0}

-- ---- good stores by the rows that the queries show

-- a row of bt_table: the next number, and the bytes of a definition that may follow those before it
pub record IsTableRow (before : List TableDef) (row : Row) (d : TableDef) : Type 0 where
  pub spelled : row ≡ Int (pos (length before + 1)) ∷ Blob (written_table d) ∷ []
  pub readable : IsReadable d
  pub lawful : IsLawful before d

-- the rows are the definitions', after the rows before them
abbrev pub AreTableRows : List TableDef → List Row → List TableDef → Type 0
AreTableRows before [] [] = Unit {0}
AreTableRows before [] (d ∷ more) = ⊥
AreTableRows before (row ∷ rows) [] = ⊥
AreTableRows before (row ∷ rows) (d ∷ more) =
    IsTableRow before row d × AreTableRows (before ++ d ∷ []) rows more

-- the rows of bt_table: at most 64 definitions
pub record AreTables (rows : List Row) (tables : List TableDef) : Type 0 where
  pub few : length rows ≤ most_tables
  pub each : AreTableRows [] rows tables

-- a row of bt_version: a good version
abbrev pub IsVersionRow : Form → List TableDef → ℤ → Row → Type 0
IsVersionRow form tables clock row =
    (v : TableVersion) × (row ≡ stored (written_version v)) × IsGoodVersionIn form tables clock v

-- the version row has the period and the system time of a row of bt_version, in microseconds
pub record HasTimesOf (form : Form) (row : Row) (read : VersionRow) : Type 0 where
  pub start : IsNumberAt row 2 read.period.start
  pub end : IsNumberAt row 3 read.period.end
  pub from : (n : ℤ) × IsNumberAt row 4 n × (read.from ≡ moment_in form n)
  pub to : (n : ℤ) × IsNumberAt row 5 n × (read.to ≡ end_in form n)

-- a row of bt_version is read as a version row of the table of a number: it is the row of a good
-- version, and the version row is this in microseconds
abbrev pub IsReadAs : Form → List TableDef → ℤ → Row → ℕ → VersionRow → Type 0
IsReadAs form tables clock row number read =
    (v : TableVersion) × (row ≡ stored (written_version v)) × IsGoodVersionIn form tables clock v
    × (version_in number read ≡ version_of form v)

-- rows of bt_version are read as the version rows of each table
pub record AreReadAs (form : Form) (tables : List TableDef) (clock : ℤ) (rows : List Row)
    (lists : List (List VersionRow)) : Type 0 where
  pub versions : List TableVersion
  pub spelled : rows ≡ map (λ v. stored (written_version v)) versions
  pub good : AllByRecursion (IsGoodVersionIn form tables clock) versions
  pub listed : (number : ℕ) → map (version_in number) (rows_of_table lists number)
      ≡ map (version_of form) (of_table number versions)

-- the rows of bt_meta and of bt_table have this form, this clock and these definitions
pub record AreDefinitions (metas tables : List Row) (known : List TableDef) (form : Form)
    (clock : ℤ) : Type 0 where
  pub meta : AreMetaRows metas form clock
  pub defined : AreTables tables known

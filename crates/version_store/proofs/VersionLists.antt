-- The versions that the query of all tables gives, row by row, as they are read.
use Rattle.std.proofs.Common.{◌≡◌, ℕ, ℤ, List, [], ◌∷◌, ◌++◌, Option, Some, None}
use Rattle.std.specs.List.{AllByRecursion}
use Rattle.period_core.specs.declared.version.VersionRow.{VersionRow}
use Rattle.catalog_core.specs.declared.table.TableDef.{TableDef}
use Rattle.sqlite.specs.Store.{Ghosts}
use Rattle.sqlite.specs.Held.{Held, state}
use Rattle.sqlite.specs.Order.{Row}
use Rattle.sqlite.specs.State.{HasCleanDisk}
use Rattle.version_tables.specs.Giving.{AreVersions, GivesNext, HasGivenAll, HasGivenRows}
use Rattle.version_tables.specs.Selections.{OfAllTables}
use Rattle.version_tables.specs.Tables.{HasStoreTables}
use Rattle.version_tables.specs.declared.form.Form.{Form}
use Rattle.version_store.specs.Contents.{HasMore}
use Rattle.version_store.specs.GoodStore.{AreReadAs, IsReadAs, IsVersionRow}
use Rattle.version_store.proofs.ReadRows.{AreReadSoFar, not_all, one_read}

-- the query has given rows, which are read as the lists
abbrev pub HasBeenRead : {S : Type 0} → Ghosts S → Form → List TableDef → ℤ → Held S → Held S → List (List VersionRow) → Type 0
HasBeenRead g form tables clock first now lists = (given : List Row) × HasGivenRows g OfAllTables first now given × AreReadSoFar form tables clock given lists

-- one row more is read into the lists
abbrev pub ReadsOne : Form → List TableDef → ℤ → Row → List (List VersionRow) → List (List VersionRow) → Type 0
ReadsOne form tables clock row old new = (number : ℕ) × (read : VersionRow) × IsReadAs form tables clock row number read × HasMore number read old new

-- all versions are read as the lists
abbrev pub IsReadAll : {S : Type 0} → Ghosts S → Form → List TableDef → ℤ → Held S → List (List VersionRow) → Type 0
IsReadAll g form tables clock first lists = (rows : List Row) × AreVersions (state g first).now rows × AreReadAs form tables clock rows lists

-- not all rows are a good store's
abbrev pub HasBadRow : {S : Type 0} → Ghosts S → Form → List TableDef → ℤ → Held S → Type 0
HasBadRow g form tables clock first = (rows : List Row) × AreVersions (state g first).now rows × ¬ AllByRecursion (IsVersionRow form tables clock) rows

module _ {S : Type 0} (g : Ghosts S) (form : Form) (tables : List TableDef) (clock : ℤ) (first : Held S) where
  pub one_given : (before now : Held S) (old new : List (List VersionRow)) (was : HasBeenRead g form tables clock first before old) (row : Row) (after : Option Row) → GivesNext g OfAllTables first now was.0 after → after ≡ Some row
      → ReadsOne form tables clock row old new → HasBeenRead g form tables clock first now new
  one_given before now old new was row after gives is taken =
      (was.0 ++ row ∷ [], rw is at gives, one_read form tables clock was.0 old new row taken.0 taken.1 was.2 taken.2 taken.3)

  pub all_given : (before now : Held S) (lists : List (List VersionRow)) (was : HasBeenRead g form tables clock first before lists) (after : Option Row) → GivesNext g OfAllTables first now was.0 after → after ≡ None
      → HasCleanDisk (state g now) → HasStoreTables (state g first).now.schema → IsReadAll g form tables clock first lists
  all_given before now lists was after gives is clean has =
      let all : HasGivenAll g OfAllTables first now was.0 = rw is at gives in
      (was.0, all.rows clean has, was.2.0)

  pub bad_given : (before now : Held S) (lists : List (List VersionRow)) (was : HasBeenRead g form tables clock first before lists) (row : Row) (after : Option Row) → GivesNext g OfAllTables first now was.0 after → after ≡ Some row
      → HasCleanDisk (state g now) → HasStoreTables (state g first).now.schema → ¬ IsVersionRow form tables clock row → HasBadRow g form tables clock first
  bad_given before now lists was row after gives is clean has none =
      let on : HasGivenRows g OfAllTables first now (was.0 ++ row ∷ []) = rw is at gives in
      let shown = on.rows clean has in
      ((was.0 ++ row ∷ []) ++ shown.0, shown.1, not_all (IsVersionRow form tables clock) was.0 shown.0 row none)

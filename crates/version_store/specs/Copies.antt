-- The database of a copy, as it is written.
use Rattle.std.specs.Prelude.{◌≡◌, ◌++◌, ℕ, ℤ, [], List, OnOk, Result, filter, map, nat_le}
use Rattle.sqlite.specs.Store.{Ghosts}
use Rattle.sqlite.specs.Held.{Held, state}
use Rattle.period_core.specs.declared.version.VersionRow.{VersionRow}
use Rattle.catalog_core.specs.declared.table.TableDef.{TableDef}
use Rattle.version_store.specs.Contents.{Contents, version_in}
use Rattle.version_store.specs.StoreState.{IsUsable}
use Rattle.version_store.specs.Written.{Has}

-- more tables, at the end
abbrev pub with_tables : List TableDef → Contents → Contents
with_tables definitions c = record c { tables = c.tables ++ definitions }

-- more versions of a table, at the end
abbrev pub with_versions : ℕ → List VersionRow → Contents → Contents
with_versions table rows c = record c { versions = c.versions ++ map (version_in table) rows }

-- the database has these contents, as they were last committed
pub record HasCommitted {S : Type 0} (g : Ghosts S) (connection : Held S) (c : Contents)
    : Type 0 where
  pub now : Has (state g connection).now c
  pub committed : (state g connection).committed ≡ (state g connection).now

-- on Ok the database has whatever contents it had of which P holds, changed, if the connection is
-- usable as the call ends
abbrev pub CommitsMore : {S X E : Type 0} → Ghosts S → Held S → Held S → Result X E
    → (Contents → Type 0) → (Contents → Contents) → Type 0
CommitsMore g old new result P change =
    IsUsable g new → (c : Contents) → P c → HasCommitted g old c
    → OnOk result (HasCommitted g new (change c))

-- a store that has these tables and this clock, and no versions
abbrev pub without_versions : List TableDef → ℤ → Contents
without_versions tables clock = record { tables = tables; clock = clock; versions = [] }

-- the contents without the versions of the tables after the one with the number
abbrev pub up_to : ℕ → Contents → Contents
up_to number c = record c { versions = filter (λ v. nat_le v.table number) c.versions }

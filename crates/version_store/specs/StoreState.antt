-- The state of a store in memory, and the contents that it represents.
use Rattle.std.specs.Prelude.{◌≡◌, ◌⊎◌, ◌+◌, ℕ, ℤ, IfErr, IsTrue, OnErr, OnOk, Result, refl}
use Rattle.std.specs.Coded.{Coded, code_by, coded×, coded_ℤ}
use Rattle.catalog_core.specs.contracts.table.catalog.Catalog.{the_row}
use Rattle.catalog_core.specs.declared.table.catalog.Catalog.{Catalog}
use Rattle.period_core.specs.Moments.{first_moment}
use Rattle.period_core.specs.declared.refusal.Refusal.{Refusal}
use Rattle.period_core.specs.declared.refusal.Refusal.TheVariants.{BadStore, Memory, Store}
use Rattle.sqlite.specs.Store.{Ghosts}
use Rattle.sqlite.specs.State.{HasCleanDisk, State}
use Rattle.sqlite.specs.Held.{Held, held_code, state}
use Rattle.sqlite.specs.Steps.{over_memory}
use Rattle.sqlite_trees.specs.declared.memory.MemStore.{MemStore}
use Rattle.sqlite.specs.Schema.{Schema}
use Rattle.version_tables.specs.Forms.{form_number}
use Rattle.version_tables.specs.Healthy.{IsHealthy}
use Rattle.version_tables.specs.Keeping.{LeavesOthers}
use Rattle.version_tables.specs.Making.{IsBegunIn}
use Rattle.version_tables.specs.Presence.{HasEachStoreTable}
use Rattle.version_tables.specs.Steps.{HasFault, IsAsBefore, KeepsFaults}
use Rattle.version_tables.specs.Tables.{HasStoreTables}
use Rattle.version_tables.specs.contracts.form.Form.{the_row as a_form}
use Rattle.version_tables.specs.declared.form.Form.{Form}
use Rattle.version_tables.specs.declared.form.Form.TheVariants.{Microseconds}
use Rattle.version_store.specs.Contents.{AreDated, Contents}
use Rattle.version_store.specs.Units.{in_microseconds}
use Rattle.version_store.specs.Written.{Has, HasIn}

-- the connection, the tables, the clock
pub record StoreState (S : Type 0) : Type 0 where
  pub connection : Held S
  pub catalog : Catalog
  pub clock : ℤ

-- the model's form of it: the three parts, one after the other
abbrev pub store_state_code : {S : Type 0} → Coded S → Coded (StoreState S)
store_state_code {S} store =
    code_by (Held S × (Catalog × ℤ)) (coded× (held_code store) (coded× the_row.coded coded_ℤ))
    (λ k. (k.connection, (k.catalog, k.clock)))
    (λ p. record { connection = p.0; catalog = p.1.0; clock = p.1.1 })
    (λ _. refl)

-- the disk has returned what was written so far, and no failure has shut the connection
abbrev pub IsUsable : {S : Type 0} → Ghosts S → Held S → Type 0
IsUsable g connection = HasCleanDisk (state g connection) × IsTrue (state g connection).is_open

-- a store in memory is always usable
abbrev pub MemoryIsUsable : Type 0
MemoryIsUsable = (connection : Held MemStore) → IsUsable over_memory connection

-- if the connection is usable as a call ends, the other tables of its database are as they were, if
-- the store's three tables come before them
abbrev pub SparesOthers : {S : Type 0} → Ghosts S → Held S → Held S → Type 0
SparesOthers g old new = IsUsable g new → LeavesOthers g old new

-- the database has the contents, as they were last committed, and so has the store in memory;
-- their versions can be read
pub record StoreRepresents {S : Type 0} (g : Ghosts S) (store : StoreState S) (c : Contents)
    : Type 0 where
  pub now : Has (state g store.connection).now c
  pub committed : (state g store.connection).committed ≡ (state g store.connection).now
  pub catalog : store.catalog.tables ≡ c.tables
  pub clock : store.clock ≡ c.clock
  pub dated : AreDated c.versions

-- a store that was opened, and the form of which its database still is; the clock is in
-- microseconds
pub record OpenedState (S : Type 0) : Type 0 where
  pub store : StoreState S
  pub form : Form

-- the model's form of it: the two parts, one after the other
abbrev pub opened_state_code : {S : Type 0} → Coded S → Coded (OpenedState S)
opened_state_code {S} store =
    code_by (StoreState S × Form) (coded× (store_state_code store) a_form.coded)
    (λ o. (o.store, o.form))
    (λ p. record { store = p.0; form = p.1 })
    (λ _. refl)

-- the database has contents, as they were last committed, which are in microseconds these; and so
-- has the store in memory
pub record OpenedRepresents {S : Type 0} (g : Ghosts S) (opened : OpenedState S) (c : Contents)
    : Type 0 where
  pub counted : Contents
  pub same : in_microseconds opened.form counted ≡ c
  pub now : HasIn opened.form (state g opened.store.connection).now counted
  pub committed : (state g opened.store.connection).committed
      ≡ (state g opened.store.connection).now
  pub catalog : opened.store.catalog.tables ≡ c.tables
  pub clock : opened.store.clock ≡ c.clock
  pub dated : AreDated c.versions

-- whatever the store represented, it represents that changed on Ok, and the same on Err
abbrev pub Changes : {S X : Type 0} → Ghosts S → StoreState S → StoreState S → Result X Refusal
    → (Contents → Contents) → Type 0
Changes g old new result change =
    IsUsable g new.connection → (c : Contents) → StoreRepresents g old c
    → OnOk result (StoreRepresents g new (change c)) × OnErr result (StoreRepresents g new c)

-- if a call is refused and the connection is usable as it ends, the database is as before
abbrev pub StaysOnErr : {S X E : Type 0} → Ghosts S → Held S → Held S → Result X E → Type 0
StaysOnErr g old new result =
    IsUsable g new → OnErr result (IsAsBefore (state g old) (state g new))

-- the tables, the clock and the database are as before; the connection was usable if it is so now,
-- and no fault is forgotten
pub record IsOnlyRead {S : Type 0} (g : Ghosts S) (old new : StoreState S) : Type 0 where
  pub catalog : new.catalog ≡ old.catalog
  pub clock : new.clock ≡ old.clock
  pub usable : IsUsable g new.connection → IsUsable g old.connection
  pub same : IsUsable g new.connection
      → IsAsBefore (state g old.connection) (state g new.connection)
  pub faults : KeepsFaults (state g old.connection) (state g new.connection)

-- out of memory, or another failure of the database
abbrev pub IsStoreRefusal : Refusal → Type 0
IsStoreRefusal refusal = (refusal ≡ Memory) ⊎ (refusal ≡ Store)

-- a new store was added after the other tables, which have the rows that they had; and that
-- is committed
abbrev pub IsCreatedAfter : State → State → Type 0
IsCreatedAfter old new =
    IsBegunIn (form_number Microseconds) first_moment old.now new.now
    × (new.committed ≡ new.now)

-- why a call fails that reads what can be read: it is out of memory, or there was a fault of the
-- database
abbrev pub IsFailure : {S : Type 0} → Ghosts S → Held S → Held S → Refusal → Type 0
IsFailure g old new refusal = (refusal ≡ Memory) ⊎ HasFault (state g old) (state g new)

-- why a store is not opened: it is no good one, or one of those
abbrev pub IsOpenRefusal : Refusal → Type 0
IsOpenRefusal refusal = (refusal ≡ BadStore) ⊎ IsStoreRefusal refusal

-- the three tables, if all of them exist, are as the store makes them; all other tables
-- follow them
abbrev pub OwnTablesAreWellFormed : Schema → Type 0
OwnTablesAreWellFormed schema = HasEachStoreTable schema → HasStoreTables schema

-- over a healthy database, with room for so many versions more, a change of contents of which P
-- holds is refused for memory or a fault of the database alone
abbrev pub FailsForReason : {S X : Type 0} → Ghosts S → StoreState S → StoreState S
    → Result X Refusal → ℕ → (Contents → Type 0) → Type 0
FailsForReason g old new result count P =
    IsUsable g new.connection → (c : Contents) → StoreRepresents g old c
    → IsHealthy count (state g old.connection).now → P c
    → IfErr result (IsFailure g old.connection new.connection)

-- on Ok the database is left healthy, and so many versions use up room
abbrev pub LeavesHealthy : {S X : Type 0} → Ghosts S → StoreState S → StoreState S
    → Result X Refusal → ℕ → Type 0
LeavesHealthy g old new result used =
    IsUsable g new.connection → (c : Contents) → StoreRepresents g old c
    → (left : ℕ) → IsHealthy (used + left) (state g old.connection).now
    → OnOk result (IsHealthy left (state g new.connection).now)

-- A step inside a transaction, and a whole transaction.
use Rattle.std.specs.Prelude.{◌≡◌, ◌+◌, ℕ, IfErr, IsTrue, OnOk, Result}
use Rattle.sqlite.specs.Store.{Ghosts}
use Rattle.sqlite.specs.State.{HasCleanDisk}
use Rattle.sqlite.specs.Effect.{Database, IsDatabase}
use Rattle.sqlite.specs.Held.{Held, state}
use Rattle.version_tables.specs.Represents.{Records, Represents}
use Rattle.version_tables.specs.Healthy.{IsHealthy}
use Rattle.version_store.specs.Contents.{Contents}
use Rattle.version_store.specs.Faults.{IsCaused}
use Rattle.version_store.specs.Written.{Has}
use Rattle.version_store.specs.declared.fault.StoreFault.{StoreFault}

-- on Ok the transaction stays open, and the contents of the database are changed
abbrev pub Carries : {S X E : Type 0} → Ghosts S → Held S → Held S → Result X E
    → (Contents → Contents) → Type 0
Carries g old new result change =
    HasCleanDisk (state g new) → IsTrue old.in_transaction
    → OnOk result (IsTrue new.in_transaction
    × ((c : Contents) → Has (state g old).now c → Has (state g new).now (change c)))

-- so it is if the database obeyed its schema
abbrev pub CarriesIfSound : {S X E : Type 0} → Ghosts S → Held S → Held S → Result X E
    → (Contents → Contents) → Type 0
CarriesIfSound g old new result change =
    HasCleanDisk (state g new) → IsTrue old.in_transaction
    → OnOk result (IsTrue new.in_transaction × (IsDatabase (state g old).now
    → (c : Contents) → Has (state g old).now c → Has (state g new).now (change c)))

-- outside a transaction: on Ok the contents are changed, and that is committed
abbrev pub Commits : {S X E : Type 0} → Ghosts S → Held S → Held S → Result X E
    → (Contents → Contents) → Type 0
Commits g old new result change =
    HasCleanDisk (state g new) → (c : Contents) → Has (state g old).now c
    → OnOk result (Has (state g new).now (change c)
    × ((state g new).committed ≡ (state g new).now))

-- so they are if the database obeyed its schema
abbrev pub CommitsIfSound : {S X E : Type 0} → Ghosts S → Held S → Held S → Result X E
    → (Contents → Contents) → Type 0
CommitsIfSound g old new result change =
    HasCleanDisk (state g new) → IsDatabase (state g old).now
    → (c : Contents) → Has (state g old).now c
    → OnOk result (Has (state g new).now (change c)
    × ((state g new).committed ≡ (state g new).now))

-- a commit of a change of the three tables' rows, if P holds of them
abbrev pub CommitsWhere : {S X E : Type 0} → Ghosts S → Held S → Held S → Result X E
    → (Records → Type 0) → (Records → Records) → Type 0
CommitsWhere g old new result P change =
    HasCleanDisk (state g new) → (records : Records) → P records
    → Represents (state g old).now records
    → OnOk result (Represents (state g new).now (change records)
    × ((state g new).committed ≡ (state g new).now))

-- ---- why a change fails

-- inside a transaction over a healthy database, with room for so many versions more, a fault has a
-- cause if P holds of the records that it represents
abbrev pub ChangeIsCaused : {S X : Type 0} → Ghosts S → Held S → Held S → Result X StoreFault → ℕ
    → (Records → Type 0) → Type 0
ChangeIsCaused g old new result count P =
    HasCleanDisk (state g new) → IsTrue old.in_transaction → IsHealthy count (state g old).now
    → (records : Records) → Represents (state g old).now records → P records
    → IfErr result (IsCaused (state g old) (state g new))

-- a fault of a plan has a cause if P holds of the contents that the database has
abbrev pub PlanIsCaused : {S X : Type 0} → Ghosts S → Held S → Held S → Result X StoreFault → ℕ
    → (Contents → Type 0) → Type 0
PlanIsCaused g old new result count P =
    HasCleanDisk (state g new) → IsTrue old.in_transaction → IsHealthy count (state g old).now
    → (c : Contents) → Has (state g old).now c → P c
    → IfErr result (IsCaused (state g old) (state g new))

-- on Ok a plan leaves the database healthy, and so many versions use up room
abbrev pub PlanStaysHealthy : {S X E : Type 0} → Ghosts S → Held S → Held S → Result X E → ℕ
    → Type 0
PlanStaysHealthy g old new result used =
    HasCleanDisk (state g new) → IsTrue old.in_transaction → (left : ℕ)
    → IsHealthy (used + left) (state g old).now → (c : Contents) → Has (state g old).now c
    → OnOk result (IsHealthy left (state g new).now)

-- a fault of a whole transaction has a cause if P holds of the records
abbrev pub CommitIsCaused : {S X : Type 0} → Ghosts S → Held S → Held S → Result X StoreFault → ℕ
    → (Records → Type 0) → Type 0
CommitIsCaused g old new result count P =
    HasCleanDisk (state g new) → IsHealthy count (state g old).now
    → (records : Records) → Represents (state g old).now records → P records
    → IfErr result (IsCaused (state g old) (state g new))

-- on Ok a transaction leaves the database healthy, and so many versions use up room
abbrev pub CommitsHealthy : {S X E : Type 0} → Ghosts S → Held S → Held S → Result X E → ℕ
    → Type 0
CommitsHealthy g old new result used =
    HasCleanDisk (state g new) → (left : ℕ) → IsHealthy (used + left) (state g old).now
    → (c : Contents) → Has (state g old).now c → OnOk result (IsHealthy left (state g new).now)

-- the call does so of a database of which P holds, and none of the room is used up
abbrev pub CommitsHealthyWhere : {S X E : Type 0} → Ghosts S → Held S → Held S → Result X E
    → (Database → Type 0) → Type 0
CommitsHealthyWhere g old new result P =
    HasCleanDisk (state g new) → (left : ℕ) → IsHealthy left (state g old).now
    → P (state g old).now → OnOk result (IsHealthy left (state g new).now)

-- a cause for the failure of a commit, over contents that P holds of
abbrev pub CommitOfIsCaused : {S X : Type 0} → Ghosts S → Held S → Held S → Result X StoreFault → ℕ
    → (Contents → Type 0) → Type 0
CommitOfIsCaused g old new result count P =
    HasCleanDisk (state g new) → IsHealthy count (state g old).now
    → (c : Contents) → Has (state g old).now c → P c
    → IfErr result (IsCaused (state g old) (state g new))

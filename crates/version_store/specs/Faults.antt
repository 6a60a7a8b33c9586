-- The causes of a store's faults.
use Rattle.std.specs.Prelude.{◌≡◌, ◌⊎◌, IsTrue}
use Rattle.sqlite.specs.State.{State}
use Rattle.version_tables.specs.Steps.{HasFault}
use Rattle.version_store.specs.declared.fault.OpenFault.{OpenFault}
use Rattle.version_store.specs.declared.fault.OpenFault.TheVariants.{BadStore, Store}
use Rattle.version_store.specs.declared.fault.StoreFault.{StoreFault}
use Rattle.version_store.specs.declared.fault.StoreFault.TheVariants.{Memory}

-- a fault over an open connection: memory ran out, or there was a fault of the database since
abbrev pub IsCaused : State → State → StoreFault → Type 0
IsCaused old new fault = IsTrue old.is_open → (fault ≡ Memory) ⊎ HasFault old new

-- the judged rows belong to no good store, or memory ran out
abbrev pub IsJudgement : OpenFault → Type 0
IsJudgement fault = (fault ≡ BadStore) ⊎ (fault ≡ Store Memory)

-- a good store is not read: memory ran out, or there was a fault of the database since
abbrev pub IsUnread : State → State → OpenFault → Type 0
IsUnread old new fault = (fault ≡ Store Memory) ⊎ HasFault old new

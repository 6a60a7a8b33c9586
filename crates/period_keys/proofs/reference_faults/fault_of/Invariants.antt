use Rattle.std.proofs.Common.{◌≡◌, take}
use Rattle.std.specs.List.{Any}
use Rattle.catalog_core.specs.declared.change.Change.{Change}
use Rattle.history_model.specs.Histories.{State}
use Rattle.period_keys.specs.Faults.{IsFaultBy, IsPlannedIn}
use Rattle.period_keys.specs.Keys.{IsLeastOf}
use Rattle.period_keys.proofs.reference_faults.fault_of.Given as goal

abbrev pub invariant-loop-reference : goal.invariant-loop-reference
invariant-loop-reference l = (before : State) (change : Change) → change.table ≡ l.changed → IsPlannedIn l.definitions before l.tables change l.plan
    → IsLeastOf (λ day. Any (IsFaultBy l.definitions before change l.number l.child day) (take l.reference-index l.references)) l.found

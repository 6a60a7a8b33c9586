use Rattle.std.proofs.Common.{◌≡◌}
use Rattle.catalog_core.specs.declared.change.Change.{Change}
use Rattle.history_model.specs.Histories.{State}
use Rattle.period_keys.specs.Faults.{IsPlannedIn}
use Rattle.period_keys.specs.Keys.{IsLeastOf}
use Rattle.period_keys.proofs.ReferenceFacts.{IsFaultBelow}
use Rattle.period_keys.proofs.reference_faults.reference_fault.Given as goal

abbrev pub invariant-loop-place : goal.invariant-loop-place
invariant-loop-place l = (before : State) (change : Change) → change.table ≡ l.changed → IsPlannedIn l.definitions before l.tables change l.plan
    → IsLeastOf (IsFaultBelow l.definitions before change l.place) l.found

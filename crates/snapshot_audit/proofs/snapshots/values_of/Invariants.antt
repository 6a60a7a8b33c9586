use Rattle.std.proofs.Common.{◌↔◌, List, take}
use Rattle.std.specs.List.{Contains}
use Rattle.period_core.specs.declared.value.Value.{Value}
use Rattle.snapshot_audit.specs.ActiveRows.{InActive}
use Rattle.snapshot_audit.proofs.snapshots.values_of.Given as goal

abbrev pub invariant-loop-row : goal.invariant-loop-row
invariant-loop-row l = (values : List Value) → (Contains l.held.items values ↔ InActive (take l.row-index l.active) values)

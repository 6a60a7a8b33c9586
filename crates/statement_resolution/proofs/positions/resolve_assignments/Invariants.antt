use Rattle.std.proofs.Common.{◌≡◌, map, take}
use Rattle.statement_resolution.specs.Faults.{either, faults_among}
use Rattle.statement_resolution.specs.Placing.{placed_assignment}
use Rattle.statement_resolution.specs.TableFaults.{set_faults}
use Rattle.statement_resolution.proofs.positions.resolve_assignments.Given as goal

abbrev pub invariant-loop-set : goal.invariant-loop-set
invariant-loop-set l = record {
  numbered : map (placed_assignment l.table) (take l.set-index l.assignments) ≡ l.numbered.items;
  judged : l.found ≡ either l.fn.found (faults_among (set_faults l.table) (take l.set-index l.assignments));
}

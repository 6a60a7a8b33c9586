use Rattle.std.proofs.Common.{◌≤◌, drop, length}
use Rattle.memory_store.specs.ContentStates.{HaveNoSavepoint}
use Rattle.memory_store.proofs.logged_content.LoggedContent.newest_savepoint.Given as goal

abbrev pub invariant-loop-at : goal.invariant-loop-at
invariant-loop-at l = record {
  within : l.at ≤ length l.log;
  unmarked : HaveNoSavepoint (drop l.at l.log);
}

abbrev pub decreases-loop-at : goal.decreases-loop-at
decreases-loop-at l = l.at

use Rattle.std.proofs.Common.{◌≡◌, ◌≤◌, ℕ, List, Some, length}
use Rattle.std.specs.Prelude.{slice_index_or}
use Rattle.period_core.specs.declared.version.VersionRow.{VersionRow}
use Rattle.ended_versions.specs.Chains.{behind}
use Rattle.ended_versions.specs.Packed.{Hold}
use Rattle.ended_versions.proofs.FoundFacts.{FoundTo}
use Rattle.ended_versions.proofs.chained_values.ChainedValues.seen.Given as goal

abbrev pub invariant-loop-next : goal.invariant-loop-next
invariant-loop-next l = record {
  within : behind l.next ≤ length l.self.hashes;
  hashed : (place d : ℕ) → l.next ≡ Some place → slice_index_or l.self.hashes place d ≡ l.hash;
  found : (list : List VersionRow) → Hold l.versions list → FoundTo l.self.positions l.window l.key list l.next l.seen.items;
}

abbrev pub decreases-loop-next : goal.decreases-loop-next
decreases-loop-next l = behind l.next

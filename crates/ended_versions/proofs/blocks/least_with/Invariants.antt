use Rattle.std.proofs.Common.{◌≤ℤ◌, ◌<◌, ◌≤◌, ℕ, length, get_or}
use Rattle.ended_versions.specs.declared.blocks.VersionEntry.{VersionEntry}
use Rattle.ended_versions.proofs.blocks.least_with.Given as goal

abbrev pub invariant-loop-place : goal.invariant-loop-place
invariant-loop-place l = record {
  inside : l.place ≤ length l.entries;
  own : l.earliest_from ≤ℤ l.fn.from;
  others : (k : ℕ) (d : VersionEntry) → l.place ≤ k → k < length l.entries → l.earliest_from ≤ℤ (get_or l.entries k d).from;
}

abbrev pub decreases-loop-place : goal.decreases-loop-place
decreases-loop-place l = l.place

use Rattle.std.proofs.Common.{◌≡◌, ◌≤◌, take}
use Rattle.std.specs.List.{filter}
use Rattle.ended_versions.specs.Entries.{is_seen}
use Rattle.ended_versions.proofs.walk.last_seen.Given as goal

abbrev pub invariant-loop-place : goal.invariant-loop-place
invariant-loop-place l = record {
  upto : l.place ≤ l.before;
  same : filter (is_seen l.window) (take l.before l.entries) ≡ filter (is_seen l.window) (take l.place l.entries);
}

abbrev pub decreases-loop-place : goal.decreases-loop-place
decreases-loop-place l = l.place

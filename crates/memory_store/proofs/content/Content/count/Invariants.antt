use Rattle.std.proofs.Common.{◌<◌, ◌^◌, ◌≤◌, ℕ}
use Rattle.sqlite_trees.specs.Tree.{IsIndexShape}
use Rattle.memory_store.specs.Content.{snapshot}
use Rattle.memory_store.proofs.content.Content.count.Given as goal

abbrev pub invariant-loop-count : goal.invariant-loop-count
invariant-loop-count l = record {
  fits : l.count ≤ 2 ^ 32;
  past : (t : ℕ) → l.count ≤ t → t < 2 ^ 32 → ¬ IsIndexShape ((snapshot l.self).shape t);
}

abbrev pub decreases-loop-count : goal.decreases-loop-count
decreases-loop-count l = l.count

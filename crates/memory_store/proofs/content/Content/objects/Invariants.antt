use Rattle.std.proofs.Common.{◌++◌, ◌≡◌, drop, map, take}
use Rattle.sqlite_trees.specs.Listing.{objects_from}
use Rattle.memory_store.specs.Content.{heading}
use Rattle.memory_store.proofs.content.Content.objects.Given as goal

abbrev pub invariant-loop-at : goal.invariant-loop-at
invariant-loop-at l =
    l.rows.items ++ map (take 5) (objects_from l.at (drop l.at (map heading l.trees)))
    ≡ map (take 5) (objects_from 0 (map heading l.trees))

use Rattle.std.proofs.Common.{◌<◌, ◌≡◌, ◌≢◌, append_assoc, length, map, rules}
use Rattle.std.proofs.lemmas.List.{length-map}
use Rattle.sqlite_trees.specs.declared.store.Shape.TheVariants.{Absent}
use Rattle.sqlite_trees.proofs.StoreLemmas.{listed_unless_absent, objects_step}
use Rattle.memory_store.specs.Content.{heading}
use Rattle.memory_store.proofs.Snapshots.{place_of}
use Rattle.memory_store.proofs.content.Content.objects.Goals.{else-ne, then-ne+in_ok-listing+in_ok-push}
use Rattle.memory_store.proofs.content.Content.objects.Goals as goal

pub loop-at-preserved : goal.loop-at-preserved
loop-at-preserved c =
    let trees = c.as_slice-trees.result.now in
    let x = c.index-trees-at.result in
    let within : c.loop-at.at < length (map heading trees) = rw length-map c.loop-at-test.true in
    let at = (place_of trees c.loop-at.at x c.loop-at-test.true c.index-trees-at.is).0 in
    let was = rw (objects_step _ c.loop-at.at _ _ within at) at c.loop-at.invariant in
    elim c.if-ne.branch [
      | then-ne+in_ok-listing+in_ok-push w ↦
          let there : x.shape ≢ Absent = search rules in
          rw (w.rows-is, w.in_ok-push.ensures.items, w.in_ok-listing.ensures, append_assoc) (rw (listed_unless_absent _ _ _ there) at was)
      | else-ne w ↦ let absent : x.shape ≡ Absent = search rules in rw w.rows-is (rw absent at was)
    ]

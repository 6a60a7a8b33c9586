use Rattle.std.proofs.Common.{◌+◌, ap, arith, map, pos}
use Rattle.std.proofs.lemmas.Result.{on_ok_weaker}
use Rattle.sqlite_trees.specs.declared.store.Shape.TheVariants.{Absent}
use Rattle.sqlite_trees.specs.Listing.{objects_from-unset, reals_unless_absent}
use Rattle.sqlite_trees.specs.Tree.{without_rowid}
use Rattle.memory_store.specs.Content.{heading}
use Rattle.memory_store.proofs.Snapshots.{snapshot_placed}
use Rattle.memory_store.proofs.logged_content.LoggedContent.destroy.Goals as goal

pub returns-clause-ok : goal.returns-clause-ok
returns-clause-ok c =
    let is = c.absent.ensures.heading in
    on_ok_weaker c.place.result (λ placed. snapshot_placed c.args.self.now.content c.place.new.self.content c.args.tree c.absent.result (omega arith) placed c.absent.ensures.rows Absent 0
    (ap (λ h. h.0) is) (ap (λ h. reals_unless_absent h.0 h.1) is) (without_rowid (pos (c.args.tree + 1)))
    (rw is (objects_from-unset (map heading placed.room) 0 c.args.tree c.args.tree (omega arith))))
    c.place.ensures.ok

use Rattle.std.proofs.Common.{◌≡◌, ◌∙◌, ap, arith, map}
use Rattle.std.proofs.lemmas.List.{length-map}
use Rattle.std.proofs.lemmas.Result.{on_ok_weaker}
use Rattle.sqlite_trees.specs.Listing.{objects_from-set, reals_unless_absent}
use Rattle.sqlite_trees.specs.Objects.{description, object_row}
use Rattle.sqlite_trees.specs.Tree.{put_row}
use Rattle.sqlite_trees.proofs.StoreLemmas.{present_reals}
use Rattle.memory_store.specs.Content.{heading}
use Rattle.memory_store.proofs.Snapshots.{snapshot_placed}
use Rattle.memory_store.proofs.logged_content.LoggedContent.create.Goals as goal

pub returns-clause-ok : goal.returns-clause-ok
returns-clause-ok c =
    let o = c.args.object.now in
    let it = c.in_ok-new.new in
    let is = c.in_ok-new.ensures.heading in
    let reals : reals_unless_absent it.shape it.reals ≡ o.reals = ap (λ h. reals_unless_absent h.0 h.1) is ∙ present_reals o.shape o.reals c.requires in
    on_ok_weaker c.place.result (λ placed. snapshot_placed c.args.self.now.content c.place.new.self.content c.args.tree it (omega arith) placed c.in_ok-new.ensures.rows o.shape o.reals (ap (λ h. h.0) is) reals
    (put_row (object_row c.args.tree o))
    (rw is (objects_from-set (map heading placed.room) 0 c.args.tree c.args.tree (o.shape, o.reals, description o) (omega arith) (rw length-map placed.within) c.requires)))
    c.place.ensures.ok

use Rattle.std.proofs.Common.{ap}
use Rattle.sqlite_trees.specs.View.{Snapshot}
use Rattle.sqlite_trees.proofs.ListLemmas.{all-get_or}
use Rattle.memory_store.specs.Content.{snapshot}
use Rattle.memory_store.proofs.Logs.{keeps_twice}
use Rattle.memory_store.proofs.Snapshots.{listed_next, still_shaped}
use Rattle.memory_store.proofs.logged_content.LoggedContent.relist_each.Goals as goal

pub relist-requires-clause-shaped : goal.relist-requires-clause-shaped
relist-requires-clause-shaped c =
    let may = all-get_or _ c.args.changes.now c.loop-tree.tree-index _ c.requires c.loop-tree-test.true in
    still_shaped (snapshot c.args.self.now.content) _ _ (ap (λ (s : Snapshot). s.shape) c.loop-tree.invariant.listed) may

pub relist-requires-clause-present : goal.relist-requires-clause-present
relist-requires-clause-present c = (all-get_or _ c.args.changes.now c.loop-tree.tree-index _ c.requires c.loop-tree-test.true).present

pub loop-tree-preserved : goal.loop-tree-preserved
loop-tree-preserved c =
    let was = c.loop-tree.self in
    record {
      kept = keeps_twice c.args.self.now was c.relist.new.self c.loop-tree.invariant.kept c.relist.ensures.kept;
      listed = listed_next (snapshot c.args.self.now.content) (snapshot was.content) (snapshot c.relist.new.self.content) c.args.changes.now c.loop-tree.tree-index _ c.loop-tree-test.true
          c.loop-tree.invariant.listed c.in_ok-relist.ensures.ok;
    }

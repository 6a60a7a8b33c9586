use Rattle.std.proofs.Common.{◌+◌, pos, refl}
use Rattle.sqlite_trees.specs.declared.store.Shape.TheVariants.{Absent}
use Rattle.sqlite_trees.specs.Tree.{without_rowid}
use Rattle.memory_store.specs.Content.{snapshot, with_object}
use Rattle.memory_store.proofs.Views.{written}
use Rattle.memory_store.proofs.store.MemoryStoreAlter.destroy.Goals as goal

pub returns-clause-ok : goal.returns-clause-ok
returns-clause-ok c _ =
    let s = c.args.self.now in
    record {
      sound = refl;
      is = written s (record s { logged = c.destroy.new.self; cursors = c.clear.new.self }) (with_object (snapshot s.logged.content) c.args.tree Absent 0 (without_rowid (pos (c.args.tree + 1)))) c.destroy.ensures.kept c.in_ok-destroy.ensures.ok;
    }

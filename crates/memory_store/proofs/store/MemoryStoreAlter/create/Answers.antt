use Rattle.std.proofs.Common.{refl, true}
use Rattle.sqlite_trees.specs.Objects.{object_row}
use Rattle.sqlite_trees.specs.Tree.{put_row}
use Rattle.sqlite_trees.proofs.Doubt.{no_doubt}
use Rattle.memory_store.specs.Content.{snapshot, with_object}
use Rattle.memory_store.proofs.Views.{written}
use Rattle.memory_store.proofs.store.MemoryStoreAlter.create.Goals as goal

pub create-requires : goal.create-requires
create-requires c = (c.requires (no_doubt true refl)).shaped

pub returns-clause-ok : goal.returns-clause-ok
returns-clause-ok c _ =
    let s = c.args.self.now in
    let o = c.args.object.now in
    record {
      sound = refl;
      is = written s (record s { logged = c.create.new.self; cursors = c.clear.new.self }) (with_object (snapshot s.logged.content) c.args.tree o.shape o.reals (put_row (object_row c.args.tree o))) c.create.ensures.kept c.in_ok-create.ensures.ok;
    }

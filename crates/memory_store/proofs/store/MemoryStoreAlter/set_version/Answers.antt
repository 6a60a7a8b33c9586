use Rattle.std.proofs.Common.{refl}
use Rattle.sqlite_trees.specs.Objects.{version_rows, version_tree}
use Rattle.memory_store.specs.Content.{snapshot, with_edit}
use Rattle.memory_store.proofs.Views.{written}
use Rattle.memory_store.proofs.store.MemoryStoreAlter.set_version.Goals as goal

pub returns-clause-ok : goal.returns-clause-ok
returns-clause-ok c _ =
    let s = c.args.self.now in
    record {
      sound = refl;
      is = written s (record s { logged = c.set_version.new.self; cursors = c.clear.new.self }) (with_edit (snapshot s.logged.content) version_tree (λ _. version_rows c.args.version)) c.set_version.ensures.kept c.in_ok-set_version.ensures.ok;
    }

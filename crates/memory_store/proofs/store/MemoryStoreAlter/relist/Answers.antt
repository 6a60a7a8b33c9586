use Rattle.std.proofs.Common.{refl, true}
use Rattle.sqlite_trees.proofs.Doubt.{no_doubt}
use Rattle.sqlite_trees.proofs.ListLemmas.{all_weaker}
use Rattle.memory_store.specs.Content.{MayList, snapshot, with_listed}
use Rattle.memory_store.proofs.Views.{written}
use Rattle.memory_store.proofs.store.MemoryStoreAlter.relist.Goals as goal

pub relist_all-requires : goal.relist_all-requires
relist_all-requires c =
    all_weaker _ (MayList (snapshot c.args.self.now.logged.content)) (λ change may. record { shaped = may.shaped; present = may.present }) c.args.changes.now (c.requires.each (no_doubt true refl))

pub returns-clause-ok : goal.returns-clause-ok
returns-clause-ok c _ =
    let s = c.args.self.now in
    record { sound = refl; is = written s (record s { logged = c.relist_all.new.self; cursors = c.clear.new.self }) (with_listed (snapshot s.logged.content) c.args.changes.now) c.relist_all.ensures.kept c.in_ok-relist_all.ensures.ok }

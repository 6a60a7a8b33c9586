use Rattle.std.proofs.Common.{◌∙◌, ap, inl, refl}
use Rattle.sqlite_trees.specs.View.{View}
use Rattle.memory_store.proofs.Views.{commits, only_commits}
use Rattle.memory_store.proofs.store.MemoryStoreStore.commit.Goals as goal

pub returns-clause-ok : goal.returns-clause-ok
returns-clause-ok c _ = commits c.args.self.now (record c.args.self.now { logged = c.commit.new.self }) c.commit.ensures.content c.commit.ensures.log

pub returns-clause-frame : goal.returns-clause-frame
returns-clause-frame c clean = let h = returns-clause-ok c clean in only_commits _ _ h

pub returns-clause-crash : goal.returns-clause-crash
returns-clause-crash c = λ db is.
    let h = commits c.args.self.now (record c.args.self.now { logged = c.commit.new.self }) c.commit.ensures.content c.commit.ensures.log in
    inl (refl, is ∙ ap (λ (v : View). v.committed) h.is)

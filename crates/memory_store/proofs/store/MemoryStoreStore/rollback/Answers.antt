use Rattle.std.proofs.Common.{ap, arith, inl, refl, sym, ◌∙◌}
use Rattle.sqlite_trees.specs.View.{View}
use Rattle.memory_store.proofs.Views.{rolled_back}
use Rattle.memory_store.proofs.store.MemoryStoreStore.rollback.Goals as goal

pub returns-clause-undone : goal.returns-clause-undone
returns-clause-undone c =
    let s = c.args.self.now in
    let is = rolled_back s (record s { logged = c.rollback.new.self; cursors = c.clear.new.self }) c.rollback.ensures.content c.rollback.ensures.log in
    record {
      kept = λ clean. record {
        shape = ap (λ (v : View). v.shape) is;
        reals = ap (λ (v : View). v.reals) is;
        committed_shape = ap (λ (v : View). v.committed_shape) is;
        committed_reals = ap (λ (v : View). v.committed_reals) is;
        numbered = refl;
        was_open = λ opened. opened;
        committed = λ opened. ap (λ (v : View). v.committed) is;
        marks = λ opened. ap (λ (v : View). v.marks) is;
      };
      shape = λ same. ap (λ (v : View). v.shape) is ∙ sym same;
      reals = λ same. ap (λ (v : View). v.reals) is ∙ sym same;
      committed_shape = ap (λ (v : View). v.committed_shape) is;
      committed_reals = ap (λ (v : View). v.committed_reals) is;
      numbered = refl;
      undone = λ opened. (ap (λ (v : View). v.trees) is, refl);
    }

pub returns-clause-quiet : goal.returns-clause-quiet
returns-clause-quiet c =
    let s = c.args.self.now in
    let is = rolled_back s (record s { logged = c.rollback.new.self; cursors = c.clear.new.self }) c.rollback.ensures.content c.rollback.ensures.log in
    record {
      shield = λ u. u;
      clean = omega arith;
      counts = omega arith;
      closes = λ clean opened. inl opened;
      outcomes = λ db found. found ∙ ap (λ (v : View). v.committed) is;
    }

use Rattle.std.proofs.Common.{◌-◌, ap, arith, length}
use Rattle.std.proofs.lemmas.List.{length-take}
use Rattle.memory_store.proofs.Logs.{once_more}
use Rattle.memory_store.proofs.logged_content.LoggedContent.undo_to.Goals as goal

pub loop-self-preserved : goal.loop-self-preserved
loop-self-preserved c =
    let was = c.loop-self.self in
    let log = c.undo_last.ensures.log in
    record {
      enough = omega (arith, ap length log, length-take (length was.log.items - 1) was.log.items, c.len.ensures, c.loop-self-test.true);
      undone = once_more _ _ _ _ _ _ c.loop-self.invariant.undone log c.undo_last.ensures.state;
    }

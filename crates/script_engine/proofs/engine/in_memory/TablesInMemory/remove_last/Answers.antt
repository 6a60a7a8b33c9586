use Rattle.std.proofs.Common.{arith}
use Rattle.script_engine.proofs.Indexed.{follow_popped}
use Rattle.script_engine.proofs.engine.in_memory.TablesInMemory.remove_last.Goals as goal

pub returns-clause-follow : goal.returns-clause-follow
returns-clause-follow c =
    let old = c.self.inside.current in
    rw (← c.self.view_is) (λ catalog last was. follow_popped catalog last old.items c.pop-table.new.self.items old.len (let size = old.ok in omega (arith, size)) c.pop-table.ensures.rest was)

use Rattle.std.proofs.Common.{List, ap}
use Rattle.period_keys.specs.TableRows.{TableRows}
use Rattle.script_engine.proofs.Numbers.{set_there}
use Rattle.script_engine.proofs.engine.in_memory.TablesInMemory.prepare_change.Goals as goal

pub returns : goal.returns
returns c =
    rw (← c.self.view_is) (ap (λ (current : List TableRows). record { current = current; ended = c.self.inside.ended.items })
    (set_there c.self.inside.current.items c.args.change.now.table c.in-Some.table.now c.prepare_plan.new.table c.in-Some.ensures.found c.prepare_plan.ensures))

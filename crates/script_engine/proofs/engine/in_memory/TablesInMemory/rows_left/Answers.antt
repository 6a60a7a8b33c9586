use Rattle.std.proofs.Common.{List, ap}
use Rattle.period_keys.specs.TableRows.{TableRows}
use Rattle.script_engine.proofs.Numbers.{set_there}
use Rattle.script_engine.proofs.engine.in_memory.TablesInMemory.rows_left.Goals as goal

pub returns-clause-same : goal.returns-clause-same
returns-clause-same g c =
    rw (← c.self.view_is) (ap (λ (current : List TableRows). record { current = current; ended = c.self.inside.ended.items })
    (set_there c.self.inside.current.items c.args.number c.in-Some.table.now c.rows_of_table.new.table c.in-Some.ensures.found c.rows_of_table.ensures.same))

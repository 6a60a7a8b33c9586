use Rattle.std.proofs.Common.{List, ap}
use Rattle.ended_versions.specs.Packed.{PackedVersion}
use Rattle.script_engine.proofs.Numbers.{set_there}
use Rattle.script_engine.proofs.engine.in_memory.TablesInMemory.chain.Goals as goal

pub returns : goal.returns
returns c =
    rw (← c.self.view_is) (ap (λ (ended : List (List PackedVersion)). record { current = c.self.inside.current.items; ended = ended })
    (set_there c.self.inside.ended.items c.args.number c.in-Some.list.now c.chain.new.self c.in-Some.ensures.found c.chain.ensures))

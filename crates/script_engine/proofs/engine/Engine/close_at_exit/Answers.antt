use Rattle.std.proofs.Common.{subst, sym}
use Rattle.script_engine.specs.engine.EngineState.{engine_with}
use Rattle.script_engine.specs.engine.Stored.{EngineRepresents}
use Rattle.script_engine.proofs.Openings.{constrained_good}
use Rattle.script_engine.proofs.engine.Engine.close_at_exit.Goals as goal

pub returns-clause-good : goal.returns-clause-good
returns-clause-good g c = λ usable history kept.
    let was : EngineRepresents g.S.Store history (engine_with c.self.inside.store c.self.inside.tables) = subst (λ s. EngineRepresents g.S.Store history s) (sym c.self.view_is) kept in
    c.connection_of.ensures.good usable was.contents was.stored (constrained_good history was.contents was.said)

use Rattle.std.proofs.Common.{subst, sym}
use Rattle.std.proofs.lemmas.Result.{IfOk-weaker}
use Rattle.version_store.specs.StoreState.{IsUsable, SparesOthers}
use Rattle.version_store.proofs.Beside.{spares_same}
use Rattle.script_engine.specs.engine.EngineState.{engine_with}
use Rattle.script_engine.specs.engine.Stored.{EngineRepresents}
use Rattle.script_engine.proofs.Answered.{rows_hold}
use Rattle.script_engine.proofs.engine.Engine.rows.Goals as goal

pub returns-clause-states : goal.returns-clause-states
returns-clause-states g c = λ usable history kept.
    let was : EngineRepresents g.S.Store history (engine_with c.self.inside.store c.self.inside.tables) = subst (λ s. EngineRepresents g.S.Store history s) (sym c.self.view_is) kept in
    IfOk-weaker c.rows.result _ _ (λ rows are moment day before. rows_hold history was.contents c.args.table rows.items was.said are moment day before) (c.rows.ensures.rows usable was.contents was.stored)

pub returns-clause-same : goal.returns-clause-same
returns-clause-same g c = λ usable history kept.
    let was : EngineRepresents g.S.Store history (engine_with c.self.inside.store c.self.inside.tables) = subst (λ s. EngineRepresents g.S.Store history s) (sym c.self.view_is) kept in
    record { contents = was.contents; stored = c.rows.ensures.same usable was.contents was.stored; said = was.said; current = was.current; ended = was.ended }

pub returns-clause-usable : goal.returns-clause-usable
returns-clause-usable g c usable = subst (λ s. IsUsable g.S.Store s.connection) c.self.view_is (c.rows.ensures.read.usable usable)

pub returns-clause-others : goal.returns-clause-others
returns-clause-others g c =
    subst (λ s. SparesOthers g.S.Store s.connection c.rows.new.self.connection) c.self.view_is
    (spares_same g.S.Store c.self.inside.store.connection c.rows.new.self.connection (λ usable. (c.rows.ensures.read.same usable).0))

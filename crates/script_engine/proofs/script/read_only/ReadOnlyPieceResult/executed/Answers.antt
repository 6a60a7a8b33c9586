use Rattle.std.proofs.Common.{inl, inr, refl}
use Rattle.sql_statements.specs.Plain.{plain}
use Rattle.version_store.proofs.Beside.{spares_same}
use Rattle.script_engine.proofs.script.read_only.ReadOnlyPieceResult.executed.Goals as goal

pub returns-in-None-clause-step : goal.returns-in-None-clause-step
returns-in-None-clause-step g c = λ usable history kept piece none spelled.
    let (new, step, after) = c.executed.ensures.step usable history kept piece none spelled in
    (new, inr (plain c.args.statement.now, none, spelled, inl (c.refusal_unwritten.ensures.query c.in-None.is, step)), after)

pub returns-in-Some-clause-step : goal.returns-in-Some-clause-step
returns-in-Some-clause-step g c = λ usable history kept piece none spelled.
    (history, inr (plain c.args.statement.now, none, spelled, inr (c.in-Some.ensures.other, refl, (c.in-Some.refusal, c.in-Some.ensures.step history kept, c.refused.ensures.kept))), kept)

pub returns-in-Some-clause-others : goal.returns-in-Some-clause-others
returns-in-Some-clause-others g c = spares_same g.S.Store c.args.engine.now.connection c.args.engine.now.connection (λ usable. refl)

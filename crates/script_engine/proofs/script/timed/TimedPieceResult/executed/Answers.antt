use Rattle.std.proofs.Common.{ℤ, inl, inr, subst, sym}
use Rattle.sql_statements.specs.Plain.{plain}
use Rattle.version_store.proofs.Beside.{spares_then}
use Rattle.history_model.specs.Histories.{clock_of}
use Rattle.script_engine.specs.engine.EngineState.{EngineState}
use Rattle.script_engine.specs.script.Timed.{AtStep, AtStepOver, IsClockMoment, IsReady, IsUnready}
use Rattle.script_engine.proofs.script.timed.TimedPieceResult.executed.Goals as goal

pub returns-in-Ok-clause-step : goal.returns-in-Ok-clause-step
returns-in-Ok-clause-step g c = λ usable history kept piece none spelled.
    let (ready, is, represents) = c.in-Ok.ensures.step (c.executed.ensures.usable usable) history kept in
    let (new, step, after) = c.executed.ensures.step usable ready represents piece none spelled in
    let time : IsClockMoment c.moment.result = (c.moment.ensures.in_range, c.moment.ensures.below) in
    let found = subst (λ (t : ℤ). IsReady AtStep clock_of history t (plain c.args.statement.now) ready) (sym c.moment.ensures.value) is in
    (new, inr (plain c.args.statement.now, none, spelled, time, inr (ready, found, step)), after)

pub returns-in-Ok-clause-over : goal.returns-in-Ok-clause-over
returns-in-Ok-clause-over g c piece none spelled =
    let time : IsClockMoment c.moment.result = (c.moment.ensures.in_range, c.moment.ensures.below) in
    let found = subst (λ (t : ℤ). IsReady (AtStepOver g.S.Store) (λ (e : EngineState g.row.S.Denot). e.clock) c.args.engine.now t (plain c.args.statement.now) c.ready.new.engine) (sym c.moment.ensures.value) c.in-Ok.ensures.over in
    inr (plain c.args.statement.now, none, spelled, time, inr (c.ready.new.engine, found, c.executed.ensures.over piece none spelled))

pub returns-in-Ok-clause-others : goal.returns-in-Ok-clause-others
returns-in-Ok-clause-others g c =
    spares_then g.S.Store c.args.engine.now.connection c.ready.new.engine.connection c.executed.new.engine.connection c.in-Ok.ensures.others c.executed.ensures.usable c.executed.ensures.others

pub returns-in-Err-clause-step : goal.returns-in-Err-clause-step
returns-in-Err-clause-step g c = λ usable history kept piece none spelled.
    let (new, is, represents) = c.in-Err.ensures.step usable history kept in
    let time : IsClockMoment c.moment-in-Err.result = (c.moment-in-Err.ensures.in_range, c.moment-in-Err.ensures.below) in
    let found = subst (λ (t : ℤ). IsUnready AtStep clock_of history t (plain c.args.statement.now) c.in-Err.refusal new) (sym c.moment-in-Err.ensures.value) is in
    (new, inr (plain c.args.statement.now, none, spelled, time, inl (c.in-Err.refusal, found, c.refused.ensures.kept)), represents)

pub returns-in-Err-clause-over : goal.returns-in-Err-clause-over
returns-in-Err-clause-over g c piece none spelled =
    let time : IsClockMoment c.moment-in-Err.result = (c.moment-in-Err.ensures.in_range, c.moment-in-Err.ensures.below) in
    let found = subst (λ (t : ℤ). IsUnready (AtStepOver g.S.Store) (λ (e : EngineState g.row.S.Denot). e.clock) c.args.engine.now t (plain c.args.statement.now) c.in-Err.refusal c.ready.new.engine) (sym c.moment-in-Err.ensures.value) c.in-Err.ensures.over in
    inr (plain c.args.statement.now, none, spelled, time, inl (c.in-Err.refusal, found, c.refused.ensures.kept))

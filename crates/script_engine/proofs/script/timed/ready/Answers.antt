use Rattle.std.proofs.Common.{◌≡◌, ◌<ℤ◌, ◌∙◌, Ok, false, inl, inr, rules, subst, sym}
use Rattle.std.proofs.lemmas.Result.{err_from_is_err_and}
use Rattle.sql_statements.specs.Plain.{plain}
use Rattle.sql_statements.specs.Trees as statement
use Rattle.script_engine.specs.engine.Runs.{IsQuery, Step}
use Rattle.script_engine.specs.script.Timed.{AtStepOver, is_ahead}
use Rattle.script_engine.proofs.TimedFacts.{same_clock}
use Rattle.statement_reports.specs.declared.outcome.Outcome.{Outcome}
use Rattle.script_engine.proofs.script.timed.ready.Goals as goal

pub returns-clause-step : goal.returns-clause-step
returns-clause-step g c = λ usable history kept.
    let (new, step, represents) = c.in_ok-advance.ensures.step usable history kept in
    let ahead : is_ahead c.args.time (plain c.args.statement.now) ≡ false = sym c.is_ahead_of.ensures ∙ c.if-is_ahead_of.false in
    let asks : IsQuery (plain c.args.statement.now) → ⊥ = search rules in
    let late : c.args.engine.now.clock <ℤ c.args.time = search rules in
    let later = subst (λ clock. clock <ℤ c.args.time) (same_clock g.S.Store history c.args.engine.now kept) late in
    let done = subst (λ (outcome : Outcome). Step history (statement.at c.args.time) (Ok outcome) new) c.in_ok-advance.ensures.done step in
    (new, (ahead, inl ((asks, later), done)), represents)

-- the AT is run over the engine, whatever its database holds, and of a healthy one

pub returns-clause-over : goal.returns-clause-over
returns-clause-over g c =
    let ahead : is_ahead c.args.time (plain c.args.statement.now) ≡ false = sym c.is_ahead_of.ensures ∙ c.if-is_ahead_of.false in
    let asks : IsQuery (plain c.args.statement.now) → ⊥ = search rules in
    let late : c.args.engine.now.clock <ℤ c.args.time = search rules in
    let ran = c.in_ok-advance.ensures in
    let done = subst (λ (outcome : Outcome). AtStepOver g.S.Store c.args.engine.now c.args.time (Ok outcome) c.advance.new.self) ran.done (record { step = ran.step; over = ran.over; why = ran.why; healthy = ran.healthy }) in
    (ahead, inl ((asks, late), done))

pub returns-in_err-advance-clause-over : goal.returns-in_err-advance-clause-over
returns-in_err-advance-clause-over g c =
    let ahead : is_ahead c.args.time (plain c.args.statement.now) ≡ false = sym c.is_ahead_of.ensures ∙ c.if-is_ahead_of.false in
    let asks : IsQuery (plain c.args.statement.now) → ⊥ = search rules in
    let late : c.args.engine.now.clock <ℤ c.args.time = search rules in
    let ran = c.in_err-advance.ensures in
    let p = err_from_is_err_and c.from_residual.result c.from_residual.ensures.1 in
    rw (p.1, p.2) (inr (ahead, (asks, late), record { step = ran.step; over = ran.over; why = ran.why; healthy = ran.healthy }))

use Rattle.std.proofs.Common.{◌≡◌, ◌≤ℤ◌, ℤ, ap, subst}
use Rattle.std.proofs.lemmas.Result.{err_from_is_err_and}
use Rattle.sql_statements.specs.Trees as statement
use Rattle.version_tables.proofs.OwnKeys.{healthy_none}
use Rattle.script_engine.specs.engine.Runs.{MayRefuseOver}
use Rattle.script_engine.proofs.OverFacts.{accepted_over, refused_over}
use Rattle.script_engine.proofs.SameInMemory.{moment_over, not_earlier}
use Rattle.script_engine.proofs.engine.Engine.advance.Goals as goal

pub returns-in_err-at-clause-over : goal.returns-in_err-at-clause-over
returns-in_err-at-clause-over g c =
    let p = err_from_is_err_and c.from_residual.result c.from_residual.ensures.1 in
    rw (p.1, p.2) (let tables = c.args.self.now.catalog.tables in
    let clock = c.args.self.now.clock in
    let may = subst (λ (m : ℤ). MayRefuseOver tables clock (statement.at m) c.in_err-at.field-0.0) c.moment.ensures.value
    (moment_over tables clock c.moment.result c.in_err-at.field-0.0 c.moment.ensures.below c.in_err-at.ensures.refused) in
    refused_over g.S.Store c.args.self.now (statement.at c.args.moment) c.at.new.self c.in_err-at.field-0.0 may c.in_err-at.ensures.memory c.in_err-at.ensures.none_stored c.at.ensures.usable)

pub returns-clause-over : goal.returns-clause-over
returns-clause-over g c =
    let late = subst (λ (m : ℤ). c.args.self.now.clock ≤ℤ m) c.moment.ensures.value c.in_ok-at.ensures.later.0 in
    accepted_over g.S.Store c.args.self.now (statement.at c.args.moment) c.at.new.self _
    (not_earlier c.args.self.now.catalog.tables c.args.self.now.clock c.args.moment late)
    (ap (λ k. k.tables) c.at.ensures.catalog, subst (λ (m : ℤ). c.at.new.self.clock ≡ m) c.moment.ensures.value c.in_ok-at.ensures.advanced)
    c.at.ensures.usable

-- ---- 62 is due to a fault

pub returns-in_err-at-clause-why : goal.returns-in_err-at-clause-why
returns-in_err-at-clause-why g c =
    let p = err_from_is_err_and c.from_residual.result c.from_residual.ensures.1 in
    rw (p.1, p.2) (λ usable history kept room told. c.in_err-at.ensures.why usable kept.contents kept.stored room.healthy told)

-- ---- the database stays healthy

pub returns-clause-healthy : goal.returns-clause-healthy
returns-clause-healthy g c = λ usable history kept left room. c.in_ok-at.ensures.healthy usable kept.contents kept.stored left (healthy_none left _ room.healthy)

use Rattle.std.proofs.Common.{refl, subst}
use Rattle.std.specs.Prelude.{MatchBool}
use Rattle.catalog_core.specs.query.Queries.{plain_query}
use Rattle.snapshot_audit.specs.Differences.{AgreesIn}
use Rattle.snapshot_audit.proofs.DifferenceSteps.{checks_agreed, checks_differed}
use Rattle.snapshot_audit.proofs.differences.earlier.Goals as goal

pub returns : goal.returns
returns c =
    let Agrees : Type 0 = AgreesIn (plain_query c.args.query.now) c.args.lists.now c.args.answer.now c.args.day c.args.values.now in
    let agrees : Agrees = subst (λ b. MatchBool b (Agrees → ⊥) Agrees) c.if-differs.false c.differs.ensures in
    checks_agreed (plain_query c.args.query.now) c.args.lists.now c.args.answer.now c.args.day c.args.values.now c.args.least agrees

pub returns-then-differs : goal.returns-then-differs
returns-then-differs c =
    checks_differed (plain_query c.args.query.now) c.args.lists.now c.args.answer.now c.args.day c.args.values.now c.args.least (c.if-not-can_be_covered.ensures.0 refl)
    c.if-not-is_before.ensures c.if-differs.ensures

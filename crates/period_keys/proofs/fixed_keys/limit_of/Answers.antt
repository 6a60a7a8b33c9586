use Rattle.sql_statements.specs.Plain.{plain_condition}
use Rattle.period_keys.specs.FixedKeys.{States}
use Rattle.period_keys.proofs.PlanParts.{if_ok}
use Rattle.period_keys.proofs.Limits.{limit_said}
use Rattle.period_keys.specs.Ranges.{IsLimitOf}
use Rattle.std.proofs.Common.{sym, subst}
use Rattle.period_keys.proofs.fixed_keys.limit_of.Goals as goal

pub returns : goal.returns
returns g c =
    let condition = plain_condition c.args.condition.now in
    let With = States (g.T.ColumnTest.Says c.args.included) condition c.args.position in
    let Without = States (g.T.ColumnTest.Says c.args.excluded) condition c.args.position in
    if_ok c.of.result _ _ (λ limit is. subst (IsLimitOf With Without) (sym is) (limit_said With Without c.stated_value-at.result c.stated_value-past.result c.stated_value-at.ensures c.stated_value-past.ensures)) c.of.ensures

use Rattle.std.proofs.Common.{sym, subst}
use Rattle.period_keys.specs.FixedKeys.{ComparesWithin, SaysWithin}
use Rattle.period_keys.specs.Ranges.{IfLimited, IsLimitOf}
use Rattle.period_keys.proofs.PlanParts.{if_ok}
use Rattle.period_keys.proofs.Limits.{limit_held, limit_said}
use Rattle.period_keys.proofs.fixed_keys.limit_within.Goals as goal

pub returns-clause-held : goal.returns-clause-held
returns-clause-held c =
    let With = ComparesWithin c.args.conditions.now c.args.start c.args.width c.args.included c.args.position in
    let Without = ComparesWithin c.args.conditions.now c.args.start c.args.width c.args.excluded c.args.position in
    if_ok c.of.result _ _ (λ limit is. subst (IfLimited With Without) (sym is) (limit_held With Without c.in_ok-at.at c.in_ok-past.past c.in_ok-at.ensures.held c.in_ok-past.ensures.held)) c.of.ensures

pub returns-clause-said : goal.returns-clause-said
returns-clause-said c fits =
    let With = SaysWithin c.args.conditions.now c.args.start c.args.width c.args.included c.args.position in
    let Without = SaysWithin c.args.conditions.now c.args.start c.args.width c.args.excluded c.args.position in
    if_ok c.of.result _ _ (λ limit is. subst (IsLimitOf With Without) (sym is) (limit_said With Without c.in_ok-at.at c.in_ok-past.past (c.in_ok-at.ensures.said fits) (c.in_ok-past.ensures.said fits))) c.of.ensures

use Rattle.period_keys.specs.FixedKeys.{ComparesWithin}
use Rattle.sql_statements.specs.declared.statement.Comparison.TheVariants.{Equal}
use Rattle.period_keys.proofs.KeyAfter.{literal_holds, or_known}
use Rattle.period_keys.proofs.PlanParts.{if_ok}
use Rattle.period_keys.proofs.key_after.value_after.Goals as goal

pub returns-in-Some-clause-held : goal.returns-in-Some-clause-held
returns-in-Some-clause-held c =
    let its : ComparesWithin c.args.conditions.now c.args.start c.args.width Equal c.args.position c.in-Some.value.now = rw c.in-Some.is at c.in_ok-value.ensures.held in
    literal_holds c.args.conditions.now c.args.known.now c.args.at c.args.start c.args.width c.args.position c.in-Some.value.now its

pub returns-in-None-clause-said : goal.returns-in-None-clause-said
returns-in-None-clause-said c fits =
    let none = rw c.in-None.is at (c.in_ok-value.ensures.said fits) in
    if_ok c.known_value.result _ _ (λ found. or_known c.args.conditions.now c.args.known.now c.args.at c.args.start c.args.width c.args.position none found) (c.known_value.ensures.said fits)

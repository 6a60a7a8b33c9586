use Rattle.period_keys.proofs.PlanParts.{if_ok}
use Rattle.period_keys.proofs.plans.rows_of_action.Goals as goal

pub returns-in-Some : goal.returns-in-Some
returns-in-Some c =
    if_ok c.rows_of.result _ _
    (λ rows within v t. within v.values (c.in-Some.ensures.met v t))
    c.rows_of.ensures.left

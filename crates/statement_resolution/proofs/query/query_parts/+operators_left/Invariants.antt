use Rattle.std.proofs.Common.{◌≡◌, ◌+◌, take}
use Rattle.statement_resolution.proofs.lemmas.query.QueryWalks.{count_steps}
use Rattle.statement_resolution.proofs.query.query_parts.+operators_left.Given as goal

abbrev pub decreases-operators_left : goal.decreases-operators_left
decreases-operators_left l = goal.size-operators_left l

abbrev pub invariant-loop-step : goal.invariant-loop-step
invariant-loop-step l = l.left + count_steps (take l.step-index l.step-items) ≡ l.initial.left

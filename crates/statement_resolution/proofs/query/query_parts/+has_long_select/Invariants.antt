use Rattle.std.proofs.Common.{◌≡◌, false, take}
use Rattle.std.specs.List.{list_any}
use Rattle.statement_resolution.proofs.lemmas.query.QueryWalks.{some_in_step}
use Rattle.statement_resolution.specs.query.Refusals.{is_too_long}
use Rattle.statement_resolution.proofs.query.query_parts.+has_long_select.Given as goal

-- none of the steps so far has too long a select
abbrev pub invariant-loop-step : goal.invariant-loop-step
invariant-loop-step l = list_any (some_in_step is_too_long) (take l.step-index l.step-items) ≡ false

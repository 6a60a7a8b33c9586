use Rattle.std.proofs.Common.{◌≡◌, false, take}
use Rattle.std.specs.List.{list_any}
use Rattle.std.specs.Prelude.{is_err}
use Rattle.command_tool.proofs.statuses.exit_status.Given as goal

abbrev pub invariant-statements : goal.invariant-statements
invariant-statements g l = list_any is_err (take l.outcome-index l.results) ≡ false

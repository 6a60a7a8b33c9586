use Rattle.std.proofs.Common.{◌≡◌, map, take}
use Rattle.std.specs.List.{filter, flat_map}
use Rattle.history_model.specs.Portions.{plain_row, replacements}
use Rattle.portion_dml.specs.Plans.{version_row}
use Rattle.portion_dml.proofs.Daily.{touched as is_touched}
use Rattle.portion_dml.proofs.plan.plan_portion.Given as goal

-- the versions so far that the action touches, and the rows in their place
abbrev pub invariant-loop-row : goal.invariant-loop-row
invariant-loop-row l = record {
  ended : l.ended.items ≡ filter (is_touched l.action) (take l.row-index l.current);
  added : map plain_row l.added.items ≡ flat_map (replacements l.action) (map version_row l.ended.items);
}

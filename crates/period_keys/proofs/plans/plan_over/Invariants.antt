use Rattle.std.proofs.Common.{◌≡◌, ◌++◌, List, map}
use Rattle.std.specs.Borrow.{Bor}
use Rattle.period_core.specs.declared.version.VersionRow.{VersionRow}
use Rattle.portion_dml.specs.Plans.{Plans}
use Rattle.period_keys.specs.declared.key_rows.KeyRows.{KeyRows}
use Rattle.period_keys.specs.Rows.{rows_of_lists}
use Rattle.period_keys.proofs.plans.plan_over.Given as goal

abbrev pub invariant-loop-group : goal.invariant-loop-group
invariant-loop-group l =
    (done : List VersionRow)
    × (rows_of_lists (map (λ (g : Bor KeyRows). g.now) l.fn.groups.items) ≡ done ++ rows_of_lists (map (λ (g : Bor KeyRows). g.now) l.group-iterator.rest.items))
    × Plans l.action done l.plan

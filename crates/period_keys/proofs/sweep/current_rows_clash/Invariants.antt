use Rattle.std.proofs.Common.{◌++◌}
use Rattle.std.specs.List.{Any}
use Rattle.period_keys.specs.Keys.{IsLeastOf}
use Rattle.period_keys.specs.Rows.{AreGroupsOf}
use Rattle.period_keys.proofs.ByGroups.{IsSharedDay}
use Rattle.period_keys.proofs.Grouped.{Entries}
use Rattle.period_keys.proofs.sweep.current_rows_clash.Given as goal

abbrev pub invariant-loop-group : goal.invariant-loop-group
invariant-loop-group l =
    (done : Entries) × AreGroupsOf l.current (done ++ l.group-iterator) × IsLeastOf (λ day. Any (λ group. IsSharedDay group day) done) l.found

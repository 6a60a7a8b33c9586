use Rattle.std.proofs.Common.{◌++◌}
use Rattle.std.specs.List.{Any}
use Rattle.period_keys.specs.Keys.{IsLeastOf}
use Rattle.period_keys.specs.LookUps.{periods_by}
use Rattle.period_keys.specs.Rows.{AreGroupsOf}
use Rattle.period_keys.proofs.ByGroups.{LosesParents}
use Rattle.period_keys.proofs.Grouped.{Entries}
use Rattle.period_keys.proofs.references.least_lack_of_rows.Given as goal

abbrev pub invariant-loop-key : goal.invariant-loop-key
invariant-loop-key l =
    (done : Entries) × AreGroupsOf l.children (done ++ l.key-iterator) × IsLeastOf (λ day. Any (λ group. LosesParents (periods_by l.parents) group day) done) l.found

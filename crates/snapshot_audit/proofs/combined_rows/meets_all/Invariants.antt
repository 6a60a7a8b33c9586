use Rattle.std.proofs.Common.{◌≡◌, true, take}
use Rattle.history_model.specs.OrdinaryQuery.{meets_all}
use Rattle.snapshot_audit.proofs.combined_rows.meets_all.Given as goal

abbrev pub invariant-loop-condition : goal.invariant-loop-condition
invariant-loop-condition l = meets_all (take l.condition-index l.conjuncts) l.values ≡ true

use Rattle.std.proofs.Common.{◌≡◌, true, take}
use Rattle.std.specs.List.{list_all}
use Rattle.catalog_core.specs.query.Fitting.{sees_its_kinds}
use Rattle.catalog_core.proofs.query.fit.+all_fit.Given as goal

abbrev pub decreases-all_fit : goal.decreases-all_fit
decreases-all_fit l = goal.size-all_fit l

abbrev pub invariant-loop-reference : goal.invariant-loop-reference
invariant-loop-reference l = list_all (sees_its_kinds l.tables) (take l.reference-index l.reference-items) ≡ true

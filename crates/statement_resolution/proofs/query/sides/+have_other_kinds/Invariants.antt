use Rattle.std.proofs.Common.{length}
use Rattle.statement_resolution.proofs.query.sides.+have_other_kinds.Given as goal

abbrev pub decreases-have_other_kinds : goal.decreases-have_other_kinds
decreases-have_other_kinds l = length l.left.now

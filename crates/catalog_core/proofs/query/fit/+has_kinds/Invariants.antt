use Rattle.std.proofs.Common.{length}
use Rattle.catalog_core.proofs.query.fit.+has_kinds.Given as goal

abbrev pub decreases-has_kinds : goal.decreases-has_kinds
decreases-has_kinds l = length l.kinds.now

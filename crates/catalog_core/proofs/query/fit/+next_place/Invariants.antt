use Rattle.std.proofs.Common.{length}
use Rattle.catalog_core.proofs.query.fit.+next_place.Given as goal

abbrev pub decreases-next_place : goal.decreases-next_place
decreases-next_place l = length l.references.now

use Rattle.std.proofs.Common.{length}
use Rattle.coalesce_core.proofs.ordering.+compare_values.Given as goal

abbrev pub decreases-compare_values : goal.decreases-compare_values
decreases-compare_values l = length l.first.now

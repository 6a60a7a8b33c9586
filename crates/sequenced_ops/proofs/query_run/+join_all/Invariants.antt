use Rattle.std.proofs.Common.{length}
use Rattle.sequenced_ops.proofs.query_run.+join_all.Given as goal

abbrev pub decreases-join_all : goal.decreases-join_all
decreases-join_all l = length l.references.now

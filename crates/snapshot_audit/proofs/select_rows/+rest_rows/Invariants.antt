use Rattle.std.proofs.Common.{length}
use Rattle.snapshot_audit.proofs.select_rows.+rest_rows.Given as goal

abbrev pub decreases-rest_rows : goal.decreases-rest_rows
decreases-rest_rows l = length l.references.now

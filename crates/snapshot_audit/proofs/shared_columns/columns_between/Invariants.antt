use Rattle.snapshot_audit.specs.Pairs.{ReadSame}
use Rattle.snapshot_audit.proofs.shared_columns.columns_between.Given as goal

abbrev pub invariant-loop-condition : goal.invariant-loop-condition
invariant-loop-condition l = ReadSame l.select l.width l.more l.columns

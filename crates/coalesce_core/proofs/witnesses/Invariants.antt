use Rattle.std.proofs.Common.{◌≡◌, take, map}
use Rattle.temporal_model.specs.Witness.{witness_of}
use Rattle.coalesce_core.proofs.witnesses.Given as goal

abbrev pub invariant-loop-row : goal.invariant-loop-row
invariant-loop-row l = l.witnesses.items ≡ map witness_of (take l.row-index l.fn.rows)

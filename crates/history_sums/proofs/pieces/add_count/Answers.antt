use Rattle.history_sums.specs.Sums.{count_bytes}
use Rattle.std.proofs.Common.{rules}
use Rattle.history_sums.proofs.pieces.add_count.Goals as goal

pub returns : goal.returns
unfolding count_bytes
returns c = search rules

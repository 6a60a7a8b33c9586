use Rattle.history_sums.specs.Sums.{number_bytes}
use Rattle.std.proofs.Common.{rules}
use Rattle.history_sums.proofs.pieces.add_number.Goals as goal

pub returns : goal.returns
unfolding number_bytes
returns c = search rules

use Rattle.period_core.proofs.EncodingOrder.{reads_back}
use Rattle.period_core.proofs.encoding_laws.encoding_reads_back.Goals as goal

pub returns : goal.returns
returns c = reads_back

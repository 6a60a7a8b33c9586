use Rattle.period_core.proofs.EncodingOrder.{keeps_order}
use Rattle.period_core.proofs.encoding_laws.encoding_keeps_order.Goals as goal

pub returns : goal.returns
returns c = keeps_order

use Rattle.std.proofs.Common.{refl}
use Rattle.sequenced_ops.proofs.KnownTruths.{refuted_at}
use Rattle.sequenced_ops.proofs.conjuncts.is_ruled_out.Goals as goal

pub returns-then-is_refuted : goal.returns-then-is_refuted
returns-then-is_refuted c = λ yes.
    refuted_at c.args.start c.args.values.now c.args.conjuncts.now
    c.loop-condition.condition-index c.condition-item.result c.loop-condition-test.true
    c.condition-item.is (c.if-is_refuted.ensures refl)

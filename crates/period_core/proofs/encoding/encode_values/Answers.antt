use Rattle.std.proofs.Common.{arith}
use Rattle.std.proofs.lemmas.Grind.{common_steps}
use Rattle.std.proofs.lemmas.List.Elements.{All-more}
use Rattle.period_core.specs.Encoding.{IsColumnValue}
use Rattle.period_core.proofs.encoding.encode_values.Goals as goal

pub loop-value-preserved : goal.loop-value-preserved
loop-value-preserved c = record {
  bytes = grind (arith, common_steps);
  held = All-more IsColumnValue c.args.values.now c.loop-value.value-index c.value-item.result c.loop-value-test.true c.loop-value.invariant.held
      (rw (← c.value-item.is) c.in_ok-push_value.ensures.held);
}

use Rattle.std.proofs.Common.{◌≡◌, ◌<◌, [], List, get_or, length, subst}
use Rattle.period_core.specs.declared.value.Value.{Value}
use Rattle.temporal_model.proofs.ListSteps.{copied_more}
use Rattle.sequenced_ops.proofs.joins.joined.Goals as goal

pub loop-value-preserved : goal.loop-value-preserved
loop-value-preserved c =
    let i = c.loop-value.value-index in
    let value : Value = c.value-item.result in
    let below : i < length c.args.first.now = subst (λ (values : List Value). i < length values) c.as_slice-value-items.ensures c.loop-value-test.true in
    let here : value ≡ get_or c.args.first.now i value = subst (λ (values : List Value). value ≡ get_or values i value) c.as_slice-value-items.ensures c.value-item.is in
    copied_more [] c.args.first.now c.loop-value.both.items c.push.new.self.items i value c.in_ok-copy.field-0 below here c.in_ok-copy.ensures c.loop-value.invariant
    c.in_ok-push.ensures.items

pub loop-value-2-preserved : goal.loop-value-2-preserved
loop-value-2-preserved c =
    let i = c.loop-value-2.value-index in
    let value : Value = c.value-item-in-loop-value-2.result in
    let below : i < length c.args.second.now = subst (λ (values : List Value). i < length values) c.as_slice-value-items-2.ensures c.loop-value-2-test.true in
    let here : value ≡ get_or c.args.second.now i value = subst (λ (values : List Value). value ≡ get_or values i value) c.as_slice-value-items-2.ensures c.value-item-in-loop-value-2.is in
    copied_more c.args.first.now c.args.second.now c.loop-value-2.both.items c.push-in-loop-value-2.new.self.items i value c.in_ok-copy-2.field-0 below here
    c.in_ok-copy-2.ensures c.loop-value-2.invariant c.in_ok-push-2.ensures.items

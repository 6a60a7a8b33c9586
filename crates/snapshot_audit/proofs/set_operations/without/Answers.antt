use Rattle.std.proofs.Common.{◌≡◌, ◌↔◌, List, length, arith}
use Rattle.std.specs.List.{Contains}
use Rattle.period_core.specs.declared.value.Value.{Value}
use Rattle.snapshot_audit.proofs.SetSteps.{AreNotBelow, Lacks, picked_all, picked_among, picked_none, picked_not, picked_one}
use Rattle.snapshot_audit.proofs.set_operations.without.Goals as goal

pub loop-values-init : goal.loop-values-init
loop-values-init c =
    rw (c.new-set.ensures.items, c.into_iter-values-iterator.ensures.into_iter_gives.0)
    (picked_none (Lacks c.args.right.now) c.args.left.items c.args.right.now c.requires.left c.requires.right)

pub loop-values-preserved : goal.loop-values-preserved
loop-values-preserved c =
    let right : List (List Value) = c.args.right.now in
    let set : List (List Value) = c.loop-values.set.items in
    let others : List (List Value) = c.not_below-others.result.now in
    let by : AreNotBelow c.in-Some.values c.loop-values.others.now others =
    record { ascending = c.not_below-others.ensures.ascending; inside = c.not_below-others.ensures.inside; passed = c.not_below-others.ensures.passed; bound = c.not_below-others.ensures.bound } in
    let among : Contains others c.in-Some.values ↔ Contains right c.in-Some.values =
    picked_among (Lacks right) c.args.left.items right c.loop-values.yielded _ _ _ others set c.in-Some.values c.in-Some.ensures.steps.0 by c.loop-values.invariant in
    picked_not (Lacks right) c.args.left.items right c.loop-values.yielded _ _ _ others set c.in-Some.values c.in-Some.ensures.steps.0 by c.loop-values.invariant
    (λ lacks. lacks (among.0 (c.is_first.ensures.0 c.if-not-is_first.false)))

pub loop-values-preserved-in-Continue-1 : goal.loop-values-preserved-in-Continue-1
loop-values-preserved-in-Continue-1 c =
    let right : List (List Value) = c.args.right.now in
    let set : List (List Value) = c.loop-values.set.items in
    let others : List (List Value) = c.not_below-others.result.now in
    let by : AreNotBelow c.in-Some.values c.loop-values.others.now others =
    record { ascending = c.not_below-others.ensures.ascending; inside = c.not_below-others.ensures.inside; passed = c.not_below-others.ensures.passed; bound = c.not_below-others.ensures.bound } in
    let among : Contains others c.in-Some.values ↔ Contains right c.in-Some.values =
    picked_among (Lacks right) c.args.left.items right c.loop-values.yielded _ _ _ others set c.in-Some.values c.in-Some.ensures.steps.0 by c.loop-values.invariant in
    rw c.in_ok-push.ensures.items
    (picked_one (Lacks right) c.args.left.items right c.loop-values.yielded _ _ _ others set c.in-Some.values c.in-Some.ensures.steps.0 by c.loop-values.invariant
    (λ h. let wrong = c.if-not-is_first.ensures.1 (among.1 h) in cc))

pub returns : goal.returns
returns c =
    let none : length c.loop-values.values-iterator.rest.items ≡ 0 = omega (arith, c.in-None.ensures.steps.0) in
    picked_all (Lacks c.args.right.now) c.args.left.items c.args.right.now c.loop-values.yielded _ c.loop-values.others.now c.loop-values.set.items none c.loop-values.invariant

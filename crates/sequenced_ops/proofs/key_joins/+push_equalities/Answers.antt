use Rattle.std.proofs.Common.{◌≡◌, List, length, sym, subst, arith}
use Rattle.std.proofs.lemmas.Bool.Decides.{nat_tests}
use Rattle.sequenced_ops.specs.Operations.{Cond}
use Rattle.sequenced_ops.specs.Planning.{AddsKeys}
use Rattle.sequenced_ops.specs.declared.equalities.Equality.{Equality}
use Rattle.sequenced_ops.proofs.JoinKeys.{adds_alone, adds_first, adds_part, adds_test}
use Rattle.sequenced_ops.proofs.Logic.{on_ok_weaker}
use Rattle.sequenced_ops.proofs.key_joins.+push_equalities.Goals as goal

pub returns-then-is_empty : goal.returns-then-is_empty
returns-then-is_empty t c =
    let width = c.args.width in
    let more = c.args.more in
    let before : List Equality = c.args.keys.now.items in
    let after : List Equality = c.push_equalities.new.keys.items in
    let none : length c.in-Or.others.items ≡ 0 = grind (arith, nat_tests, c.if-is_empty.ensures) in
    on_ok_weaker c.push_equalities.result
    (AddsKeys c.deref.result.now width more before after)
    (AddsKeys c.args.condition.now width more before after)
    (λ new.
    adds_alone c.args.condition.now c.in-Or.first c.in-Or.others width more before after c.in-Or.is
    none
    (subst (λ (k : Cond). AddsKeys k width more before after) c.deref.ensures new))
    c.push_equalities.ensures

pub loop-part-init : goal.loop-part-init
loop-part-init t c =
    let width = c.args.width in
    let more = c.args.more in
    let before : List Equality = c.args.keys.now.items in
    let after : List Equality = c.push_equalities-in-And.new.keys.items in
    adds_first c.args.condition.now c.in-And.first c.in-And.others width more before after
    c.in-And.is
    (subst (λ (k : Cond). AddsKeys k width more before after) c.deref-in-And.ensures
    c.in_ok-push_equalities-in-And.ensures)

pub loop-part-preserved : goal.loop-part-preserved
loop-part-preserved t c =
    adds_part c.args.condition.now c.in-And.first c.in-And.others c.deref-part-items.result.now
    c.loop-part.part-index c.part-item.result c.args.width c.args.more c.args.keys.now.items
    c.loop-part.keys.items c.push_equalities-in-loop-part.new.keys.items c.in-And.is
    c.deref-part-items.ensures.value c.loop-part-test.true c.part-item.is c.loop-part.invariant
    c.in_ok-push_equalities-in-And-2.ensures

pub returns-in_ok-push-in-Test : goal.returns-in_ok-push-in-Test
returns-in_ok-push-in-Test t c =
    let width = c.args.width in
    let more = c.args.more in
    let before : List Equality = c.args.keys.now.items in
    subst (AddsKeys c.args.condition.now width more before) (sym c.in_ok-push-in-Test.ensures.items)
    (adds_test c.args.condition.now c.in-Test.test width more before c.in-Some.equality c.in-Test.is
    c.in-Some.ensures)

use Rattle.std.proofs.Common.{◌≡◌, ◌+◌, ◌∙◌, ap, arith, sym}
use Rattle.statement_resolution.proofs.lemmas.query.QueryWalks.{count_of, if_none_any, left_over, steps_more, too_many}
use Rattle.statement_resolution.proofs.query.query_parts.+operators_left.Goals as goal

pub returns-in_err-checked_sub-clause-none : goal.returns-in_err-checked_sub-clause-none
returns-in_err-checked_sub-clause-none t c =
    let begun : c.in_ok-left.left + count_of c.in-Combined.first.value ≡ c.args.room = sym (ap (λ (q : _). c.in_ok-left.left + count_of q) c.deref.ensures) ∙ c.in_ok-left.ensures.some in
    if_none_any _ _ (too_many c.args.query.now c.in-Combined.first c.in-Combined.steps c.deref-step-items.result.now c.args.room c.in_ok-left.left c.loop-step.left c.loop-step.step-index c.step-item.result
    c.in-Combined.is c.deref-step-items.ensures.value begun c.loop-step.invariant c.loop-step-test.true c.step-item.is (omega (arith, c.in_err-checked_sub.ensures)))

pub returns-in_err-left-2-clause-none : goal.returns-in_err-left-2-clause-none
returns-in_err-left-2-clause-none t c =
    let begun : c.in_ok-left.left + count_of c.in-Combined.first.value ≡ c.args.room = sym (ap (λ (q : _). c.in_ok-left.left + count_of q) c.deref.ensures) ∙ c.in_ok-left.ensures.some in
    if_none_any _ _ (too_many c.args.query.now c.in-Combined.first c.in-Combined.steps c.deref-step-items.result.now c.args.room c.in_ok-left.left c.loop-step.left c.loop-step.step-index c.step-item.result
    c.in-Combined.is c.deref-step-items.ensures.value begun c.loop-step.invariant c.loop-step-test.true c.step-item.is (omega (arith, c.in_ok-checked_sub.ensures, c.in_err-left-2.ensures.none)))

pub loop-step-preserved : goal.loop-step-preserved
loop-step-preserved t c =
    let more = steps_more c.deref-step-items.result.now c.loop-step.step-index c.step-item.result c.loop-step-test.true c.step-item.is in
    omega (arith, c.in_ok-checked_sub.ensures, c.in_ok-left-2.ensures.some, c.loop-step.invariant)

pub returns-clause-some : goal.returns-clause-some
returns-clause-some t c =
    let begun : c.in_ok-left.left + count_of c.in-Combined.first.value ≡ c.args.room = sym (ap (λ (q : _). c.in_ok-left.left + count_of q) c.deref.ensures) ∙ c.in_ok-left.ensures.some in
    left_over c.args.query.now c.in-Combined.first c.in-Combined.steps c.deref-step-items.result.now c.args.room c.in_ok-left.left c.loop-step.left c.loop-step.step-index
    c.in-Combined.is c.deref-step-items.ensures.value begun c.loop-step.invariant c.loop-step-test.false

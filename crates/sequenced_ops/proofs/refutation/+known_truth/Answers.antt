use Rattle.std.proofs.Common.{true, false, List, sym, ◌∙◌, subst}
use Rattle.std.specs.List.{All}
use Rattle.std.proofs.lemmas.List.{take_all}
use Rattle.std.proofs.lemmas.List.Elements.{All-more}
use Rattle.sequenced_ops.specs.Operations.{Cond}
use Rattle.sequenced_ops.specs.Planning.{IsTruth}
use Rattle.sequenced_ops.proofs.KnownTruths.{and_everywhere, and_first, and_part, or_first, or_nowhere, or_part}
use Rattle.sequenced_ops.proofs.refutation.+known_truth.Goals as goal

pub returns-then-branch-2 : goal.returns-then-branch-2
returns-then-branch-2 t c =
    let start = c.args.start in
    let values = c.args.values.now in
    let part : Cond = c.part-item.result in
    let holds : IsTruth start values part true =
    subst (IsTruth start values part) c.if-branch-2.true c.in_ok-known_truth-in-Or-2.ensures in
    subst (λ (k : Cond). IsTruth start values k true) (sym c.in-Or.is)
    (or_part start values c.in-Or.first c.in-Or.others c.deref-part-items.result.now
    c.deref-part-items.ensures.value c.loop-part.part-index part c.loop-part-test.true
    c.part-item.is holds)

pub returns-then-not-branch-2 : goal.returns-then-not-branch-2
returns-then-not-branch-2 t c =
    let start = c.args.start in
    let values = c.args.values.now in
    let part : Cond = c.part-item-in-loop-part-2.result in
    let fails : IsTruth start values part false =
    subst (IsTruth start values part) c.if-not-branch-2.true
    c.in_ok-known_truth-in-And-2.ensures in
    subst (λ (k : Cond). IsTruth start values k false) (sym c.in-And.is)
    (and_part start values c.in-And.first c.in-And.others
    c.deref-part-items-in-And.result.now c.deref-part-items-in-And.ensures.value
    c.loop-part-2.part-index part c.loop-part-2-test.true c.part-item-in-loop-part-2.is fails)

pub returns-after-loop-part : goal.returns-after-loop-part
returns-after-loop-part t c =
    let start = c.args.start in
    let values = c.args.values.now in
    let Fails = λ (k : Cond). IsTruth start values k false in
    let parts : List Cond = c.deref-part-items.result.now in
    let whole = take_all c.loop-part.part-index parts c.loop-part-test.false in
    let others : All Fails c.in-Or.others.items =
    subst (All Fails) (whole ∙ c.deref-part-items.ensures.value) c.loop-part.invariant in
    let first : IsTruth start values c.in-Or.first.value false =
    subst Fails c.deref.ensures
    (subst (IsTruth start values c.deref.result.now) c.if-branch.false
    c.in_ok-known_truth-in-Or.ensures) in
    subst Fails (sym c.in-Or.is)
    (or_nowhere start values c.in-Or.first c.in-Or.others first others)

pub returns-after-loop-part-2 : goal.returns-after-loop-part-2
returns-after-loop-part-2 t c =
    let start = c.args.start in
    let values = c.args.values.now in
    let Holds = λ (k : Cond). IsTruth start values k true in
    let parts : List Cond = c.deref-part-items-in-And.result.now in
    let whole = take_all c.loop-part-2.part-index parts c.loop-part-2-test.false in
    let others : All Holds c.in-And.others.items =
    subst (All Holds) (whole ∙ c.deref-part-items-in-And.ensures.value)
    c.loop-part-2.invariant in
    let first : IsTruth start values c.in-And.first.value true =
    subst Holds c.deref-in-And.ensures
    (subst (IsTruth start values c.deref-in-And.result.now) c.if-not-branch.false
    c.in_ok-known_truth-in-And.ensures) in
    subst Holds (sym c.in-And.is)
    (and_everywhere start values c.in-And.first c.in-And.others first others)

pub returns-then-branch : goal.returns-then-branch
returns-then-branch t c =
    let start = c.args.start in
    let values = c.args.values.now in
    let Holds = λ (k : Cond). IsTruth start values k true in
    subst Holds (sym c.in-Or.is)
    (or_first start values c.in-Or.first c.in-Or.others
    (subst Holds c.deref.ensures
    (subst (IsTruth start values c.deref.result.now) c.if-branch.true
    c.in_ok-known_truth-in-Or.ensures)))

pub returns-then-not-branch : goal.returns-then-not-branch
returns-then-not-branch t c =
    let start = c.args.start in
    let values = c.args.values.now in
    let Fails = λ (k : Cond). IsTruth start values k false in
    subst Fails (sym c.in-And.is)
    (and_first start values c.in-And.first c.in-And.others
    (subst Fails c.deref-in-And.ensures
    (subst (IsTruth start values c.deref-in-And.result.now) c.if-not-branch.true
    c.in_ok-known_truth-in-And.ensures)))

pub loop-part-preserved : goal.loop-part-preserved
loop-part-preserved t c =
    let part : Cond = c.part-item.result in
    let Fails = λ (k : Cond). IsTruth c.args.start c.args.values.now k false in
    All-more Fails c.deref-part-items.result.now c.loop-part.part-index part c.loop-part-test.true
    c.loop-part.invariant
    (subst Fails c.part-item.is
    (subst (IsTruth c.args.start c.args.values.now part) c.if-branch-2.false
    c.in_ok-known_truth-in-Or-2.ensures))

pub loop-part-2-preserved : goal.loop-part-2-preserved
loop-part-2-preserved t c =
    let part : Cond = c.part-item-in-loop-part-2.result in
    let Holds = λ (k : Cond). IsTruth c.args.start c.args.values.now k true in
    All-more Holds c.deref-part-items-in-And.result.now c.loop-part-2.part-index part
    c.loop-part-2-test.true c.loop-part-2.invariant
    (subst Holds c.part-item-in-loop-part-2.is
    (subst (IsTruth c.args.start c.args.values.now part) c.if-not-branch-2.false
    c.in_ok-known_truth-in-And-2.ensures))

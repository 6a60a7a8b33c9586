use Rattle.std.proofs.Common.{◌≡◌, true, false, sym, ◌∙◌, ap}
use Rattle.std.specs.List.{list_any, list_all}
use Rattle.std.proofs.lemmas.List.{take_all}
use Rattle.std.proofs.lemmas.List.Folds.{list_any_at, list_all_at}
use Rattle.catalog_core.proofs.lemmas.conditions.Truth.{and_both, and_right, and_truth, or_none, or_right, or_truth, truth}
use Rattle.catalog_core.proofs.condition.+satisfies.Goals as goal

pub returns-then-satisfies-2 : goal.returns-then-satisfies-2
returns-then-satisfies-2 g t c =
    let p = g.S.Subject.passed c.args.subject in
    let parts = c.deref-part-items.result.now in
    let first : truth p c.in-Or.first.value ≡ false = ap (truth p) (sym c.deref.ensures) ∙ sym c.if-satisfies.ensures in
    let found : list_any (truth p) parts ≡ true = list_any_at (truth p) parts c.loop-part.part-index c.part-item.result c.loop-part-test.true (ap (truth p) (sym c.part-item.is) ∙ sym c.if-satisfies-2.ensures) in
    let others : list_any (truth p) c.in-Or.others.items ≡ true = ap (list_any (truth p)) (sym c.deref-part-items.ensures.value) ∙ found in
    sym (ap (truth p) c.in-Or.is ∙ or_truth p c.in-Or.first c.in-Or.others ∙ or_right (truth p c.in-Or.first.value) (list_any (truth p) c.in-Or.others.items) first others)

pub returns-after-loop-part : goal.returns-after-loop-part
returns-after-loop-part g t c =
    let p = g.S.Subject.passed c.args.subject in
    let parts = c.deref-part-items.result.now in
    let first : truth p c.in-Or.first.value ≡ false = ap (truth p) (sym c.deref.ensures) ∙ sym c.if-satisfies.ensures in
    let whole = take_all c.loop-part.part-index parts c.loop-part-test.false in
    let others : list_any (truth p) c.in-Or.others.items ≡ false = ap (list_any (truth p)) (sym c.deref-part-items.ensures.value ∙ sym whole) ∙ c.loop-part.invariant in
    sym (ap (truth p) c.in-Or.is ∙ or_truth p c.in-Or.first c.in-Or.others ∙ or_none (truth p c.in-Or.first.value) (list_any (truth p) c.in-Or.others.items) first others)

pub returns-then-not-satisfies-2 : goal.returns-then-not-satisfies-2
returns-then-not-satisfies-2 g t c =
    let p = g.S.Subject.passed c.args.subject in
    let parts = c.deref-part-items-in-And.result.now in
    let first : truth p c.in-And.first.value ≡ true = ap (truth p) (sym c.deref-in-And.ensures) ∙ sym c.if-not-satisfies.ensures in
    let found : list_all (truth p) parts ≡ false = list_all_at (truth p) parts c.loop-part-2.part-index c.part-item-in-loop-part-2.result c.loop-part-2-test.true (ap (truth p) (sym c.part-item-in-loop-part-2.is) ∙ sym c.if-not-satisfies-2.ensures) in
    let others : list_all (truth p) c.in-And.others.items ≡ false = ap (list_all (truth p)) (sym c.deref-part-items-in-And.ensures.value) ∙ found in
    sym (ap (truth p) c.in-And.is ∙ and_truth p c.in-And.first c.in-And.others ∙ and_right (truth p c.in-And.first.value) (list_all (truth p) c.in-And.others.items) first others)

pub returns-after-loop-part-2 : goal.returns-after-loop-part-2
returns-after-loop-part-2 g t c =
    let p = g.S.Subject.passed c.args.subject in
    let parts = c.deref-part-items-in-And.result.now in
    let first : truth p c.in-And.first.value ≡ true = ap (truth p) (sym c.deref-in-And.ensures) ∙ sym c.if-not-satisfies.ensures in
    let whole = take_all c.loop-part-2.part-index parts c.loop-part-2-test.false in
    let others : list_all (truth p) c.in-And.others.items ≡ true = ap (list_all (truth p)) (sym c.deref-part-items-in-And.ensures.value ∙ sym whole) ∙ c.loop-part-2.invariant in
    sym (ap (truth p) c.in-And.is ∙ and_truth p c.in-And.first c.in-And.others ∙ and_both (truth p c.in-And.first.value) (list_all (truth p) c.in-And.others.items) first others)

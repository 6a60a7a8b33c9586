use Rattle.std.proofs.Common.{◌≡◌, Bool, List, true, false, sym, ◌∙◌, ap, take_all}
use Rattle.std.specs.List.{list_any}
use Rattle.std.proofs.lemmas.List.Folds.{list_any_at}
use Rattle.sql_statements.specs.Trees.{Select}
use Rattle.catalog_core.proofs.lemmas.conditions.Truth.{or_none, or_right}
use Rattle.statement_resolution.proofs.lemmas.query.QueryWalks.{Step, some_in_step, some_of, some_of_many}
use Rattle.statement_resolution.specs.query.Refusals.{is_too_long}
use Rattle.statement_resolution.proofs.query.query_parts.+has_long_select.Goals as goal

pub returns-then-has_long_select-2 : goal.returns-then-has_long_select-2
returns-then-has_long_select-2 t c =
    let holds : Select → Bool = is_too_long in
    let steps : List Step = c.deref-step-items.result.now in
    let first : some_of holds c.in-Combined.first.value ≡ false = ap (some_of holds) (sym c.deref.ensures) ∙ sym c.if-has_long_select.ensures in
    let found : list_any (some_in_step holds) steps ≡ true =
    list_any_at (some_in_step holds) steps c.loop-step.step-index c.step-item.result c.loop-step-test.true
    (ap (some_in_step holds) (sym c.step-item.is) ∙ sym c.if-has_long_select-2.ensures) in
    let others : list_any (some_in_step holds) c.in-Combined.steps.items ≡ true = ap (list_any (some_in_step holds)) (sym c.deref-step-items.ensures.value) ∙ found in
    sym (ap (some_of holds) c.in-Combined.is ∙ some_of_many holds c.in-Combined.first c.in-Combined.steps
    ∙ or_right (some_of holds c.in-Combined.first.value) (list_any (some_in_step holds) c.in-Combined.steps.items) first others)

pub returns-after-loop-step : goal.returns-after-loop-step
returns-after-loop-step t c =
    let holds : Select → Bool = is_too_long in
    let steps : List Step = c.deref-step-items.result.now in
    let first : some_of holds c.in-Combined.first.value ≡ false = ap (some_of holds) (sym c.deref.ensures) ∙ sym c.if-has_long_select.ensures in
    let whole = take_all c.loop-step.step-index steps c.loop-step-test.false in
    let others : list_any (some_in_step holds) c.in-Combined.steps.items ≡ false =
    ap (list_any (some_in_step holds)) (sym c.deref-step-items.ensures.value ∙ sym whole) ∙ c.loop-step.invariant in
    sym (ap (some_of holds) c.in-Combined.is ∙ some_of_many holds c.in-Combined.first c.in-Combined.steps
    ∙ or_none (some_of holds c.in-Combined.first.value) (list_any (some_in_step holds) c.in-Combined.steps.items) first others)

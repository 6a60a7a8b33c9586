use Rattle.std.proofs.Common.{◌≡◌, ◌&&◌, ◌∙◌, Bool, List, ap, ap₂, false, get_or, subst, sym, true}
use Rattle.std.proofs.lemmas.List.{take_all}
use Rattle.std.proofs.lemmas.List.Folds.{list_all_at, list_all_more}
use Rattle.catalog_core.specs.Conditions.{meets}
use Rattle.catalog_core.specs.declared.condition.CompareValues.{CompareValues}
use Rattle.history_model.specs.OrdinaryQuery.{meets_all}
use Rattle.sql_statements.specs.declared.tree.Tree.{Tree}
use Rattle.snapshot_audit.proofs.combined_rows.meets_all.Goals as goal

pub loop-condition-preserved : goal.loop-condition-preserved
loop-condition-preserved c =
    let met : Tree CompareValues → Bool = λ condition. meets condition c.args.values.now in
    let here : met (get_or c.args.conjuncts.now c.loop-condition.condition-index c.condition-item.result) ≡ true =
    subst (λ (k : Tree CompareValues). met k ≡ true) c.condition-item.is (sym c.holds.ensures ∙ c.if-not-holds.false) in
    list_all_more met c.args.conjuncts.now c.loop-condition.condition-index c.condition-item.result c.loop-condition-test.true ∙ ap₂ (λ (a b : Bool). a && b) c.loop-condition.invariant here

pub returns-then-not-holds : goal.returns-then-not-holds
returns-then-not-holds c =
    let met : Tree CompareValues → Bool = λ condition. meets condition c.args.values.now in
    let fails : met (get_or c.args.conjuncts.now c.loop-condition.condition-index c.condition-item.result) ≡ false =
    subst (λ (k : Tree CompareValues). met k ≡ false) c.condition-item.is (sym c.holds.ensures ∙ c.if-not-holds.true) in
    sym (list_all_at met c.args.conjuncts.now c.loop-condition.condition-index c.condition-item.result c.loop-condition-test.true fails)

pub returns : goal.returns
returns c = sym c.loop-condition.invariant ∙ ap (λ (conjuncts : List (Tree CompareValues)). meets_all conjuncts c.args.values.now) (take_all c.loop-condition.condition-index c.args.conjuncts.now c.loop-condition-test.false)

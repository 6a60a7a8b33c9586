use Rattle.std.proofs.Common.{◌≡◌, ◌<◌, List, length, get_or, ap, ◌∙◌, subst}
use Rattle.sql_statements.specs.declared.tree.Tree.{Tree}
use Rattle.catalog_core.specs.declared.condition.CompareValues.{CompareValues}
use Rattle.snapshot_audit.proofs.SharedSteps.{condition_more}
use Rattle.snapshot_audit.proofs.shared_columns.columns_between.Goals as goal

pub loop-condition-preserved : goal.loop-condition-preserved
loop-condition-preserved c =
    let i = c.loop-condition.condition-index in
    let condition : Tree CompareValues = c.condition-item.result in
    let inside : i < length c.args.select.now.conjuncts = subst (λ l. i < length l) c.as_slice-condition-items.ensures c.loop-condition-test.true in
    let is : condition ≡ get_or c.args.select.now.conjuncts i condition = c.condition-item.is ∙ ap (λ (l : List (Tree CompareValues)). get_or l i condition) c.as_slice-condition-items.ensures in
    condition_more c.args.select.now c.args.width c.args.more i condition c.loop-condition.columns c.add_condition.new.columns inside is
    c.loop-condition.invariant c.in_ok-add_condition.ensures

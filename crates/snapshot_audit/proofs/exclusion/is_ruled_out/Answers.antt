use Rattle.std.proofs.Common.{◌++◌, ◌∙◌, ap, refl, sym, List}
use Rattle.std.proofs.lemmas.List.Folds.{list_all_at}
use Rattle.period_core.specs.declared.value.Value.{Value}
use Rattle.sql_statements.specs.declared.tree.Tree.{Tree}
use Rattle.catalog_core.specs.declared.condition.CompareValues.{CompareValues}
use Rattle.catalog_core.specs.Conditions.{meets}
use Rattle.snapshot_audit.proofs.exclusion.is_ruled_out.Goals as goal

pub returns-then-is_failing : goal.returns-then-is_failing
returns-then-is_failing c = λ e rest.
    let values : List Value = (c.args.front.now ++ c.args.next.now) ++ rest in
    list_all_at (λ (condition : Tree CompareValues). meets condition values) c.args.conjuncts.now c.loop-condition.condition-index c.condition-item.result
    c.loop-condition-test.true (ap (λ (condition : Tree CompareValues). meets condition values) (sym c.condition-item.is) ∙ c.if-is_failing.ensures refl rest)

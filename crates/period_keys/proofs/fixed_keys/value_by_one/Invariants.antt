use Rattle.std.proofs.Common.{◌<◌, ℕ, get_or}
use Rattle.period_core.specs.declared.value.Value.{Value}
use Rattle.sql_statements.specs.Plain.{plain_condition}
use Rattle.sql_statements.specs.declared.tree.Tree as code
use Rattle.catalog_core.specs.declared.condition.CompareValues.{CompareValues}
use Rattle.period_keys.specs.FixedKeys.{IsComparison, States}
use Rattle.period_keys.proofs.fixed_keys.value_by_one.Given as goal

abbrev pub invariant-loop-condition : goal.invariant-loop-condition
invariant-loop-condition l =
    (k : ℕ) (d : code.Tree CompareValues) → k < l.condition-index → (value : Value) → States (IsComparison l.comparison) (plain_condition (get_or l.conditions k d)) l.place value → ⊥

use Rattle.std.proofs.Common.{◌<◌, ℕ, get_or}
use Rattle.period_core.specs.declared.value.Value.{Value}
use Rattle.sql_statements.specs.Plain.{plain_condition}
use Rattle.sql_statements.specs.declared.tree.Tree as code
use Rattle.period_keys.specs.FixedKeys.{States}
use Rattle.period_keys.proofs.fixed_keys.+stated_value.Given as goal

abbrev pub invariant-loop-part : goal.invariant-loop-part
invariant-loop-part g l =
    (k : ℕ) (d : code.Tree g.row.T.Denot) → k < l.part-index → (value : Value) → States (g.T.ColumnTest.Says l.comparison) (plain_condition (get_or l.part-items k d)) l.position value → ⊥

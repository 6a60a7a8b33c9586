use Rattle.std.proofs.Common.{◌≡◌, length, take}
use Rattle.std.specs.List.{All}
use Rattle.sql_statements.specs.Plain.{plain_condition}
use Rattle.sql_statements.specs.declared.statement.Comparison.TheVariants.{Equal}
use Rattle.period_keys.specs.FixedKeys.{FixesKey, HasValue, States}
use Rattle.period_keys.proofs.fixed_keys.leading_values.Given as goal

abbrev pub invariant-loop-position : goal.invariant-loop-position
invariant-loop-position g l =
    FixesKey g.T.ColumnTest.values g.T.ColumnTest.passes l.condition (take l.position-index l.positions) l.leading.items
    × All (HasValue (States (g.T.ColumnTest.Says Equal) (plain_condition l.condition))) (take l.position-index l.positions)
    × (length l.leading.items ≡ l.position-index)

-- For private functions: comparisons and assignments by positions, where a name without a position
-- has 0. No statement that is accepted has such a name.
use Rattle.std.specs.Prelude.{ℕ, Option, Some, None}
use Rattle.sql_statements.specs.declared.statement.Assignment as written
use Rattle.sql_statements.specs.declared.statement.ColumnReference.{ColumnReference}
use Rattle.sql_statements.specs.declared.statement.Compare.{Compare}
use Rattle.sql_statements.specs.declared.statement.Operand.{Operand}
use Rattle.sql_statements.specs.declared.statement.Operand.TheVariants as operand
use Rattle.catalog_core.specs.query.Selection.{value_position}
use Rattle.catalog_core.specs.declared.change.Assignment.{Assignment}
use Rattle.catalog_core.specs.declared.condition.Comparand.{Comparand}
use Rattle.catalog_core.specs.declared.condition.Comparand.TheVariants.{Position, Literal}
use Rattle.catalog_core.specs.declared.condition.CompareValues.{CompareValues}
use Rattle.catalog_core.specs.declared.table.TableDef.{TableDef}

-- the position, or 0 if there is none
abbrev pub or_zero : Option ℕ → ℕ
or_zero None = 0
or_zero (Some n) = n

-- a side of a comparison, by the places of columns
abbrev pub place_side : (ColumnReference → ℕ) → Operand → Comparand
place_side place (operand.Column r) = Position (place r)
place_side place (operand.Literal value) = Literal value

-- a comparison by the places of columns
abbrev pub place_compare : (ColumnReference → ℕ) → Compare → CompareValues
place_compare place c =
    record {
      left = place_side place c.left;
      comparison = c.comparison;
      right = place_side place c.right;
    }

-- an assignment
abbrev pub placed_assignment : TableDef → written.Assignment → Assignment
placed_assignment t a = record { position = or_zero (value_position t a.column); value = a.value }

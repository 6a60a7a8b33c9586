-- Conditions, assignments and portions with positions for names.
use Rattle.std.specs.Prelude.{◌≡◌, ℕ, ℤ, Option, Some, None}
use Rattle.std.specs.Option.{option_and_then, option_map}
use Rattle.period_core.specs.declared.period.Period.{Period}
use Rattle.sql_statements.specs.Plain.{plain_condition}
use Rattle.sql_statements.specs.Trees.{Condition, Conditions, any, all, negated, test, none, more}
use Rattle.sql_statements.specs.declared.statement.Assignment as written
use Rattle.sql_statements.specs.declared.statement.ColumnReference.{ColumnReference}
use Rattle.sql_statements.specs.declared.statement.Compare.{Compare}
use Rattle.sql_statements.specs.declared.statement.Operand.{Operand}
use Rattle.sql_statements.specs.declared.statement.Operand.TheVariants as operand
use Rattle.sql_statements.specs.declared.statement.Portion.{Portion}
use Rattle.sql_statements.specs.declared.tree.Tree.{Tree}
use Rattle.catalog_core.specs.query.Selection.{value_position}
use Rattle.catalog_core.specs.declared.change.Assignment.{Assignment}
use Rattle.catalog_core.specs.declared.condition.Comparand.{Comparand}
use Rattle.catalog_core.specs.declared.condition.Comparand.TheVariants.{Position, Literal}
use Rattle.catalog_core.specs.declared.condition.CompareValues.{CompareValues}
use Rattle.catalog_core.specs.declared.table.TableDef.{TableDef}

-- the condition with each test replaced
abbrev mutual
  pub map_condition : {T R : Type 0} → (T → R) → Condition T → Condition R
  map_condition f (any parts) = any (map_conditions f parts)
  map_condition f (all parts) = all (map_conditions f parts)
  map_condition f (negated part) = negated (map_condition f part)
  map_condition f (test leaf) = test (f leaf)

  pub map_conditions : {T R : Type 0} → (T → R) → Conditions T → Conditions R
  map_conditions f none = none
  map_conditions f (more part parts) = more (map_condition f part) (map_conditions f parts)

-- a side by its position, if its column has one
abbrev pub side_by : (ColumnReference → Option ℕ) → Operand → Option Comparand
side_by place (operand.Column r) = option_map (λ n. Position n) (place r)
side_by place (operand.Literal value) = Some (Literal value)

-- a comparison, if both sides have one
abbrev pub compare_by : (ColumnReference → Option ℕ) → Compare → Option CompareValues
compare_by place c =
    option_and_then
    (λ left.
    option_map (λ right. record { left = left; comparison = c.comparison; right = right })
    (side_by place c.right))
    (side_by place c.left)

-- a comparison in a row of a table
abbrev pub resolved_comparison : TableDef → Compare → Option CompareValues
resolved_comparison t c = compare_by (λ (r : ColumnReference). value_position t r.name) c

-- an assignment
abbrev pub resolved_assignment : TableDef → written.Assignment → Option Assignment
resolved_assignment t a =
    option_map (λ n. record { position = n; value = a.value }) (value_position t a.column)

-- a WHERE and another: both are absent, or each test is its form with positions
abbrev pub ReplacesWhere
    : {T S R : Type 0} → (T → R) → (S → R) → Option (Condition T) → Option (Tree S) → Type 0
ReplacesWhere f g None None = Unit {0}
ReplacesWhere f g (Some c) (Some other) =
    map_condition f c ≡ map_condition g (plain_condition other)
ReplacesWhere f g _ _ = ⊥

-- a WHERE with positions
abbrev pub ResolvesWhere
    : {T R : Type 0} → (T → Option R) → Option (Condition T) → Option (Tree R) → Type 0
ResolvesWhere numbered condition resolved =
    ReplacesWhere numbered (λ leaf. Some leaf) condition resolved

-- the days of a portion, whose period is the table's
abbrev pub portion_days : Option Portion → Option (ℤ × ℤ)
portion_days portion = option_map (λ (p : Portion). (p.from, p.to)) portion

-- the start and the end of a resolved portion
abbrev pub period_days : Option Period → Option (ℤ × ℤ)
period_days period = option_map (λ (p : Period). (p.start, p.end)) period

-- The truth of a condition, and of one over a row's values.
-- Conditions of accepted statements compare values of one kind: numbers, texts by their UTF-8
-- bytes, days. Over two kinds the order of all values decides.
use Rattle.std.specs.Prelude.{◌&&◌, ◌||◌, ◌++◌, ◌∷◌, [], Bool, true, false, not, List, Option}
use Rattle.std.specs.Prelude.{None, Some, slice_get}
use Rattle.std.specs.declared.cmp.Ordering.{Ordering}
use Rattle.std.specs.Ordering.{is_eq, is_lt, is_gt}
use Rattle.period_core.specs.Order.{value_cmp}
use Rattle.period_core.specs.declared.value.Value.{Value}
use Rattle.sql_statements.specs.Plain.{plain_condition}
use Rattle.sql_statements.specs.Trees.{Condition, Conditions, any, all, negated, test, none, more}
use Rattle.sql_statements.specs.declared.tree.Tree.{Tree}
use Rattle.sql_statements.specs.declared.statement.Comparison.{Comparison}
use Rattle.sql_statements.specs.declared.statement.Comparison.TheVariants.{Equal, NotEqual}
use Rattle.sql_statements.specs.declared.statement.Comparison.TheVariants.{Less, LessOrEqual}
use Rattle.sql_statements.specs.declared.statement.Comparison.TheVariants.{Greater}
use Rattle.sql_statements.specs.declared.statement.Comparison.TheVariants.{GreaterOrEqual}
use Rattle.catalog_core.specs.declared.condition.Comparand.{Comparand}
use Rattle.catalog_core.specs.declared.condition.Comparand.TheVariants.{Position, Literal}
use Rattle.catalog_core.specs.declared.condition.CompareValues.{CompareValues}

-- ---- any condition, by its tests

-- the tests of a condition, in the order of the text
abbrev mutual
  pub tests_of : {T : Type 0} → Condition T → List T
  tests_of (any parts) = tests_among parts
  tests_of (all parts) = tests_among parts
  tests_of (negated part) = tests_of part
  tests_of (test leaf) = leaf ∷ []

  pub tests_among : {T : Type 0} → Conditions T → List T
  tests_among none = []
  tests_among (more part parts) = tests_of part ++ tests_among parts

-- ---- a condition's truth, from the truth of its tests

abbrev mutual
  pub is_satisfied : {T : Type 0} → (T → Bool) → Condition T → Bool
  is_satisfied p (any parts) = some_satisfied p parts
  is_satisfied p (all parts) = each_satisfied p parts
  is_satisfied p (negated part) = not (is_satisfied p part)
  is_satisfied p (test leaf) = p leaf

  pub some_satisfied : {T : Type 0} → (T → Bool) → Conditions T → Bool
  some_satisfied p none = false
  some_satisfied p (more part parts) = is_satisfied p part || some_satisfied p parts

  pub each_satisfied : {T : Type 0} → (T → Bool) → Conditions T → Bool
  each_satisfied p none = true
  each_satisfied p (more part parts) = is_satisfied p part && each_satisfied p parts

-- ---- a condition over a row's values

-- the value of a side in a row, if the row has one at its position
abbrev pub side_value : Comparand → List Value → Option Value
side_value (Position position) values = slice_get values position
side_value (Literal value) values = Some value

-- whether a comparison holds of two values that are in this order
abbrev pub allows : Comparison → Ordering → Bool
allows Equal order = is_eq order
allows NotEqual order = not (is_eq order)
allows Less order = is_lt order
allows LessOrEqual order = not (is_gt order)
allows Greater order = is_gt order
allows GreaterOrEqual order = not (is_lt order)

-- whether it holds of two sides: never if one has no value
abbrev pub compared : Comparison → Option Value → Option Value → Bool
compared comparison None right = false
compared comparison (Some left) None = false
compared comparison (Some left) (Some right) = allows comparison (value_cmp left right)

-- whether a comparison holds of the row's values
abbrev pub compares : List Value → CompareValues → Bool
compares values c = compared c.comparison (side_value c.left values) (side_value c.right values)

-- whether a condition holds of the row's values
abbrev pub meets : Tree CompareValues → List Value → Bool
meets condition values = is_satisfied (compares values) (plain_condition condition)

-- a condition that may be absent: then it holds of every row
abbrev pub meets_any : Option (Tree CompareValues) → List Value → Bool
meets_any None values = true
meets_any (Some condition) values = meets condition values

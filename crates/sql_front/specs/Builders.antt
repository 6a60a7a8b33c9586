-- Trees that the productions of the grammar build of their parts.
use Rattle.std.specs.Prelude.{ℕ, ℤ, pos, List, [], ◌∷◌, Option, Some, None, filter_map}
use Rattle.period_core.specs.declared.value.Value.{Value}
use Rattle.period_core.specs.declared.value.Value.TheVariants as value
use Rattle.sql_statements.specs.declared.create.ColumnElement.{ColumnElement}
use Rattle.sql_statements.specs.declared.create.CreateTable.{CreateTable}
use Rattle.sql_statements.specs.declared.create.Generated.{Generated}
use Rattle.sql_statements.specs.declared.create.KeyElement.{KeyElement}
use Rattle.sql_statements.specs.declared.create.PeriodElement.{PeriodElement}
use Rattle.sql_statements.specs.declared.create.ReferenceElement.{ReferenceElement}
use Rattle.sql_statements.specs.declared.create.SystemElement.{SystemElement}
use Rattle.sql_statements.specs.declared.create.TypeName.{TypeName}
use Rattle.sql_statements.specs.declared.statement.Assignment.{Assignment}
use Rattle.sql_statements.specs.declared.statement.ColumnReference.{ColumnReference}
use Rattle.sql_statements.specs.declared.statement.Compare.{Compare}
use Rattle.sql_statements.specs.declared.statement.Comparison.{Comparison}
use Rattle.sql_statements.specs.declared.statement.InsertRows.{InsertRows}
use Rattle.sql_statements.specs.declared.statement.Operand.{Operand}
use Rattle.sql_statements.specs.declared.statement.PeriodOperand.{PeriodOperand}
use Rattle.sql_statements.specs.declared.statement.PeriodOperand.TheVariants.{Dates}
use Rattle.sql_statements.specs.declared.statement.PeriodPredicate.{PeriodPredicate}
use Rattle.sql_statements.specs.declared.statement.Portion.{Portion}
use Rattle.sql_statements.specs.declared.statement.SelectItem.{SelectItem}
use Rattle.sql_statements.specs.declared.statement.StoredTest.{StoredTest}
use Rattle.sql_statements.specs.declared.statement.StoredTest.TheVariants.{Periods, ContainsDay}
use Rattle.sql_statements.specs.declared.statement.SystemTime.{SystemTime}
use Rattle.sql_statements.specs.declared.statement.SystemTime.TheVariants.{FromTo, Between}
use Rattle.sql_statements.specs.declared.statement.TableReference.{TableReference}
use Rattle.sql_statements.specs.declared.tree.SetOperator.{SetOperator}
use Rattle.sql_front.specs.LiteralValues.{text_value}
use Rattle.sql_statements.specs.Trees.{Condition, any, all, conditions_of, Join, JoinChain, Select}
use Rattle.sql_statements.specs.Trees.{Query, combined, Update, Delete, Stored}
use Rattle.sql_statements.specs.Plain.{steps_of}

-- ==== literals

-- an integer without a minus
abbrev pub number_of : ℕ → Value
number_of n = value.Int (pos n)

-- a text by its token
abbrev pub text_of : List ℕ → Value
text_of token = value.Text (text_value token)

-- ==== CREATE

-- a column by its name, its type, the end that it holds, and NOT NULL, which adds nothing
abbrev pub column_of : List ℕ × (TypeName × (Option Generated × Option (Unit {0}))) → ColumnElement
column_of v = record { name = v.0; kind = v.1.0; generated = v.1.1.0 }

-- a period by its name and its two columns
abbrev pub period_of : List ℕ × (List ℕ × List ℕ) → PeriodElement
period_of v = record { name = v.0; start = v.1.0; end = v.1.1 }

-- the system period by its two columns
abbrev pub system_of : List ℕ × List ℕ → SystemElement
system_of v = record { start = v.0; end = v.1 }

-- a key by its columns and its period
abbrev pub key_of : (List (List ℕ) × List ℕ) × Unit {0} → KeyElement
key_of v = record { columns = v.0.0; period = v.0.1 }

-- a reference by the child's columns and period, the parent, and the parent's
abbrev pub reference_of :
    (List (List ℕ) × List ℕ) × (List ℕ × (List (List ℕ) × List ℕ)) → ReferenceElement
reference_of v = record {
  columns = v.0.0;
  period = v.0.1;
  parent = v.1.0;
  parent_columns = v.1.1.0;
  parent_period = v.1.1.1;
}

-- an element of CREATE TABLE
pub data Element : Type 0 where
  column_element : ColumnElement → Element
  period_element : PeriodElement → Element
  system_element : SystemElement → Element
  key_element : KeyElement → Element
  reference_element : ReferenceElement → Element

-- the column that the element is, if it is one
abbrev pub a_column : Element → Option ColumnElement
a_column (column_element c) = Some c
a_column _ = None

-- the period that it is
abbrev pub a_period : Element → Option PeriodElement
a_period (period_element p) = Some p
a_period _ = None

-- the system period that it is
abbrev pub a_system_period : Element → Option SystemElement
a_system_period (system_element p) = Some p
a_system_period _ = None

-- the key that it is
abbrev pub a_key : Element → Option KeyElement
a_key (key_element k) = Some k
a_key _ = None

-- the reference that it is
abbrev pub a_reference : Element → Option ReferenceElement
a_reference (reference_element r) = Some r
a_reference _ = None

-- a table by its elements: each kind in the order of the text
abbrev pub table_of : List ℕ × (List Element × Unit {0}) → CreateTable
table_of v = record {
  name = v.0;
  columns = filter_map a_column v.1.0;
  periods = filter_map a_period v.1.0;
  system_periods = filter_map a_system_period v.1.0;
  keys = filter_map a_key v.1.0;
  references = filter_map a_reference v.1.0;
}

-- ==== conditions

-- a column by its name, or by the name of its table reference and its name
abbrev pub column_reference_of : List ℕ × Option (List ℕ) → ColumnReference
column_reference_of (first, None) = record { qualifier = None; name = first }
column_reference_of (first, Some second) = record { qualifier = Some first; name = second }

-- a comparison by its left side, its sign and its right side
abbrev pub compare_of : Operand × (Comparison × Operand) → Compare
compare_of v = record { left = v.0; comparison = v.1.0; right = v.1.1 }

-- a chain of AND
abbrev pub all_of : {T : Type 0} → List (Condition T) → Condition T
all_of conditions = all (conditions_of conditions)

-- a chain of OR
abbrev pub any_of : {T : Type 0} → List (Condition T) → Condition T
any_of conditions = any (conditions_of conditions)

-- ==== queries

-- FROM a moment TO another
abbrev pub from_to_of : ℤ × ℤ → SystemTime
from_to_of v = FromTo v.0 v.1

-- BETWEEN a moment AND another
abbrev pub between_of : ℤ × ℤ → SystemTime
between_of v = Between v.0 v.1

-- a table in FROM by its name, its window and its new name
abbrev pub table_reference_of : List ℕ × (Option SystemTime × Option (List ℕ)) → TableReference
table_reference_of v = record { table = v.0; window = v.1.0; new_name = v.1.1 }

-- a join by its table and its condition
abbrev pub join_of : TableReference × Condition Compare → Join
join_of v = record { reference = v.0; condition = v.1 }

-- a chain by its first table and its joins
abbrev pub chain_of : TableReference × List Join → JoinChain
chain_of v = record { first = v.0; joins = v.1 }

-- a selected column, with its new name
abbrev pub item_of : ColumnReference × Option (List ℕ) → SelectItem
item_of v = record { column = v.0; new_name = v.1 }

-- a select by its items, its chains and its condition
abbrev pub select_of : List SelectItem × (List JoinChain × Option (Condition Compare)) → Select
select_of v = record { items = v.0; chains = v.1.0; condition = v.1.1 }

-- a term by its first part, and the intersections after it: without one it is that part
abbrev pub term_of : Query × List (SetOperator × Query) → Query
term_of (first, []) = first
term_of (first, s ∷ more) = combined first (steps_of (s ∷ more))

-- a query by its first part, and the set operators with the queries after them
abbrev pub combined_of : Query × List (SetOperator × Query) → Query
combined_of v = combined v.0 (steps_of v.1)

-- ==== stored queries

-- PERIOD with its start and its end
abbrev pub dates_of : ℤ × ℤ → PeriodOperand
dates_of v = Dates v.0 v.1

-- a predicate of two periods
abbrev pub periods_of : PeriodOperand × (PeriodPredicate × PeriodOperand) → StoredTest
periods_of v = Periods v.0 v.1.0 v.1.1

-- a predicate of a period and a day
abbrev pub contains_day_of : PeriodOperand × ℤ → StoredTest
contains_day_of v = ContainsDay v.0 v.1

-- a stored query by its table, its window and its condition
abbrev pub stored_of : List ℕ × (Option SystemTime × Option (Condition StoredTest)) → Stored
stored_of v = record { table = v.0; window = v.1.0; condition = v.1.1 }

-- ==== changes

-- an INSERT by its table, its listed columns and its rows
abbrev pub rows_of : List ℕ × (Option (List (List ℕ)) × List (List Value)) → InsertRows
rows_of v = record { table = v.0; columns = v.1.0; rows = v.1.1 }

-- a portion by its period, its start and its end
abbrev pub portion_of : List ℕ × (ℤ × ℤ) → Portion
portion_of v = record { period = v.0; from = v.1.0; to = v.1.1 }

-- an assignment by its column and its value
abbrev pub assignment_of : List ℕ × Value → Assignment
assignment_of v = record { column = v.0; value = v.1 }

-- an UPDATE by its table, its portion, its assignments and its condition
abbrev pub update_of :
    List ℕ × (Option Portion × (List Assignment × Option (Condition Compare))) → Update
update_of v = record { table = v.0; portion = v.1.0; assignments = v.1.1.0; condition = v.1.1.1 }

-- a DELETE by its table, its portion and its condition
abbrev pub delete_of : List ℕ × (Option Portion × Option (Condition Compare)) → Delete
delete_of v = record { table = v.0; portion = v.1.0; condition = v.1.1 }

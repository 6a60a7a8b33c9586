-- The set of a table's rows on one day after a change. A list is read as the set of its
-- members.
use Rattle.std.specs.Prelude.{◌==◌, ◌&&◌, ◌++◌, ℕ, ℤ, Bool, true, not, List, [], Option, Some, None}
use Rattle.std.specs.Prelude.{filter, fold, map, slice_set, if◌then◌else◌}
use Rattle.std.specs.List.{enumerate_from}
use Rattle.period_core.specs.declared.period.Period.{Period}
use Rattle.period_core.specs.declared.value.Value.{Value}
use Rattle.temporal_model.specs.Snapshot.{covers_day}
use Rattle.catalog_core.specs.Conditions.{meets_any}
use Rattle.catalog_core.specs.declared.condition.CompareValues.{CompareValues}
use Rattle.sql_statements.specs.declared.tree.Tree.{Tree}
use Rattle.catalog_core.specs.declared.change.Assignment.{Assignment}
use Rattle.catalog_core.specs.declared.change.InsertedRow.{InsertedRow}
use Rattle.catalog_core.specs.declared.change.Action.{Action}
use Rattle.catalog_core.specs.declared.change.Action.TheVariants.{Delete, Insert, Update}
use Rattle.catalog_core.specs.declared.change.Change.{Change}

-- the origin of a row: it was there, or it is the i-th row that the change gives
pub data Origin : Type 0 where
  Kept : (values : List Value) → Origin
  Given : (i : ℕ) → Origin

-- a row after a change, with its origin
pub record Traced : Type 0 where
  pub origin : Origin
  pub row : List Value

-- a row that was there
abbrev pub kept : List Value → Traced
kept row = record { origin = Kept row; row = row }

-- ---- INSERT

-- the rows that an action gives
abbrev pub inserted_by : Action → List InsertedRow
inserted_by (Insert given) = given
inserted_by (Update portion assignments condition) = []
inserted_by (Delete portion condition) = []

-- the i-th given row
abbrev pub inserted_row : ℕ × InsertedRow → Traced
inserted_row (i, given) = record { origin = Given i; row = given.values }

-- the i-th given row holds on the day
abbrev pub inserted_covers : ℤ → ℕ × InsertedRow → Bool
inserted_covers day (i, given) = covers_day given.start given.end day

-- ---- UPDATE and DELETE

-- the day is in the portion; without a portion every day is
abbrev pub in_portion : Option Period → ℤ → Bool
in_portion None day = true
in_portion (Some portion) day = covers_day portion.start portion.end day

-- the change acts on the row on the day
abbrev pub acts_on : Option Period → Option (Tree CompareValues) → ℤ → List Value → Bool
acts_on portion condition day row = in_portion portion day && meets_any condition row

-- the row with the values that SET gives
abbrev pub with_set : List Assignment → List Value → List Value
with_set assignments row =
    fold (λ (values : List Value) (set : Assignment). slice_set values set.position set.value)
    row assignments

-- a row after UPDATE
abbrev pub updated : Option Period → List Assignment → Option (Tree CompareValues) → ℤ
    → List Value → Traced
updated portion assignments condition day row = record {
  origin = Kept row;
  row = if acts_on portion condition day row then with_set assignments row else row;
}

-- ---- all changes

-- the rows that the action makes of a day's rows, each with its origin
abbrev pub traced : Action → ℤ → List (List Value) → List Traced
traced (Insert given) day rows =
    map kept rows ++ map inserted_row (filter (inserted_covers day) (enumerate_from 0 given))
traced (Update portion assignments condition) day rows =
    map (updated portion assignments condition day) rows
traced (Delete portion condition) day rows =
    map kept (filter (λ row. not (acts_on portion condition day row)) rows)

-- the rows that the action makes of a day's rows
abbrev pub rows_after : Action → ℤ → List (List Value) → List (List Value)
rows_after action day rows = map (λ (t : Traced). t.row) (traced action day rows)

-- a table's rows on a day after the change: other tables keep theirs
abbrev pub effect : Change → ℕ → ℤ → List (List Value) → List (List Value)
effect change table day rows =
    if table == change.table then rows_after change.action day rows else rows

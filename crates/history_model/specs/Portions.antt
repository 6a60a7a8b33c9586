-- The rows that a change touches, and those that begin in their place: over periods, and not day by
-- day.
use Rattle.std.specs.Prelude.{◌&&◌, ◌++◌, ◌∷◌, ℤ, Bool, true, false, List, [], Option, Some, None}
use Rattle.std.specs.Prelude.{flat_map, int_lt, map, if◌then◌else◌}
use Rattle.std.specs.Int.{int_max, int_min}
use Rattle.period_core.specs.declared.period.Period.{Period}
use Rattle.period_core.specs.declared.row.PeriodRow.{PeriodRow}
use Rattle.period_core.specs.declared.value.Value.{Value}
use Rattle.catalog_core.specs.Conditions.{meets_any}
use Rattle.catalog_core.specs.declared.change.InsertedRow.{InsertedRow}
use Rattle.catalog_core.specs.declared.change.Action.{Action}
use Rattle.catalog_core.specs.declared.change.Action.TheVariants.{Delete, Insert, Update}
use Rattle.history_model.specs.Effects.{inserted_by, with_set}

-- values from a day on and before an end: a row with no proof inside
pub record PlainRow : Type 0 where
  pub values : List Value
  pub start : ℤ
  pub end : ℤ

-- a period row, as a plain row
abbrev pub plain_row : PeriodRow → PlainRow
plain_row row =
    record { values = row.values; start = row.period.start; end = row.period.end }

-- a row of an INSERT, as a plain row
abbrev pub plain_given : InsertedRow → PlainRow
plain_given given = record { values = given.values; start = given.start; end = given.end }

-- the portion and the row's period share a day; without a portion they do
abbrev pub meets_portion : Option Period → PlainRow → Bool
meets_portion None row = true
meets_portion (Some portion) row =
    int_lt row.start portion.end && int_lt portion.start row.end

-- the action touches the row
abbrev pub touches : Action → PlainRow → Bool
touches (Insert given) row = false
touches (Update portion assignments condition) row =
    meets_portion portion row && meets_any condition row.values
touches (Delete portion condition) row =
    meets_portion portion row && meets_any condition row.values

-- values from a day on and before an end, if there is such a day
abbrev pub part : List Value → ℤ → ℤ → List PlainRow
part values start end =
    if int_lt start end then record { values = values; start = start; end = end } ∷ [] else []

-- the leftovers: the old values before the portion, and from its end on
abbrev pub leftovers : Option Period → PlainRow → List PlainRow
leftovers None row = []
leftovers (Some portion) row =
    part row.values row.start (int_min row.end portion.start)
    ++ part row.values (int_max row.start portion.end) row.end

-- values on the row's days in the portion
abbrev pub within : Option Period → List Value → PlainRow → List PlainRow
within None values row = part values row.start row.end
within (Some portion) values row =
    part values (int_max row.start portion.start) (int_min row.end portion.end)

-- the rows that begin in the place of a touched row
abbrev pub replacements : Action → PlainRow → List PlainRow
replacements (Insert given) row = []
replacements (Update portion assignments condition) row =
    leftovers portion row ++ within portion (with_set assignments row.values) row
replacements (Delete portion condition) row = leftovers portion row

-- the rows that the action adds: those that it gives, and those in the place of each touched row
abbrev pub added : Action → List PlainRow → List PlainRow
added action touched =
    map plain_given (inserted_by action) ++ flat_map (replacements action) touched

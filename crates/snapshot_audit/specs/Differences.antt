-- The rows of a query's selects over periods, and the days on which an answer differs from them.
use Rattle.std.specs.Prelude.{◌≡◌, ◌↔◌, ◌⊎◌, ◌+◌, ◌++◌, ◌∷◌, ◌<ℤ◌, ◌&&◌, ◌||◌, ℕ, ℤ, Bool, not}
use Rattle.std.specs.Prelude.{List, [], Contains, drop, IfSome, MatchOption, Option, slice_index_or}
use Rattle.std.specs.Prelude.{⊤}
use Rattle.period_core.specs.declared.value.Value.{Value}
use Rattle.period_core.specs.declared.row.PeriodRow.{PeriodRow}
use Rattle.temporal_model.specs.Snapshot.{InSnapshot, IsDay}
use Rattle.sql_statements.specs.declared.tree.SetOperator.{SetOperator}
use Rattle.sql_statements.specs.declared.tree.SetOperator.TheVariants.{Union, Except, Intersect}
use Rattle.catalog_core.specs.declared.query.resolved.Select.{Select}
use Rattle.catalog_core.specs.query.Queries.{Query, one, both}
use Rattle.history_model.specs.OrdinaryQuery.{InCombined, InSelect, VisibleInTables}
use Rattle.snapshot_audit.specs.Staggered.{AreStaggered}
use Rattle.snapshot_audit.specs.Verdicts.{AgreesAlways}

-- ---- a query by the rows of its selects

-- the number of selects that a query has
abbrev pub select_count : Query → ℕ
select_count (one select) = 1
select_count (both operator left right) = select_count left + select_count right

-- the query's set on a day, if the first lists are its selects'
abbrev pub InLists : Query → List (List PeriodRow) → ℤ → List Value → Type 0
InLists (one select) lists day values = InSnapshot (slice_index_or lists 0 []) day values
InLists (both operator left right) lists day values =
    InCombined operator
    (InLists left lists day) (InLists right (drop (select_count left) lists) day) values

-- whether what a set operator makes of two sets has what is in the first or not, and in the second
-- or not
abbrev pub is_combined : SetOperator → Bool → Bool → Bool
is_combined Union first second = first || second
is_combined Except first second = first && not second
is_combined Intersect first second = first && second

-- the rows of a select on a day
abbrev pub InSelectOn : List (List PeriodRow) → Select → ℤ → List Value → Type 0
InSelectOn tables select day row = InSelect (VisibleInTables tables day) select row

-- for each select, in the order of the text, a staggered list that holds on each day what it gives
abbrev pub AreRowsOf : List (List PeriodRow) → Query → List (List PeriodRow) → Type 0
AreRowsOf tables (one select) lists =
    (rows : List PeriodRow) × (lists ≡ rows ∷ []) × AreStaggered rows
    × AgreesAlways (InSelectOn tables select) rows
AreRowsOf tables (both operator left right) lists =
    (first second : List (List PeriodRow)) × (lists ≡ first ++ second)
    × AreRowsOf tables left first × AreRowsOf tables right second

-- the new lists are the old ones, followed by the query's
abbrev pub AddsRowsOf : List (List PeriodRow) → Query → List (List PeriodRow)
    → List (List PeriodRow) → Type 0
AddsRowsOf tables query old new =
    (added : List (List PeriodRow)) × (new ≡ old ++ added) × AreRowsOf tables query added

-- ---- differences

-- the answer has the values on the day exactly if the query's set has them
abbrev pub AgreesIn : Query → List (List PeriodRow) → List PeriodRow → ℤ → List Value → Type 0
AgreesIn query lists answer day values =
    InSnapshot answer day values ↔ InLists query lists day values

-- the day is before the other, if there is one
abbrev pub IsBefore : Option ℤ → ℤ → Type 0
IsBefore least day = MatchOption least ⊤ (λ other. day <ℤ other)

-- there is no day, or on it the answer differs in some values
abbrev pub IsDifference : Query → List (List PeriodRow) → List PeriodRow → Option ℤ → Type 0
IsDifference query lists answer least =
    IfSome least (λ day. IsDay day
    × ((values : List Value) × (AgreesIn query lists answer day values → ⊥)))

-- a row of the list has the values and starts or ends on the day
abbrev pub ChangesOn : List PeriodRow → ℤ → List Value → Type 0
ChangesOn rows day values =
    (row : PeriodRow) × Contains rows row × (row.values ≡ values)
    × ((row.period.start ≡ day) ⊎ (row.period.end ≡ day))

-- on this day the answer's rows or one of the lists change in these values
abbrev pub ChangesOnAny : List PeriodRow → List (List PeriodRow) → ℤ → List Value → Type 0
ChangesOnAny answer lists day values =
    ChangesOn answer day values
    ⊎ ((rows : List PeriodRow) × Contains lists rows × ChangesOn rows day values)

-- one list of values on one day
abbrev pub IsAt : ℤ → List Value → ℤ → List Value → Type 0
IsAt day values other others = (day ≡ other) × (values ≡ others)

-- the result is no later than the least day before; on the marked days before it the answer agrees
-- in the values that are marked; and it is again a difference
pub record Checks (query : Query) (lists : List (List PeriodRow)) (answer : List PeriodRow)
    (Marks : ℤ → List Value → Type 0) (least result : Option ℤ) : Type 0 where
  pub keeps : (day : ℤ) → IsBefore result day → IsBefore least day
  pub agrees : (day : ℤ) (values : List Value) → Marks day values → IsDay day
      → IsBefore result day → AgreesIn query lists answer day values
  pub differs : IsDifference query lists answer least → IsDifference query lists answer result

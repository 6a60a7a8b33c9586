-- The days on which snapshots may change.
use Rattle.std.specs.Prelude.{◌≡◌, ◌↔◌, ◌⊎◌, ◌<ℤ◌, ◌≤ℤ◌, ℤ, List, map, AllPairs, Contains}
use Rattle.period_core.specs.Calendar.{first_day}
use Rattle.period_core.specs.declared.value.Value.{Value}
use Rattle.period_core.specs.declared.row.PeriodRow.{PeriodRow}
use Rattle.temporal_model.specs.Snapshot.{NoChangeBetween}
use Rattle.catalog_core.specs.query.Queries.{Query, references_of, rows_for}

-- the rows that the references of the query see, in the order of the text
abbrev pub seen_lists : Query → List (List PeriodRow) → List (List PeriodRow)
seen_lists query tables = map (rows_for tables) (references_of query)

-- a row of the list starts or ends on the day
abbrev pub EndsOn : List PeriodRow → ℤ → Type 0
EndsOn rows day =
    (row : PeriodRow) × Contains rows row × ((row.period.start ≡ day) ⊎ (row.period.end ≡ day))

-- a row of one of the lists starts or ends on the day
abbrev pub EndsAmong : List (List PeriodRow) → ℤ → Type 0
EndsAmong lists day = (rows : List PeriodRow) × Contains lists rows × EndsOn rows day

-- 0001-01-01, or a row of one of the lists starts or ends on the day
abbrev pub IsChangeDay : List (List PeriodRow) → ℤ → Type 0
IsChangeDay lists day = (first_day ≡ day) ⊎ EndsAmong lists day

-- exactly the change days of the lists, in ascending order, each once
pub record AreChangeDays (lists : List (List PeriodRow)) (days : List ℤ) : Type 0 where
  pub ascending : AllPairs (λ a b. a <ℤ b) days
  pub members : (day : ℤ) → (Contains days day ↔ IsChangeDay lists day)

-- no row of the lists starts or ends after the first day and up to the second
abbrev pub NoneChanges : List (List PeriodRow) → ℤ → ℤ → Type 0
NoneChanges lists first second =
    (rows : List PeriodRow) → Contains lists rows → NoChangeBetween rows first second

-- daily sets stay the same if nothing changes in the lists
abbrev pub IsConstantBetween : List (List PeriodRow) → (ℤ → List Value → Type 0) → Type 0
IsConstantBetween lists InSet =
    (first second : ℤ) → first ≤ℤ second → NoneChanges lists first second
    → (values : List Value) → (InSet first values ↔ InSet second values)

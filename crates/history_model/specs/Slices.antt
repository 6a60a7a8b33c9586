-- Answers of a query over slices of the days: the tables are cut at borders between days.
use Rattle.std.specs.Prelude.{◌↔◌, ◌≢◌, ◌≤ℤ◌, ◌<ℤ◌, ◌++◌, ℤ, List, [], ◌∷◌}
use Rattle.std.specs.List.{AllZip}
use Rattle.period_core.specs.Calendar.{first_day, last_day}
use Rattle.period_core.specs.declared.row.PeriodRow.{PeriodRow}
use Rattle.period_core.specs.declared.value.Value.{Value}
use Rattle.temporal_model.specs.Snapshot.{InSnapshot}
use Rattle.catalog_core.specs.declared.query.resolved.QueryReference.{QueryReference}
use Rattle.catalog_core.specs.query.Queries.{Query, one, both, rows_for}
use Rattle.history_model.specs.OrdinaryQuery.{InAnswerOver}

-- some days in a row: from the first on, and before the next slice's
pub record Slice : Type 0 where
  pub first : ℤ
  pub next : ℤ

-- the day is in the slice
abbrev pub InSlice : Slice → ℤ → Type 0
InSlice slice day = (slice.first ≤ℤ day) × (day <ℤ slice.next)

-- the slices that borders make of the days from a day on
abbrev pub slices_from : ℤ → List ℤ → List Slice
slices_from first [] = record { first = first; next = last_day } ∷ []
slices_from first (border ∷ more) =
    record { first = first; next = border } ∷ slices_from border more

-- the slices that borders make of the days
abbrev pub slices_of : List ℤ → List Slice
slices_of = slices_from first_day

-- a list that is cut to a slice holds on the slice's days what the whole list does, and on no other
-- day anything
abbrev pub IsCutTo : Slice → List PeriodRow → List PeriodRow → Type 0
IsCutTo slice whole cut =
    (day : ℤ) (values : List Value)
    → (InSnapshot cut day values ↔ InSlice slice day × InSnapshot whole day values)

-- each table reference sees its list cut to the slice
abbrev pub AreCutTo : Slice → List (List PeriodRow) → List (List PeriodRow) → Type 0
AreCutTo slice tables cuts =
    (reference : QueryReference)
    → IsCutTo slice (rows_for tables reference) (rows_for cuts reference)

-- the rows have on each day the set that the query gives over the tables cut to the slice
pub record IsPartOver (query : Query) (tables : List (List PeriodRow)) (slice : Slice)
    (part : List PeriodRow) : Type 0 where
  pub cuts : List (List PeriodRow)
  pub are_cut : AreCutTo slice tables cuts
  pub daily : (day : ℤ) (values : List Value)
      → (InSnapshot part day values ↔ InAnswerOver query cuts day values)

-- the rows of the parts, one part after the other
abbrev pub all_rows : List (List PeriodRow) → List PeriodRow
all_rows [] = []
all_rows (part ∷ more) = part ++ all_rows more

-- each select of the query has a table reference, as FROM always gives it one
abbrev pub HasReferences : Query → Type 0
HasReferences (one select) = select.references ≢ []
HasReferences (both operator left right) = HasReferences left × HasReferences right

-- whatever the borders: what a query gives over the slices is, taken together, what it gives over
-- the whole tables
abbrev pub SlicesMakeTheWhole : Type 0
SlicesMakeTheWhole =
    (query : Query) (tables parts : List (List PeriodRow)) (borders : List ℤ) → HasReferences query
    → AllZip (IsPartOver query tables) (slices_of borders) parts
    → (day : ℤ) (values : List Value)
    → (InSnapshot (all_rows parts) day values ↔ InAnswerOver query tables day values)

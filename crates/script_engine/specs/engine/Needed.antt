-- The rows that a query needs of those that its table references see: enough that it gives the
-- same.
use Rattle.std.specs.Prelude.{◌≡◌, ◌++◌, ◌+◌, ℕ, ℤ, IsTrue, List, None, Option, Some, [], ◌∷◌}
use Rattle.std.specs.Prelude.{◌<◌, length, slice_get}
use Rattle.std.specs.List.{AllByRecursion, AllZip}
use Rattle.period_core.specs.declared.row.PeriodRow.{PeriodRow}
use Rattle.period_core.specs.declared.value.Value.{Value}
use Rattle.sql_statements.specs.declared.tree.Tree.{Tree}
use Rattle.catalog_core.specs.declared.condition.CompareValues.{CompareValues}
use Rattle.catalog_core.specs.declared.query.resolved.QueryReference.{QueryReference}
use Rattle.catalog_core.specs.query.Queries.{Query, both, one}
use Rattle.history_model.specs.Histories.{History, catalog_of}
use Rattle.history_model.specs.OrdinaryQuery.{InProduct, VisibleInHistory, meets_all}
use Rattle.sequenced_ops.specs.Planning.{IsPruned}
use Rattle.temporal_model.specs.Snapshot.{InSnapshot}
use Rattle.period_keys.specs.FixedKeys.{HasFrom}
use Rattle.script_engine.specs.declared.engine.read_lists.PlacedReferences.{PlacedReferences}
use Rattle.script_engine.specs.engine.Answering.{IsKnown}
use Rattle.script_engine.specs.engine.Stored.{TablesRepresent}
use Rattle.script_engine.specs.engine.TablesState.{TablesState}

-- all that the reference sees in the history has `width` values
abbrev pub SeesWidth : History → QueryReference → ℕ → Type 0
SeesWidth history reference width =
    (day : ℤ) (values : List Value) → VisibleInHistory history day reference values
    → length values ≡ width

-- the rows are of those that the reference sees in the history, and lack none that is part of a
-- combined row that meets the conditions, in which its values begin at this position
abbrev pub IsNeeded
    : History → List (Tree CompareValues) → ℕ → QueryReference → List PeriodRow → Type 0
IsNeeded history conjuncts start reference =
    IsPruned conjuncts start (λ day. VisibleInHistory history day reference)

-- the values are those of one row of each of the lists on the day, one after the other
abbrev pub InRows : List (List PeriodRow) → ℤ → List Value → Type 0
InRows [] day values = values ≡ []
InRows (rows ∷ lists) day values =
    (first : List Value) × (rest : List Value)
    × InSnapshot rows day first × InRows lists day rest × (first ++ rest ≡ values)

-- the values have, from a place on, those of one of these rows on the day
abbrev pub HaveRowFrom : List PeriodRow → ℕ → ℤ → List Value → Type 0
HaveRowFrom rows at day values =
    (known : List Value) × InSnapshot rows day known × HasFrom known at values

-- the rows are of the set, and lack none that can be these values of a combined row that meets the
-- conditions and has what is known
pub record IsPrunedAfter (HasKnown : ℤ → List Value → Type 0)
    (conjuncts : List (Tree CompareValues)) (start : ℕ) (InSet : ℤ → List Value → Type 0)
    (rows : List PeriodRow) : Type 0 where
  pub sound : (day : ℤ) (values : List Value) → InSnapshot rows day values → InSet day values
  pub complete : (day : ℤ) (first values rest : List Value) → length first ≡ start
      → HasKnown day (first ++ (values ++ rest)) → InSet day values
      → IsTrue (meets_all conjuncts (first ++ (values ++ rest))) → InSnapshot rows day values

-- the rows are of those that the reference sees in the history
abbrev pub AreSeen : History → QueryReference → List PeriodRow → Type 0
AreSeen history reference rows =
    (day : ℤ) (values : List Value) → InSnapshot rows day values
    → VisibleInHistory history day reference values

-- the lists are what the references of a select need. Each is of rows that the reference in its
-- place sees. Whenever the values of one row that each reference sees, one after the other, meet
-- the conditions, they are those of one row of each list.
pub record AreNeeded (history : History) (conjuncts : List (Tree CompareValues))
    (references : List QueryReference) (lists : List (List PeriodRow)) : Type 0 where
  pub sound : AllZip (AreSeen history) references lists
  pub complete : (day : ℤ) (values : List Value)
      → InProduct (VisibleInHistory history day) references values
      → IsTrue (meets_all conjuncts values) → InRows lists day values

-- each select of a query sees what it needs
abbrev pub IsNeededBy : History → Query → List (List PeriodRow) → Type 0
IsNeededBy history (one select) lists =
    AreNeeded history select.conjuncts select.references lists
IsNeededBy history (both operator left right) lists =
    (first : List (List PeriodRow)) × (second : List (List PeriodRow))
    × (lists ≡ first ++ second) × IsNeededBy history left first × IsNeededBy history right second

-- the new lists are the old ones, followed by lists of needed rows
abbrev pub AddNeeded
    : (List (List PeriodRow) → Type 0) → List (List PeriodRow) → List (List PeriodRow) → Type 0
AddNeeded AreLists old new =
    (added : List (List PeriodRow)) × (new ≡ old ++ added) × AreLists added

-- ---- lists of a select, of which some are read

-- the positions in a combined row at which the values of each reference begin, the first at this
-- one
abbrev pub starts_from : ℕ → List QueryReference → List ℕ
starts_from start [] = []
starts_from start (reference ∷ references) =
    start ∷ starts_from (start + length reference.kinds) references

-- if the list is read, it has rows that the reference sees
abbrev pub IsSeenIfRead : History → QueryReference → Option (List PeriodRow) → Type 0
IsSeenIfRead history reference None = Unit {0}
IsSeenIfRead history reference (Some rows) = AreSeen history reference rows

-- if the list is read, the values are those of a row of it on the day
abbrev pub IsOfRead : Option (List PeriodRow) → ℤ → List Value → Type 0
IsOfRead None day values = Unit {0}
IsOfRead (Some rows) day values = InSnapshot rows day values

-- if the list is read, the values have from a position on those of a row of it on the day
abbrev pub HasReadFrom : ℤ → List Value → ℕ → Option (List PeriodRow) → Type 0
HasReadFrom day values start None = Unit {0}
HasReadFrom day values start (Some rows) = HaveRowFrom rows start day values

-- the values are those of one row that each reference sees on the day, one after the other: of the
-- list in its place, if that is read
abbrev pub InRead
    : History → List QueryReference → List (Option (List PeriodRow)) → ℤ → List Value → Type 0
InRead history [] [] day values = values ≡ []
InRead history [] (list ∷ lists) day values = ⊥
InRead history (reference ∷ references) [] day values = ⊥
InRead history (reference ∷ references) (list ∷ lists) day values =
    (first : List Value) × (rest : List Value)
    × VisibleInHistory history day reference first × IsOfRead list day first
    × InRead history references lists day rest × (first ++ rest ≡ values)

-- so far as lists are read, they are what the references of a select need
pub record AreRead (history : History) (conjuncts : List (Tree CompareValues))
    (references : List QueryReference) (lists : List (Option (List PeriodRow))) : Type 0 where
  pub sound : AllZip (IsSeenIfRead history) references lists
  pub complete : (day : ℤ) (values : List Value)
      → InProduct (VisibleInHistory history day) references values
      → IsTrue (meets_all conjuncts values) → InRead history references lists day values

-- the rows are of those that the reference sees in the history, and lack none that is part of a
-- combined row that meets the conditions, and that has a row of each list that is read
abbrev pub IsNeededAfter
    : History → List ℕ → List (Option (List PeriodRow)) → List (Tree CompareValues) → ℕ
    → QueryReference → List PeriodRow → Type 0
IsNeededAfter history starts lists conjuncts start reference =
    IsPrunedAfter (λ day values. AllZip (HasReadFrom day values) starts lists) conjuncts start
    (λ day. VisibleInHistory history day reference)

-- each reference of a select has a start and a list
abbrev pub HavePlaces : PlacedReferences → List (Option (List PeriodRow)) → Type 0
HavePlaces select lists =
    (length select.starts.now ≡ length select.references.now)
    × (length lists ≡ length select.references.now)

-- the list in a place is read
abbrev pub IsReadIn : List (Option (List PeriodRow)) → ℕ → Type 0
IsReadIn lists place = (rows : List PeriodRow) × (slice_get lists place ≡ Some (Some rows))

-- the lists in all places below one are read
abbrev pub AreReadBelow : List (Option (List PeriodRow)) → ℕ → Type 0
AreReadBelow lists count = (place : ℕ) → place < count → IsReadIn lists place

-- lists of a select are read on: there are as many, those that were read still are, and if those
-- were what the references of the select need, these are too
pub record ReadOn (tables : TablesState) (select : PlacedReferences)
    (old new : List (Option (List PeriodRow))) : Type 0 where
  pub count : length new ≡ length old
  pub kept : (place : ℕ) → IsReadIn old place → IsReadIn new place
  pub needed : (history : History) → TablesRepresent history tables
      → AllByRecursion (IsKnown (catalog_of history)) select.references.now
      → select.starts.now ≡ starts_from 0 select.references.now
      → AreRead history select.conjuncts.now select.references.now old
      → AreRead history select.conjuncts.now select.references.now new

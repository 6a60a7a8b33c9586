-- The tables at each moment: an opening, and the events since.
use Rattle.std.specs.Prelude.{◌≡◌, ◌++◌, ◌∷◌, ◌<ℤ◌, ◌≤ℤ◌, ℕ, zero, suc, ℤ, List, [], Option, Some}
use Rattle.std.specs.Prelude.{None, filter_map, fold, int_le, slice_index_or, cond}
use Rattle.std.specs.List.{All}
use Rattle.period_core.specs.Moments.{first_moment, forever}
use Rattle.period_core.specs.declared.value.Value.{Value}
use Rattle.period_core.specs.declared.version.VersionRow.{VersionRow}
use Rattle.catalog_core.specs.declared.change.Change.{Change}
use Rattle.catalog_core.specs.declared.table.TableDef.{TableDef}
use Rattle.history_model.specs.Effects.{effect}
use Rattle.history_model.specs.Versions.{IsRecorded, last_moment, values_at}

-- the contents of a database: the clock, the tables' definitions in the order of their creation,
-- and in the same places their versions
pub record Database : Type 0 where
  pub clock : ℤ
  pub catalog : List TableDef
  pub versions : List (List VersionRow)

-- a new store has no tables, and its clock is the first moment
abbrev pub new_database : Database
new_database = record { clock = first_moment; catalog = []; versions = [] }

-- the versions of the table of a number, which counts from 1; a table that is missing has none
abbrev pub versions_in : Database → ℕ → List VersionRow
versions_in database zero = []
versions_in database (suc place) = slice_index_or database.versions place []

-- an accepted statement; a change with its moment, the clock as it was made
pub data Event : Type 0 where
  Advanced : (moment : ℤ) → Event
  Created : (definition : TableDef) → Event
  Changed : (moment : ℤ) (change : Change) → Event
  Queried : Event

-- the opening of a database, and the events since, the oldest first
pub record History : Type 0 where
  pub opening : Database
  pub events : List Event

-- the history of a store to which nothing was done yet
abbrev pub opened : Database → History
opened database = record { opening = database; events = [] }

-- the history with one more event
abbrev pub with_event : History → Event → History
with_event history event =
    record { opening = history.opening; events = history.events ++ event ∷ [] }

-- the clock after an event: AT moves it
abbrev pub clock_after : ℤ → Event → ℤ
clock_after clock (Advanced moment) = moment
clock_after clock (Created definition) = clock
clock_after clock (Changed moment change) = clock
clock_after clock Queried = clock

-- the opening's clock, or the moment of the last AT
abbrev pub clock_of : History → ℤ
clock_of history = fold clock_after history.opening.clock history.events

-- the definition that an event added, if it was a creation
abbrev pub created_by : Event → Option TableDef
created_by (Advanced moment) = None
created_by (Created definition) = Some definition
created_by (Changed moment change) = None
created_by Queried = None

-- the change of an event that was made by the moment
abbrev pub changed_until : ℤ → Event → Option Change
changed_until moment (Advanced at) = None
changed_until moment (Created definition) = None
changed_until moment (Changed at change) = cond (int_le at moment) (Some change) None
changed_until moment Queried = None

-- the definitions of the opening's tables, then of those that were created
abbrev pub catalog_of : History → List TableDef
catalog_of history = history.opening.catalog ++ filter_map created_by history.events

-- the rows that each table has on each day; a list is read as the set of its members
abbrev pub State : Type 0
State = ℕ → ℤ → List (List Value)

-- the state at a moment: what the opening's versions hold as of it, after each change that was made
-- by then, in turn
abbrev pub state_at : History → ℤ → State
state_at history moment table day =
    fold (λ rows change. effect change table day rows)
    (values_at (versions_in history.opening table) moment day)
    (filter_map (changed_until moment) history.events)

-- the last state: that at the last moment
abbrev pub last_state : History → State
last_state history = state_at history last_moment

-- ---- histories in order

-- from a clock on, AT moves to no earlier moment and to none from FOREVER on, and each change is
-- made at the clock
abbrev pub AreInOrder : ℤ → List Event → Type 0
AreInOrder clock [] = Unit {0}
AreInOrder clock (Advanced moment ∷ events) =
    (clock ≤ℤ moment) × (moment <ℤ forever) × AreInOrder moment events
AreInOrder clock (Created definition ∷ events) = AreInOrder clock events
AreInOrder clock (Changed moment change ∷ events) = (moment ≡ clock) × AreInOrder clock events
AreInOrder clock (Queried ∷ events) = AreInOrder clock events

-- a history as statements make it, over an opening as a store may have it
pub record IsInOrder (history : History) : Type 0 where
  pub before : history.opening.clock <ℤ forever
  pub recorded : (table : ℕ)
      → All (IsRecorded history.opening.clock) (versions_in history.opening table)
  pub events : AreInOrder history.opening.clock history.events

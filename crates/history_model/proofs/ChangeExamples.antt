-- Worked rows of UPDATE and DELETE: a day, the rows in the place of one, the versions that a history leaves, windows.
use Rattle.std.proofs.Common.{◌≡◌, ℕ, ℤ, pos, List, [], ◌∷◌, Some, None, refl, arith}
use Rattle.std.proofs.lemmas.Int.{ints}
use Rattle.period_core.proofs.Periods.{period_over}
use Rattle.period_core.specs.Moments.{forever}
use Rattle.period_core.specs.declared.period.Period.{Period}
use Rattle.period_core.specs.declared.value.Value.{Value}
use Rattle.period_core.specs.declared.value.Value.TheVariants.{Int}
use Rattle.period_core.specs.declared.window.Window.TheVariants.{AsOf, Now}
use Rattle.catalog_core.specs.declared.change.Action.{Action}
use Rattle.catalog_core.specs.declared.change.Action.TheVariants.{Insert, Update}
use Rattle.catalog_core.specs.declared.change.Assignment.{Assignment}
use Rattle.catalog_core.specs.declared.change.Change.{Change}
use Rattle.history_model.specs.Effects.{Kept, effect, traced}
use Rattle.history_model.specs.Histories.{Advanced, Changed, History, new_database}
use Rattle.history_model.specs.HistoryVersions.{versions_of}
use Rattle.history_model.specs.Portions.{PlainRow, replacements}
use Rattle.history_model.specs.SystemWindows.{SeesThrough}
use Rattle.history_model.specs.Versions.{PlainVersion, last_moment}

-- employee 1 of department 3, and of department 4
abbrev pub worker : List Value
worker = Int (pos 1) ∷ Int (pos 3) ∷ []

abbrev pub promoted : List Value
promoted = Int (pos 1) ∷ Int (pos 4) ∷ []

-- the portion from day 12 on and before day 15
abbrev portion : Period
portion = period_over (pos 12) (pos 15) refl

abbrev to_4 : Assignment
to_4 = record { position = 1; value = Int (pos 4) }

abbrev update : Action
update = Update (Some portion) (to_4 ∷ []) None

abbrev inserting : Change
inserting = record { table = 1; action = Insert (record { values = worker; start = pos 10; end = pos 20 } ∷ []) }

abbrev updating : Change
updating = record { table = 1; action = update }

-- ---- a day

-- the row is changed on the portion's last day, and not at its end
last_day : effect updating 1 (pos 14) (worker ∷ []) ≡ promoted ∷ []
last_day = refl

-- each row keeps its origin, also if two become equal
origins : traced update (pos 12) (worker ∷ promoted ∷ []) ≡ record { origin = Kept worker; row = promoted } ∷ record { origin = Kept promoted; row = promoted } ∷ []
origins = refl

-- ---- the rows in the place of one

abbrev over : List Value → ℕ → ℕ → PlainRow
over values start end = record { values = values; start = pos start; end = pos end }

-- the parts before the portion and from its end on keep the old values
split : replacements update (over worker 10 20) ≡ over worker 10 12 ∷ over worker 15 20 ∷ over promoted 12 15 ∷ []
split = refl

-- ---- a history: INSERT at moment 100, and at 200 an UPDATE of a portion

abbrev pub history : History
history = record {
  opening = new_database;
  events = Advanced (pos 100) ∷ Changed (pos 100) inserting ∷ Advanced (pos 200) ∷ Changed (pos 200) updating ∷ [];
}

abbrev version : List Value → ℕ → ℕ → ℕ → ℤ → PlainVersion
version values start end from to = record { values = values; start = pos start; end = pos end; from = pos from; to = to }

-- the old version is closed, and three begin
left_after : versions_of history 1
    ≡ version worker 10 20 100 (pos 200) ∷ version worker 10 12 200 forever ∷ version worker 15 20 200 forever ∷ version promoted 12 15 200 forever ∷ []
left_after = refl

-- ---- windows

pub sees_now : SeesThrough history Now (pos 12) 1 promoted
sees_now = (last_moment, omega (arith, ints), refl, (0, omega arith, refl))

pub saw : SeesThrough history (AsOf (pos 199)) (pos 12) 1 worker
saw = (pos 199, omega (arith, ints), refl, (0, omega arith, refl))

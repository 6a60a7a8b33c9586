-- The rows that a table reference sees through its FOR SYSTEM_TIME, in a history's states.
use Rattle.std.specs.Prelude.{◌≡◌, ◌≤ℤ◌, ◌<ℤ◌, ℕ, ℤ, List, Contains}
use Rattle.period_core.specs.Moments.{forever}
use Rattle.period_core.specs.declared.value.Value.{Value}
use Rattle.period_core.specs.declared.window.Window.{Window}
use Rattle.period_core.specs.declared.window.Window.TheVariants.{AsOf, Between, FromTo, Now}
use Rattle.history_model.specs.Histories.{History, state_at}
use Rattle.history_model.specs.Versions.{last_moment}

-- the moments that a window covers; without FOR SYSTEM_TIME it is the last one
abbrev pub CoversMoment : Window → ℤ → Type 0
CoversMoment Now moment = moment ≡ last_moment
CoversMoment (AsOf at) moment = moment ≡ at
CoversMoment (FromTo start end) moment = (start ≤ℤ moment) × (moment <ℤ end)
CoversMoment (Between start last) moment = (start ≤ℤ moment) × (moment ≤ℤ last)

-- a row that a reference sees through a window on a day: one that its table had on it at some
-- moment, before FOREVER, that the window covers
abbrev pub SeesThrough : History → Window → ℤ → ℕ → List Value → Type 0
SeesThrough history window day table values =
    (moment : ℤ) × (moment <ℤ forever) × CoversMoment window moment
    × Contains (state_at history moment table day) values

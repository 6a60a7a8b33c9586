-- The versions that FOR SYSTEM_TIME sees, by their system time, as in ISO/IEC 9075-2:2011.
-- A window without a moment sees nothing: this rule is our own.
use Rattle.std.specs.Prelude.{ℤ, Bool, ◌&&◌, int_lt, int_le}
use Rattle.std.specs.Ordering.{int_eq}
use Rattle.period_core.specs.Moments.{forever}
use Rattle.period_core.specs.declared.window.Window.{Window}
use Rattle.period_core.specs.declared.window.Window.TheVariants.{Now, AsOf, FromTo, Between}

-- whether the window sees a version whose system time is from `from` on and before `to`
abbrev pub window_sees : Window → ℤ → ℤ → Bool
-- no window: the current versions
window_sees Now from to = int_eq to forever
-- AS OF m: those whose system time has the moment m
window_sees (AsOf m) from to = int_le from m && int_lt m to
-- FROM a TO b: those whose system time has a moment from a on and before b
window_sees (FromTo a b) from to = int_lt a b && (int_lt from b && int_lt a to)
-- BETWEEN a AND b: those whose system time has a moment from a on and up to b
window_sees (Between a b) from to = int_le a b && (int_le from b && int_lt a to)

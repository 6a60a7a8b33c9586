-- Whether a window may see a version, by where its system time begins or ends alone.
use Rattle.std.specs.Prelude.{ℤ, Bool, true, ◌&&◌, int_lt, int_le}
use Rattle.period_core.specs.Moments.{forever}
use Rattle.period_core.specs.declared.window.Window.{Window}
use Rattle.period_core.specs.declared.window.Window.TheVariants.{Now, AsOf, FromTo, Between}

-- a window may see a version that begins at this moment; if not, it sees none that begins later
abbrev pub begins_early : Window → ℤ → Bool
begins_early Now from = true
begins_early (AsOf m) from = int_le from m
begins_early (FromTo a b) from = int_lt a b && int_lt from b
begins_early (Between a b) from = int_le a b && int_le from b

-- a window may see a version that ends at this moment; if not, it sees none that ends earlier
abbrev pub ends_late : Window → ℤ → Bool
ends_late Now to = int_le forever to
ends_late (AsOf m) to = int_lt m to
ends_late (FromTo a b) to = int_lt a to
ends_late (Between a b) to = int_lt a to

-- The window that FOR SYSTEM_TIME gives: without it, the current versions.
use Rattle.std.specs.Prelude.{Option, Some, None}
use Rattle.period_core.specs.declared.window.Window.{Window}
use Rattle.period_core.specs.declared.window.Window.TheVariants as window
use Rattle.sql_statements.specs.declared.statement.SystemTime.{SystemTime}
use Rattle.sql_statements.specs.declared.statement.SystemTime.TheVariants.{AsOf, FromTo, Between}

-- the window that the words ask for, with the same moments
abbrev pub window_of : Option SystemTime → Window
window_of None = window.Now
window_of (Some (AsOf moment)) = window.AsOf moment
window_of (Some (FromTo from to)) = window.FromTo from to
window_of (Some (Between from last)) = window.Between from last

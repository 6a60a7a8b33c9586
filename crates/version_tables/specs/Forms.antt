-- The two forms of a store: in which unit it counts moments, and what its numbers are in
-- microseconds.
use Rattle.std.specs.Prelude.{ℤ, pos, ◌≤ℤ◌}
use Rattle.period_core.specs.Moments.{first_moment, forever}
use Rattle.period_core.specs.Seconds.{first_second, last_second, moved_end, second_start}
use Rattle.version_tables.specs.declared.form.Form.{Form}
use Rattle.version_tables.specs.declared.form.Form.TheVariants.{Seconds, Microseconds}

-- the number of the form, which bt_meta has
abbrev pub form_number : Form → ℤ
form_number Seconds = pos 1
form_number Microseconds = pos 2

-- the number of the first moment
abbrev pub least_number : Form → ℤ
least_number Seconds = first_second
least_number Microseconds = first_moment

-- the number of the open end, which is the greatest
abbrev pub open_end : Form → ℤ
open_end Seconds = last_second
open_end Microseconds = forever

-- the numbers of moments
abbrev pub IsNumberIn : Form → ℤ → Type 0
IsNumberIn form n = (least_number form ≤ℤ n) × (n ≤ℤ open_end form)

-- the moment that has the number: of a second, that at which it begins
abbrev pub moment_in : Form → ℤ → ℤ
moment_in Seconds n = second_start n
moment_in Microseconds n = n

-- the moment at which a version with that system end ends: the open end is FOREVER
abbrev pub end_in : Form → ℤ → ℤ
end_in Seconds n = moved_end n
end_in Microseconds n = n

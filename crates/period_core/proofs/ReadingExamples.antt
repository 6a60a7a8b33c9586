-- Worked texts of days and moments, read by computation.
use Rattle.std.proofs.Common.{◌≡◌, refl, codes, pos, Some}
use Rattle.period_core.specs.TextReading.{date_at, date_parts_of, day_of_text, fraction_at, is_date, is_time, moment_of_text, six_of, time_at, time_parts_of}

-- ---- days

leap_day-read : day_of_text (codes "2000-02-29") ≡ Some (pos 11_016)
unfolding day_of_text date_at date_parts_of is_date
leap_day-read = refl

-- ---- moments

-- a text without a fraction is the text of the moment at which its second begins
last_second-read : moment_of_text (codes "9999-12-31 23:59:59") ≡ Some (pos 253_402_300_799_000_000)
unfolding moment_of_text date_at time_at fraction_at date_parts_of time_parts_of is_date is_time
last_second-read = refl

-- ---- fractions

-- digits of a fraction are filled on the right
half-read : moment_of_text (codes "1970-01-01 00:00:00.5") ≡ Some (pos 500_000)
unfolding moment_of_text date_at time_at fraction_at date_parts_of time_parts_of six_of is_date is_time
half-read = refl

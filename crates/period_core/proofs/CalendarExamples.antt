-- Worked dates, numbers and texts, by computation.
use Rattle.std.proofs.Common.{◌≡◌, refl, codes, pos, None}
use Rattle.period_core.specs.Calendar.{count_below, day_number, day_text, day_after, last_day}

last_date : day_number 9999 12 31 ≡ last_day
last_date = refl

last_day-after : day_after last_day ≡ None
last_day-after = refl

leap_day-text : day_text (pos 11_016) ≡ codes "2000-02-29"
unfolding count_below
leap_day-text = refl

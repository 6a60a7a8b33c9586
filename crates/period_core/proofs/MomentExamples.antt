-- Worked moments, numbers and texts, by computation.
use Rattle.std.proofs.Common.{◌≡◌, refl, codes, pos, None}
use Rattle.period_core.specs.Calendar.{count_below}
use Rattle.period_core.specs.Moments.{first_moment, forever, moment_after, moment_number, moment_text}
use Rattle.period_core.specs.Seconds.{first_second, second_start}

-- the last moment of a year
before_2000 : moment_number 1999 12 31 23 59 59 999_999 ≡ pos 946_684_799_999_999
before_2000 = refl

forever-after : moment_after forever ≡ None
forever-after = refl

-- ---- texts, as they are written

half-text : moment_text (pos 951_786_123_500_000) ≡ codes "2000-02-29 01:02:03.500000"
unfolding count_below
half-text = refl

-- ---- moments in whole seconds

-- the first second begins with the first moment
first-start : second_start first_second ≡ first_moment
first-start = refl

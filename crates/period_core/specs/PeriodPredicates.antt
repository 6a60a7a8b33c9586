-- Relations of two periods, by their starts and ends: the period predicates of
-- ISO/IEC 9075-2:2011. That these are what their names say of the days is proved of the calls.
use Rattle.std.specs.Prelude.{◌&&◌, ℤ, Bool, int_le, int_lt}
use Rattle.std.specs.Ordering.{int_eq}
use Rattle.period_core.specs.declared.period.Period.{Period}

-- the day lies in the period from start to end, which is closed at its start and open at its end
abbrev pub covers_day : ℤ → ℤ → ℤ → Bool
covers_day start end day = int_le start day && int_lt day end

-- the periods overlap: each begins before the other ends
abbrev pub overlaps : Period → Period → Bool
overlaps x y = int_lt x.start y.end && int_lt y.start x.end

-- the periods are equal: both have one start and one end
abbrev pub equals : Period → Period → Bool
equals x y = int_eq x.start y.start && int_eq x.end y.end

-- the first begins no later, and ends no earlier, than the second
abbrev pub contains : Period → Period → Bool
contains x y = int_le x.start y.start && int_le y.end x.end

-- the first ends by the start of the second
abbrev pub precedes : Period → Period → Bool
precedes x y = int_le x.end y.start

-- the first starts at the end of the second or later
abbrev pub succeeds : Period → Period → Bool
succeeds x y = int_le y.end x.start

-- the first ends at the start of the second
abbrev pub immediately_precedes : Period → Period → Bool
immediately_precedes x y = int_eq x.end y.start

-- the first starts at the end of the second
abbrev pub immediately_succeeds : Period → Period → Bool
immediately_succeeds x y = int_eq x.start y.end

-- Moments as stores of form 1 count them: in whole seconds, from 1970-01-01 00:00:00.
use Rattle.std.specs.Prelude.{ℤ, pos, neg_ℤ, ◌*ℤ◌, ◌≤ℤ◌, if◌then◌else◌}
use Rattle.std.specs.Ordering.{int_eq}
use Rattle.period_core.specs.Moments.{forever, moments_per_second}

-- the second of 0001-01-01 00:00:00, the least
abbrev pub first_second : ℤ
first_second = neg_ℤ (pos 62_135_596_800)

-- the second of 9999-12-31 23:59:59, the greatest: the open end of such stores
abbrev pub last_second : ℤ
last_second = pos 253_402_300_799

-- the first second and the last are the least and the greatest
abbrev pub IsSecondNumber : ℤ → Type 0
IsSecondNumber s = (first_second ≤ℤ s) × (s ≤ℤ last_second)

-- the moment at which a second begins
abbrev pub second_start : ℤ → ℤ
second_start s = pos moments_per_second *ℤ s

-- the moment at which a version ends that such a store ends at the second: the open end stays open
abbrev pub moved_end : ℤ → ℤ
moved_end s = if int_eq s last_second then forever else second_start s

-- From the days of two periods to their starts and ends: each is seen at a first or a last day.
use Rattle.std.proofs.Common.{◌≡◌, ◌≤ℤ◌, ◌<ℤ◌, ◌-ℤ◌, ℤ, pos, arith}
use Rattle.std.proofs.lemmas.Int.{ints, by_lt_z}
use Rattle.period_core.specs.DaySets.{InPeriod, IsAfter, IsBefore, Meet, Overlap, Precede}
use Rattle.period_core.specs.declared.period.Period.{Period}

-- a day of a period is from its start on and before its end
pub days_from : (p : Period) (day : ℤ) → InPeriod p day → p.start ≤ℤ day
days_from p day h = grind (arith, h)

-- a day in a period is before its end
pub days_to : (p : Period) (day : ℤ) → InPeriod p day → day <ℤ p.end
days_to p day h = grind (arith, h)

-- a day from the start on and before the end is in the period
pub day_in : (p : Period) (day : ℤ) → p.start ≤ℤ day → day <ℤ p.end → InPeriod p day
day_in p day h k = grind (arith, h, k)

abbrev last : Period → ℤ
last p = p.end -ℤ pos 1

-- a period has its start in it
pub first_in : (p : Period) → InPeriod p p.start
first_in p = day_in p p.start (omega (arith, ints)) p.ordered

-- a period has its last day in it
pub last_in : (p : Period) → InPeriod p (last p)
last_in p = let ordered : p.start <ℤ p.end = p.ordered in day_in p (last p) (omega (arith, ints)) (omega (arith, ints))

-- the later of their first days is shared
pub overlap_by : (x y : Period) → x.start <ℤ y.end → y.start <ℤ x.end → Overlap x y
overlap_by x y h k =
    by_lt_z {P = Overlap x y} x.start y.start
    (λ below. (y.start, (day_in x y.start (omega (arith, ints)) k, first_in y)))
    (λ above. (x.start, (first_in x, day_in y x.start above h)))

pub overlap_left : (x y : Period) → Overlap x y → x.start <ℤ y.end
overlap_left x y (day, both) =
    let from : x.start ≤ℤ day = days_from x day both.0 in
    let to : day <ℤ y.end = days_to y day both.1 in omega (arith, ints)

-- a day before all days of a period is before its start
pub before_by : (y : Period) (day : ℤ) → IsBefore day y → day <ℤ y.start
before_by y day h = h y.start (first_in y)

-- a day before the start is before all days of the period
pub before_to : (y : Period) (day : ℤ) → day <ℤ y.start → IsBefore day y
before_to y day h other inside = let k : y.start ≤ℤ other = days_from y other inside in omega (arith, ints)

-- a day after all days of a period is not before its end
pub after_by : (y : Period) (day : ℤ) → IsAfter day y → y.end ≤ℤ day
after_by y day h = let k : last y <ℤ day = h (last y) (last_in y) in omega (arith, ints)

-- a day from the end on is after all days of the period
pub after_to : (y : Period) (day : ℤ) → y.end ≤ℤ day → IsAfter day y
after_to y day h other inside = let k : other <ℤ y.end = days_to y other inside in omega (arith, ints)

pub precede_by : (x y : Period) → Precede x y → x.end ≤ℤ y.start
precede_by x y h = let k : last x <ℤ y.start = h (last x) (last_in x) y.start (first_in y) in omega (arith, ints)

pub precede_to : (x y : Period) → x.end ≤ℤ y.start → Precede x y
precede_to x y h day inside =
    let k : day <ℤ x.end = days_to x day inside in before_to y day (omega (arith, ints))

-- two periods that meet have no day between them
no_gap : (x y : Period) → Meet x y → x.end <ℤ y.start → ⊥
no_gap x y h gap = h.1 x.end (after_to x x.end (omega (arith, ints))) (before_to y x.end gap)

pub meet_by : (x y : Period) → Meet x y → x.end ≡ y.start
meet_by x y h =
    let upto : x.end ≤ℤ y.start = precede_by x y h.0 in
    by_lt_z {P = x.end ≡ y.start} x.end y.start (λ below. absurd (no_gap x y h below)) (λ above. omega (arith, ints))

pub meet_to : (x y : Period) → x.end ≡ y.start → Meet x y
meet_to x y h = (
  precede_to x y (omega (arith, ints)),
  λ day a b. let k : x.end ≤ℤ day = after_by x day a in let l : day <ℤ y.start = before_by y day b in omega (arith, ints),
)

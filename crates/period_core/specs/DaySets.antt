-- Relations of two periods, by their days: the meaning of each period predicate, and the days that
-- two periods share. No definition reads a start or an end but `InPeriod`.
use Rattle.std.specs.Prelude.{◌↔◌, ◌<ℤ◌, ℤ, IsTrue, Option, Some, None}
use Rattle.period_core.specs.PeriodPredicates.{covers_day}
use Rattle.period_core.specs.declared.period.Period.{Period}

-- the day is one of the period's
abbrev pub InPeriod : Period → ℤ → Type 0
InPeriod p day = IsTrue (covers_day p.start p.end day)

-- a day is in a period that may be absent
abbrev pub InPart : Option Period → ℤ → Type 0
InPart None day = ⊥
InPart (Some p) day = InPeriod p day

-- the day is before each day of the period
abbrev pub IsBefore : ℤ → Period → Type 0
IsBefore day p = (other : ℤ) → InPeriod p other → day <ℤ other

-- the day is after all days of the period
abbrev pub IsAfter : ℤ → Period → Type 0
IsAfter day p = (other : ℤ) → InPeriod p other → other <ℤ day

-- OVERLAPS: they share a day
abbrev pub Overlap : Period → Period → Type 0
Overlap x y = (day : ℤ) × (InPeriod x day × InPeriod y day)

-- EQUALS: they have the same days
abbrev pub AreEqual : Period → Period → Type 0
AreEqual x y = (day : ℤ) → (InPeriod x day ↔ InPeriod y day)

-- CONTAINS: each day of the second is one of the first
abbrev pub Contain : Period → Period → Type 0
Contain x y = (day : ℤ) → InPeriod y day → InPeriod x day

-- PRECEDES: each day of the first is before each of the second
abbrev pub Precede : Period → Period → Type 0
Precede x y = (day : ℤ) → InPeriod x day → IsBefore day y

-- IMMEDIATELY PRECEDES: the first precedes the second, and no day is between them
abbrev pub Meet : Period → Period → Type 0
Meet x y = Precede x y × ((day : ℤ) → IsAfter day x → IsBefore day y → ⊥)

-- Periods by their ends, and rows by their values and the ends of their periods.
use Rattle.std.specs.Prelude.{◌&&◌, int_le, int_lt}
use Rattle.std.proofs.Common.{◌≡◌, ◌≤ℤ◌, ◌<ℤ◌, ℤ, Bool, true, arith}
use Rattle.std.proofs.Props.{props}
use Rattle.std.proofs.lemmas.Int.{ints}
use mathlib.Core.HLevel.{is_prop→PathP}
use Rattle.period_core.specs.Calendar.{IsDayNumber, first_day, last_day}
use Rattle.period_core.specs.declared.period.Period.{Period}
use Rattle.period_core.specs.declared.row.PeriodRow.{PeriodRow}

-- the two are days of the calendar, in this order
abbrev pub are_ends : ℤ → ℤ → Bool
are_ends start end = int_le first_day start && int_lt start end && int_le end last_day

pub are_ends-ordered : (start end : ℤ) → are_ends start end ≡ true → start <ℤ end
are_ends-ordered start end h = grind (arith, h)

pub are_ends-days : (start end : ℤ) → are_ends start end ≡ true → IsDayNumber start × IsDayNumber end
are_ends-days start end h =
    let from : first_day ≤ℤ start = grind (arith, h) in
    let to : end ≤ℤ last_day = grind (arith, h) in
    let ordered : start <ℤ end = are_ends-ordered start end h in
    ((from, omega (arith, ints)), (omega (arith, ints), to))

-- the period of two ends; `refl` shows that two given numbers are
abbrev pub period_over : (start end : ℤ) → are_ends start end ≡ true → Period
period_over start end h = record {
  start = start;
  end = end;
  ordered = are_ends-ordered start end h;
  days = are_ends-days start end h;
}

-- a period is its two ends
pub period_same : (a b : Period) → a.start ≡ b.start → a.end ≡ b.end → a ≡ b
period_same a b s e = λ i. record {
  start = s i;
  end = e i;
  ordered = is_prop→PathP (λ j. s j <ℤ e j) (λ j. hlevel props) a.ordered b.ordered i;
  days = is_prop→PathP (λ j. IsDayNumber (s j) × IsDayNumber (e j)) (λ j. hlevel props) a.days b.days i;
}

-- a row is its values and the ends of its period
pub row_same :
    (a b : PeriodRow) → a.values ≡ b.values → a.period.start ≡ b.period.start
    → a.period.end ≡ b.period.end → a ≡ b
row_same a b v s e = λ i. record { values = v i; period = period_same a.period b.period s e i }

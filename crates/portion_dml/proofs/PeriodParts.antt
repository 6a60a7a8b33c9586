-- A row over a part of a period is the part of a row, by starts and ends.
use Rattle.std.proofs.Common.{◌≡◌, ◌↔◌, ◌≤ℤ◌, ◌<ℤ◌, ◌-ℤ◌, ℤ, Bool, true, false, cond, List, [], ◌∷◌, Option, Some, None, pos, refl, sym, ap, ap₂, ◌∙◌, arith}
use Rattle.std.specs.Prelude.{int_lt}
use Rattle.std.specs.Int.{int_max, int_min}
use Rattle.std.proofs.lemmas.Int.{ints}
use Rattle.period_core.specs.DaySets.{InPart, InPeriod, IsAfter, IsBefore}
use Rattle.period_core.specs.declared.period.Period.{Period}
use Rattle.period_core.specs.declared.value.Value.{Value}
use Rattle.period_core.proofs.PeriodEnds.{after_by, after_to, before_by, before_to, day_in, days_from, days_to, first_in, last_in}
use Rattle.history_model.specs.Portions.{part}
use Rattle.portion_dml.specs.Parts.{row_over}

-- the part has the days from one day on and before another
by_days : (values : List Value) (p : Option Period) (start end : ℤ) → ((day : ℤ) → InPart p day ↔ ((start ≤ℤ day) × (day <ℤ end))) → row_over values p ≡ part values start end
by_days values None start end days = go (int_lt start end) refl
  where
    go : (b : Bool) → int_lt start end ≡ b → row_over values None ≡ cond b (record { values = values; start = start; end = end } ∷ []) []
    go true is =
        let below : start <ℤ end = grind (arith, ints, is) in
        absurd ((days start).1 (omega (arith, ints), below))
    go false is = refl
by_days values (Some p) start end days =
    let first = (days p.start).0 (first_in p) in
    let last = (days (p.end -ℤ pos 1)).0 (last_in p) in
    let from : start ≤ℤ p.start = first.0 in
    let first_below : p.start <ℤ end = first.1 in
    let last_below : (p.end -ℤ pos 1) <ℤ end = last.1 in
    let starts_in : InPeriod p start = (days start).1 (omega (arith, ints), omega (arith, ints)) in
    let ends_in : InPeriod p (end -ℤ pos 1) = (days (end -ℤ pos 1)).1 (omega (arith, ints), omega (arith, ints)) in
    let after_start : p.start ≤ℤ start = days_from p start starts_in in
    let before_end : (end -ℤ pos 1) <ℤ p.end = days_to p (end -ℤ pos 1) ends_in in
    let starts : p.start ≡ start = omega (arith, ints) in
    let ends : p.end ≡ end = omega (arith, ints) in
    let some : int_lt start end ≡ true = grind (arith, ints) in
    ap₂ (λ s e. record { values = values; start = s; end = e } ∷ []) starts ends
    ∙ sym (ap (λ b. cond b (record { values = values; start = start; end = end } ∷ []) []) some)

below_min : (day a b : ℤ) → day <ℤ a → day <ℤ b → day <ℤ int_min a b
below_min day a b h k = grind (arith, ints, h, k)

min_below : (day a b : ℤ) → day <ℤ int_min a b → (day <ℤ a) × (day <ℤ b)
min_below day a b h = (grind (arith, ints, h), grind (arith, ints, h))

from_max : (day a b : ℤ) → a ≤ℤ day → b ≤ℤ day → int_max a b ≤ℤ day
from_max day a b h k = grind (arith, ints, h, k)

max_from : (day a b : ℤ) → int_max a b ≤ℤ day → (a ≤ℤ day) × (b ≤ℤ day)
max_from day a b h = (grind (arith, ints, h), grind (arith, ints, h))

-- the part of a period before another
pub part_before : (values : List Value) (p other : Period) (left : Option Period) → ((day : ℤ) → InPart left day ↔ (InPeriod p day × IsBefore day other)) → row_over values left ≡ part values p.start (int_min p.end other.start)
part_before values p other left days =
    by_days values left p.start (int_min p.end other.start) (λ day. (
      λ h. let k = (days day).0 h in (days_from p day k.0, below_min day p.end other.start (days_to p day k.0) (before_by other day k.1)),
      λ h. let k = min_below day p.end other.start h.1 in (days day).1 (day_in p day h.0 k.0, before_to other day k.1),
    ))

-- the part of a period after another period
pub part_after : (values : List Value) (p other : Period) (left : Option Period) → ((day : ℤ) → InPart left day ↔ (InPeriod p day × IsAfter day other)) → row_over values left ≡ part values (int_max p.start other.end) p.end
part_after values p other left days =
    by_days values left (int_max p.start other.end) p.end (λ day. (
      λ h. let k = (days day).0 h in (from_max day p.start other.end (days_from p day k.0) (after_by other day k.1), days_to p day k.0),
      λ h. let k = max_from day p.start other.end h.0 in (days day).1 (day_in p day k.0 h.1, after_to other day k.1),
    ))

-- the part that two periods share
pub part_within : (values : List Value) (p other : Period) (left : Option Period) → ((day : ℤ) → InPart left day ↔ (InPeriod p day × InPeriod other day)) → row_over values left ≡ part values (int_max p.start other.start) (int_min p.end other.end)
part_within values p other left days =
    by_days values left (int_max p.start other.start) (int_min p.end other.end) (λ day. (
      λ h. let k = (days day).0 h in (from_max day p.start other.start (days_from p day k.0) (days_from other day k.1), below_min day p.end other.end (days_to p day k.0) (days_to other day k.1)),
      λ h. let l = max_from day p.start other.start h.0 in let k = min_below day p.end other.end h.1 in (days day).1 (day_in p day l.0 k.0, day_in other day l.1 k.1),
    ))

-- the part of a row over its whole period is the row
pub part_whole : (values : List Value) (p : Period) → row_over values (Some p) ≡ part values p.start p.end
part_whole values p = by_days values (Some p) p.start p.end (λ day. (λ h. (days_from p day h, days_to p day h), λ h. day_in p day h.0 h.1))

-- Periods in order stay so when one is removed.
use Rattle.std.proofs.Common.{◌≡◌, ◌≤ℤ◌, ◌<ℤ◌, ◌<◌, ◌+◌, ℕ, ℤ, true, List, length, sym, subst, inl, inr, arith}
use Rattle.std.specs.List.{remove}
use Rattle.std.specs.Cmp.{int_ranks}
use Rattle.std.specs.Ordering.{MatchOrdering, int_cmp, is_lt}
use Rattle.std.specs.declared.cmp.Ordering.{Ordering}
use Rattle.std.specs.declared.cmp.Ordering.TheVariants.{Less, Equal, Greater}
use Rattle.std.proofs.lemmas.Bool.{cases_lt}
use Rattle.std.proofs.lemmas.List.Edits.{get_or-remove_above, get_or-remove_below, length-remove}
use Rattle.period_core.specs.declared.period.Period.{Period}
use Rattle.period_keys.specs.Ordered.{AreInOrder}

-- periods in order stay so with one less
pub remove_in_order : (xs : List Period) (i : ℕ) → i < length xs → AreInOrder xs → AreInOrder (remove xs i)
remove_in_order xs i inside order = λ j k d lt below.
    let size : length (remove xs i) + 1 ≡ length xs = length-remove xs i inside in
    elim (cases_lt j i) [
      | inl jl ↦ elim (cases_lt k i) [
        | inl kl ↦ both _ _ _ _ (get_or-remove_below xs i d j jl inside) (get_or-remove_below xs i d k kl inside) (order j k d lt (omega arith))
        | inr kg ↦ both _ _ _ _ (get_or-remove_below xs i d j jl inside) (get_or-remove_above xs i d k (omega arith) inside) (order j (k + 1) d (omega arith) (omega arith))
      ]
      | inr jg ↦ both _ _ _ _ (get_or-remove_above xs i d j (omega arith) inside) (get_or-remove_above xs i d k (omega arith) inside) (order (j + 1) (k + 1) d (omega arith) (omega arith))
    ]
  where
    Fits : Period → Period → Type 0
    Fits a b = a.start ≤ℤ b.start

    both : (a b c e : Period) → a ≡ c → b ≡ e → Fits c e → Fits a b
    both a b c e p q h = subst (λ z. Fits z b) (sym p) (subst (Fits c) (sym q) h)

-- a test of two days, as their order
pub earlier_day : (x y : ℤ) → true ≡ is_lt (int_cmp x y) → x <ℤ y
earlier_day x y passes = by_order (int_cmp x y) passes (int_ranks x y)
  where
    by_order : (r : Ordering) → true ≡ is_lt r → MatchOrdering r (x <ℤ y) (x ≡ y) (y <ℤ x) → x <ℤ y
    by_order Less passes h = h
    by_order Equal passes h = absurd cc
    by_order Greater passes h = absurd cc

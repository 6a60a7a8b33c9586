-- A bound that rules a version out rules out those beyond it.
use Rattle.std.proofs.Common.{◌≡◌, ◌≤ℤ◌, ◌&&◌, ℤ, Bool, true, false, refl, ap, arith}
use Rattle.std.specs.Prelude.{int_le, int_lt}
use Rattle.std.specs.Ordering.{int_eq}
use Rattle.std.proofs.lemmas.Int.{ints}
use Rattle.period_core.specs.Moments.{forever}
use Rattle.period_core.specs.Windows.{window_sees}
use Rattle.period_core.specs.declared.window.Window.{Window}
use Rattle.period_core.specs.declared.window.Window.TheVariants.{Now, AsOf, FromTo, Between}
use Rattle.ended_versions.specs.Bounds.{begins_early, ends_late}

le_later : (a b c : ℤ) → a ≤ℤ b → int_le a c ≡ false → int_le b c ≡ false
le_later a b c le e = grind (arith, ints)

lt_later : (a b c : ℤ) → a ≤ℤ b → int_lt a c ≡ false → int_lt b c ≡ false
lt_later a b c le e = grind (arith, ints)

lt_earlier : (a b c : ℤ) → a ≤ℤ b → int_lt c b ≡ false → int_lt c a ≡ false
lt_earlier a b c le e = grind (arith, ints)

not_forever : (a b c : ℤ) → a ≤ℤ b → int_le c b ≡ false → int_eq a c ≡ false
not_forever a b c le e = grind (arith, ints)

-- if the second of two tests fails, a test that implies it fails too
fails : (a b c d : Bool) → (b ≡ false → c ≡ false) → a && b ≡ false → a && (c && d) ≡ false
fails true true c d later e = absurd (let t : true ≡ false = e in cc)
fails true false c d later e = ap (λ z. z && d) (later refl)
fails false b c d later e = refl

fails_last : (a b c : Bool) → c ≡ false → a && (b && c) ≡ false
fails_last true true c e = e
fails_last true false c e = refl
fails_last false b c e = refl

pub begins_late : (window : Window) (earliest_from from to : ℤ) → begins_early window earliest_from ≡ false → earliest_from ≤ℤ from → window_sees window from to ≡ false
begins_late Now earliest_from from to e le = absurd (let t : true ≡ false = e in cc)
begins_late (AsOf m) earliest_from from to e le = ap (λ z. z && int_lt m to) (le_later earliest_from from m le e)
begins_late (FromTo a b) earliest_from from to e le = fails (int_lt a b) (int_lt earliest_from b) (int_lt from b) (int_lt a to) (lt_later earliest_from from b le) e
begins_late (Between a b) earliest_from from to e le = fails (int_le a b) (int_le earliest_from b) (int_le from b) (int_lt a to) (le_later earliest_from from b le) e

pub ends_early : (window : Window) (last from to : ℤ) → ends_late window last ≡ false → to ≤ℤ last → window_sees window from to ≡ false
ends_early Now last from to e le = not_forever to last forever le e
ends_early (AsOf m) last from to e le = fails_last true (int_le from m) (int_lt m to) (lt_earlier to last m le e)
ends_early (FromTo a b) last from to e le = fails_last (int_lt a b) (int_lt from b) (int_lt a to) (lt_earlier to last a le e)
ends_early (Between a b) last from to e le = fails_last (int_le a b) (int_le from b) (int_lt a to) (lt_earlier to last a le e)

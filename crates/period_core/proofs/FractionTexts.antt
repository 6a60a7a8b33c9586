-- The text of a fraction of a second, and the microseconds that it is read as.
use Rattle.std.proofs.Common.{◌≡◌, ℕ, zero, suc, ◌+◌, ◌-◌, ◌*◌, ◌/◌, ◌%◌, ◌<◌, ◌≤◌, true, false, cond, nat_lt, ◌&&◌, List, [], ◌∷◌, ◌++◌, length, drop, replicate, get_or, Some, None, refl, sym, ap, ◌∙◌, inl, inr, arith, lit<}
use Rattle.std.specs.Prelude.{◌==◌, nat_le}
use Rattle.std.proofs.lemmas.Bool.{and_parts}
use Rattle.std.proofs.lemmas.Bool.Decides.{nat_tests}
use Rattle.std.proofs.lemmas.List.{drop-drop, drop_all, drop_more, get_or-drop, length-append, length-drop, length-replicate}
use Rattle.period_core.specs.Moments.{ShowsFraction, fraction_text, six_digits}
use Rattle.period_core.specs.TextReading.{◌>>=◌, digit_at, fraction_at, six_of, two_of}
use Rattle.period_core.proofs.DateTexts.{bytes_are, equal_is, two_at, two_back}
use Rattle.period_core.proofs.OptionFacts.{bind_some, if_some, none_some, some_is}

-- ---- six digits

six_parts : (a b c d e f high middle low us : ℕ) → a ≡ 48 + high / 10 → b ≡ 48 + high % 10 → c ≡ 48 + middle / 10
    → d ≡ 48 + middle % 10 → e ≡ 48 + low / 10 → f ≡ 48 + low % 10 → high < 100 → middle < 100 → low < 100
    → high * 10_000 + middle * 100 + low ≡ us → (a ∷ b ∷ c ∷ d ∷ e ∷ f ∷ [] ≡ six_digits us) × (us ≤ 999_999)
six_parts a b c d e f high middle low us ea eb ec ed ee ef h m l is =
    let first : us / 10_000 ≡ high = omega (arith, h, m, l, is) in
    let second : us / 100 % 100 ≡ middle = omega (arith, h, m, l, is) in
    let third : us % 100 ≡ low = omega (arith, h, m, l, is) in
    (rw (first, second, third, ea, eb, ec, ed, ee, ef) refl, omega (arith, h, m, l, is))

six_is : (a b c d e f us : ℕ) → six_of a b c d e f ≡ Some us →
    (a ∷ b ∷ c ∷ d ∷ e ∷ f ∷ [] ≡ six_digits us) × (us ≤ 999_999)
unfolding six_of
six_is a b c d e f us h =
    let x = bind_some (two_of a b) (λ high. two_of c d >>= λ middle. two_of e f >>= λ low. Some (high * 10_000 + middle * 100 + low)) us h in
    let y = bind_some (two_of c d) (λ middle. two_of e f >>= λ low. Some (x.0 * 10_000 + middle * 100 + low)) us x.2 in
    let z = bind_some (two_of e f) (λ low. Some (x.0 * 10_000 + y.0 * 100 + low)) us y.2 in
    let p = two_back a b x.0 x.1 in
    let q = two_back c d y.0 y.1 in
    let r = two_back e f z.0 z.1 in
    six_parts a b c d e f x.0 y.0 z.0 us p.0 p.1 q.0 q.1 r.0 r.1 p.2 q.2 r.2 (some_is (x.0 * 10_000 + y.0 * 100 + z.0) us z.2)

six_back : (a b c d e f us : ℕ) → a ∷ b ∷ c ∷ d ∷ e ∷ f ∷ [] ≡ six_digits us → us ≤ 999_999 →
    six_of a b c d e f ≡ Some us
unfolding six_of
six_back a b c d e f us h low =
    let at = λ (k : ℕ). ap (λ (z : List ℕ). get_or z k 0) h in
    let same : us / 10_000 * 10_000 + us / 100 % 100 * 100 + us % 100 ≡ us = omega arith in
    rw (at 0, at 1, at 2, at 3, at 4, at 5, two_at (us / 10_000) (omega (arith, low)), two_at (us / 100 % 100) (omega arith), two_at (us % 100) (omega arith))
    (ap (λ (k : ℕ). Some k) same)

-- ---- digits, filled with zeros

abbrev zero_digit : ℕ
zero_digit = 48

zeros_at : (n k : ℕ) → k < n → get_or (replicate n zero_digit) k 0 ≡ zero_digit
zeros_at (suc n) zero h = refl
zeros_at (suc n) (suc k) h = zeros_at n k (omega (arith, h))
zeros_at zero k h = absurd (omega (arith, h))

filled_at : (digits : List ℕ) (n k : ℕ) → k < length digits + n → get_or (digits ++ replicate n 48) k 0 ≡ get_or digits k 48
filled_at [] n k h = zeros_at n k (omega (arith, h))
filled_at (digit ∷ more) n zero h = refl
filled_at (digit ∷ more) n (suc k) h = filled_at more n k (omega (arith, h))

-- the digits of a fraction, filled to six
abbrev six_bytes : List ℕ → List ℕ
six_bytes digits =
    get_or digits 0 48 ∷ get_or digits 1 48 ∷ get_or digits 2 48 ∷ get_or digits 3 48 ∷
    get_or digits 4 48 ∷ get_or digits 5 48 ∷ []

filled_is : (digits : List ℕ) → length digits ≤ 6 → digits ++ replicate (6 - length digits) 48 ≡ six_bytes digits
filled_is digits few =
    let n = 6 - length digits in
    let filled = digits ++ replicate n 48 in
    let long : length filled ≡ 6 = length-append digits (replicate n 48) ∙ omega (arith, length-replicate n zero_digit) in
    let at = λ (k : ℕ) (h : k < 6). filled_at digits n k (omega (arith, h)) in
    bytes_are 6 filled long ∙ rw (at 0 (lit< tt), at 1 (lit< tt), at 2 (lit< tt), at 3 (lit< tt), at 4 (lit< tt), at 5 (lit< tt)) refl

-- ---- the bytes after the seconds

-- the bytes after a place, and the digit 0 after the end
place_is : (t : List ℕ) (k : ℕ) → get_or (drop 20 t) k 48 ≡ digit_at t (20 + k)
place_is t k = get_or-drop 20 t k 48

six_bytes_is : (t : List ℕ) → six_bytes (drop 20 t)
    ≡ digit_at t 20 ∷ digit_at t 21 ∷ digit_at t 22 ∷ digit_at t 23 ∷ digit_at t 24 ∷ digit_at t 25 ∷ []
six_bytes_is t = rw (place_is t 0, place_is t 1, place_is t 2, place_is t 3, place_is t 4, place_is t 5) refl

point_first : (digits : List ℕ) → 0 < length digits → fraction_text digits ≡ 46 ∷ digits
point_first [] h = absurd (omega (arith, h))
point_first (digit ∷ more) h = refl

-- the digits of a fraction, read after the seconds
pub record Fraction (t : List ℕ) (us : ℕ) : Type 0 where
  pub digits : List ℕ
  pub shows : ShowsFraction digits us
  pub low : us ≤ 999_999
  pub behind : drop 19 t ≡ fraction_text digits

no_fraction : (t : List ℕ) (us : ℕ) → length t ≡ 19 → 0 ≡ us → Fraction t us
no_fraction t us long e = record {
  digits = [];
  shows = rw (← e) record { few = omega arith; filled = refl };
  low = omega (arith, e);
  behind = drop_all 19 t (omega (arith, long));
}

some_fraction : (t : List ℕ) (us : ℕ) → 20 < length t → length t ≤ 26 → get_or t 19 0 ≡ 46
    → six_of (digit_at t 20) (digit_at t 21) (digit_at t 22) (digit_at t 23) (digit_at t 24) (digit_at t 25) ≡ Some us
    → Fraction t us
some_fraction t us low high point e =
    let (is, small) = six_is _ _ _ _ _ _ us e in
    let digits = drop 20 t in
    let few : length digits ≤ 6 = omega (arith, length-drop 20 t, high) in
    let there : 0 < length digits = omega (arith, length-drop 20 t, low) in
    record {
      digits = digits;
      shows = record { few = few; filled = filled_is digits few ∙ six_bytes_is t ∙ is };
      low = small;
      behind = drop_more t 19 0 (omega (arith, low)) ∙ ap (λ (b : ℕ). b ∷ digits) point ∙ sym (point_first digits there);
    }

nat_lt_is : (a b : ℕ) → nat_lt a b ≡ true → a < b
nat_lt_is a b e = grind (arith, nat_tests, e)

nat_le_is : (a b : ℕ) → nat_le a b ≡ true → a ≤ b
nat_le_is a b e = grind (arith, nat_tests, e)

-- a fraction that is read is shown
pub fraction_shown : (t : List ℕ) (us : ℕ) → fraction_at t ≡ Some us → Fraction t us
unfolding fraction_at
fraction_shown t us e =
    let six = six_of (digit_at t 20) (digit_at t 21) (digit_at t 22) (digit_at t 23) (digit_at t 24) (digit_at t 25) in
    let fits = nat_lt 20 (length t) && nat_le (length t) 26 in
    elim (if_some (length t == 19) (Some 0) (cond (get_or t 19 0 == 46) (cond fits six None) None) us e) [
      | inl h ↦ no_fraction t us (equal_is (length t) 19 h.0) (some_is 0 us h.1)
      | inr h ↦ elim (if_some (get_or t 19 0 == 46) (cond fits six None) None us h.1) [
        | inr k ↦ absurd (none_some us k.1)
        | inl k ↦ elim (if_some fits six None us k.1) [
          | inr l ↦ absurd (none_some us l.1)
          | inl l ↦
              let (low, high) = and_parts (nat_lt 20 (length t)) (nat_le (length t) 26) l.0 in
              some_fraction t us (nat_lt_is 20 (length t) low) (nat_le_is (length t) 26 high) (equal_is (get_or t 19 0) 46 k.0) l.1
        ]
      ]
    ]

digits_found : (t digits : List ℕ) (us : ℕ) → ShowsFraction digits us → us ≤ 999_999 → drop 20 t ≡ digits →
    six_of (digit_at t 20) (digit_at t 21) (digit_at t 22) (digit_at t 23) (digit_at t 24) (digit_at t 25) ≡ Some us
digits_found t digits us shows low e =
    let here = sym (six_bytes_is t) ∙ ap six_bytes e ∙ sym (filled_is digits shows.few) ∙ shows.filled in
    six_back _ _ _ _ _ _ us here low

zero_shown : (us : ℕ) → ShowsFraction [] us → us ≤ 999_999 → 0 ≡ us
unfolding six_of
zero_shown us shows low = some_is 0 us (six_back 48 48 48 48 48 48 us shows.filled low)

-- a fraction that is shown is read
pub fraction_found : (t digits : List ℕ) (us : ℕ) → ShowsFraction digits us → us ≤ 999_999
    → length t ≡ 19 + length (fraction_text digits) → drop 19 t ≡ fraction_text digits → fraction_at t ≡ Some us
unfolding fraction_at
fraction_found t [] us shows low long behind =
    let is : length t ≡ 19 = omega (arith, long) in
    rw is (ap (λ (k : ℕ). Some k) (zero_shown us shows low))
fraction_found t (digit ∷ more) us shows low long behind =
    let few = shows.few in
    let other : (length t == 19) ≡ false = grind (arith, nat_tests, long) in
    let above : nat_lt 20 (length t) ≡ true = grind (arith, nat_tests, long) in
    let below : nat_le (length t) 26 ≡ true = grind (arith, nat_tests, long, few) in
    let point : get_or t 19 0 ≡ 46 = sym (get_or-drop 19 t 0 0) ∙ ap (λ (z : List ℕ). get_or z 0 0) behind in
    let digits : drop 20 t ≡ digit ∷ more = sym (drop-drop 1 19 t) ∙ ap (λ (z : List ℕ). drop 1 z) behind in
    rw (other, point, above, below) (digits_found t (digit ∷ more) us shows low digits)

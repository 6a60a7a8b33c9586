-- The text of a date or a moment, and the numbers that it is read as.
use Rattle.std.proofs.Common.{◌≡◌, ℕ, zero, suc, ◌+◌, ◌-◌, ◌*◌, ◌/◌, ◌%◌, ◌<◌, ◌≤◌, true, false, cond, nat_lt, List, [], ◌∷◌, ◌++◌, length, take, drop, get_or, Some, None, refl, sym, ap, subst, ◌∙◌, inl, inr, arith}
use Rattle.std.specs.Prelude.{◌==◌}
use Rattle.std.proofs.lemmas.Bool.Decides.{nat_tests}
use Rattle.std.proofs.lemmas.List.{at_drop_more, take-append-drop}
use Rattle.std.proofs.Math.Seq.{take-length}
use Rattle.period_core.specs.Calendar.{date_text}
use Rattle.period_core.specs.Moments.{time_text}
use Rattle.period_core.specs.TextReading.{◌>>=◌, digit_of, two_of, date_parts_of, date_at, time_parts_of, time_at}
use Rattle.period_core.proofs.OptionFacts.{bind_some, if_some, none_some, some_is}

-- ---- two digits

digit_at : (n : ℕ) → n < 10 → digit_of (48 + n) ≡ Some n
digit_at n h =
    let low : nat_lt (48 + n) 48 ≡ false = grind (arith, nat_tests) in
    let high : nat_lt 57 (48 + n) ≡ false = grind (arith, nat_tests, h) in
    let same : 48 + n - 48 ≡ n = omega arith in
    rw (low, high, same) refl

digit_back : (byte n : ℕ) → digit_of byte ≡ Some n → (byte ≡ 48 + n) × (n < 10)
digit_back byte n e = elim (if_some (nat_lt byte 48) None (cond (nat_lt 57 byte) None (Some (byte - 48))) n e) [
  | inl h ↦ absurd (none_some n h.1)
  | inr h ↦ elim (if_some (nat_lt 57 byte) None (Some (byte - 48)) n h.1) [
    | inl k ↦ absurd (none_some n k.1)
    | inr k ↦
        let is : byte - 48 ≡ n = some_is (byte - 48) n k.1 in
        let low : 48 ≤ byte = grind (arith, nat_tests, h.0) in
        let high : byte ≤ 57 = grind (arith, nat_tests, k.0) in
        (omega (arith, is, low), omega (arith, is, high))
  ]
]

pub two_at : (n : ℕ) → n < 100 → two_of (48 + n / 10) (48 + n % 10) ≡ Some n
two_at n h =
    let same : n / 10 * 10 + n % 10 ≡ n = omega arith in
    rw (digit_at (n / 10) (omega (arith, h)), digit_at (n % 10) (omega arith)) (ap (λ (k : ℕ). Some k) same)

pub two_back : (a b n : ℕ) → two_of a b ≡ Some n → (a ≡ 48 + n / 10) × (b ≡ 48 + n % 10) × (n < 100)
two_back a b n e =
    let s = bind_some (digit_of a) (λ t. digit_of b >>= λ o. Some (t * 10 + o)) n e in
    let t = bind_some (digit_of b) (λ o. Some (s.0 * 10 + o)) n s.2 in
    let first = digit_back a s.0 s.1 in
    let second = digit_back b t.0 t.1 in
    let is : s.0 * 10 + t.0 ≡ n = some_is (s.0 * 10 + t.0) n t.2 in
    (omega (arith, first, second, is), omega (arith, first, second, is), omega (arith, first, second, is))

-- ---- the bytes of a text

-- a number of bytes from a place on
abbrev pub bytes_from : ℕ → ℕ → List ℕ → List ℕ
bytes_from zero i t = []
bytes_from (suc n) i t = get_or t i 0 ∷ bytes_from n (i + 1) t

pub taken : (n i : ℕ) (t : List ℕ) → i + n ≤ length t → take n (drop i t) ≡ bytes_from n i t
taken zero i t h = refl
taken (suc n) i t h =
    at_drop_more (take (suc n)) t i 0 (omega (arith, h))
    ∙ ap (λ (z : List ℕ). get_or t i 0 ∷ z) (taken n (i + 1) t (omega (arith, h)))

-- a text of n bytes is its n bytes from the first place on
pub bytes_are : (n : ℕ) (t : List ℕ) → length t ≡ n → t ≡ bytes_from n 0 t
bytes_are n t e = sym (take-length t) ∙ ap (λ (k : ℕ). take k t) e ∙ taken n 0 t (omega (arith, e))

-- equal lists have equal elements at a place
at_place : (s r : List ℕ) (k : ℕ) → s ≡ r → get_or s k 0 ≡ get_or r k 0
at_place s r k e = ap (λ (z : List ℕ). get_or z k 0) e

pub equal_is : (a b : ℕ) → (a == b) ≡ true → a ≡ b
equal_is a b e = grind (arith, nat_tests, e)

-- ---- dates

date_is : (a b c d first e f second g h century year month day : ℕ) → a ≡ 48 + century / 10 → b ≡ 48 + century % 10 → c ≡ 48 + year / 10 → d ≡ 48 + year % 10 → first ≡ 45
    → e ≡ 48 + month / 10 → f ≡ 48 + month % 10 → second ≡ 45 → g ≡ 48 + day / 10 → h ≡ 48 + day % 10 → year < 100
    → a ∷ b ∷ c ∷ d ∷ first ∷ e ∷ f ∷ second ∷ g ∷ h ∷ [] ≡ date_text (century * 100 + year) month day
date_is a b c d first e f second g h century year month day ea eb ec ed e1 ee ef e2 eg eh low =
    let high : (century * 100 + year) / 100 ≡ century = omega (arith, low) in
    let rest : (century * 100 + year) % 100 ≡ year = omega (arith, low) in
    rw (ea, eb, ec, ed, e1, ee, ef, e2, eg, eh, high, rest) refl

date_parts : (t : List ℕ) (v : ℕ × ℕ × ℕ) → get_or t 4 0 ≡ 45 → get_or t 7 0 ≡ 45
    → date_parts_of (get_or t 0 0) (get_or t 1 0) (get_or t 2 0) (get_or t 3 0) (get_or t 5 0) (get_or t 6 0) (get_or t 8 0) (get_or t 9 0) ≡ Some v
    → (bytes_from 10 0 t ≡ date_text v.0 v.1 v.2) × (v.0 < 10000) × (v.1 < 100) × (v.2 < 100)
unfolding date_parts_of
date_parts t v first second e =
    let century = bind_some (two_of (get_or t 0 0) (get_or t 1 0)) (λ c. two_of (get_or t 2 0) (get_or t 3 0) >>= λ y. two_of (get_or t 5 0) (get_or t 6 0) >>= λ m. two_of (get_or t 8 0) (get_or t 9 0) >>= λ d. Some (c * 100 + y, m, d)) v e in
    let year = bind_some (two_of (get_or t 2 0) (get_or t 3 0)) (λ y. two_of (get_or t 5 0) (get_or t 6 0) >>= λ m. two_of (get_or t 8 0) (get_or t 9 0) >>= λ d. Some (century.0 * 100 + y, m, d)) v century.2 in
    let month = bind_some (two_of (get_or t 5 0) (get_or t 6 0)) (λ m. two_of (get_or t 8 0) (get_or t 9 0) >>= λ d. Some (century.0 * 100 + year.0, m, d)) v year.2 in
    let day = bind_some (two_of (get_or t 8 0) (get_or t 9 0)) (λ d. Some (century.0 * 100 + year.0, month.0, d)) v month.2 in
    let c = two_back (get_or t 0 0) (get_or t 1 0) century.0 century.1 in
    let y = two_back (get_or t 2 0) (get_or t 3 0) year.0 year.1 in
    let m = two_back (get_or t 5 0) (get_or t 6 0) month.0 month.1 in
    let d = two_back (get_or t 8 0) (get_or t 9 0) day.0 day.1 in
    let text : bytes_from 10 0 t ≡ date_text (century.0 * 100 + year.0) month.0 day.0 =
    date_is _ _ _ _ _ _ _ _ _ _ century.0 year.0 month.0 day.0 c.0 c.1 y.0 y.1 first m.0 m.1 second d.0 d.1 y.2 in
    subst (λ (w : ℕ × ℕ × ℕ). (bytes_from 10 0 t ≡ date_text w.0 w.1 w.2) × (w.0 < 10000) × (w.1 < 100) × (w.2 < 100)) (some_is (century.0 * 100 + year.0, month.0, day.0) v day.2) (text, omega (arith, c.2, y.2), m.2, d.2)

-- a text that is read as a date is the text of that date
pub date_shown : (t : List ℕ) (v : ℕ × ℕ × ℕ) → date_at t ≡ Some v → (bytes_from 10 0 t ≡ date_text v.0 v.1 v.2) × (v.0 < 10000) × (v.1 < 100) × (v.2 < 100)
unfolding date_at
date_shown t v e =
    let inside = λ (k : ℕ). get_or t k 0 in
    elim (if_some (inside 4 == 45) (cond (inside 7 == 45) (date_parts_of (inside 0) (inside 1) (inside 2) (inside 3) (inside 5) (inside 6) (inside 8) (inside 9)) None) None v e) [
      | inr k ↦ absurd (none_some v k.1)
      | inl k ↦ elim (if_some (inside 7 == 45) (date_parts_of (inside 0) (inside 1) (inside 2) (inside 3) (inside 5) (inside 6) (inside 8) (inside 9)) None v k.1) [
        | inr l ↦ absurd (none_some v l.1)
        | inl l ↦ date_parts t v (equal_is (inside 4) 45 k.0) (equal_is (inside 7) 45 l.0) l.1
      ]
    ]

-- the text of a date is read as that date
pub date_found : (t : List ℕ) (y m d : ℕ) → y < 10000 → m < 100 → d < 100 → bytes_from 10 0 t ≡ date_text y m d → date_at t ≡ Some (y, m, d)
unfolding date_at date_parts_of
date_found t y m d hy hm hd whole =
    let same : y / 100 * 100 + y % 100 ≡ y = omega arith in
    rw (
      at_place _ _ 0 whole,
      at_place _ _ 1 whole,
      at_place _ _ 2 whole,
      at_place _ _ 3 whole,
      at_place _ _ 4 whole,
      at_place _ _ 5 whole,
      at_place _ _ 6 whole,
      at_place _ _ 7 whole,
      at_place _ _ 8 whole,
      at_place _ _ 9 whole,
      two_at (y / 100) (omega (arith, hy)),
      two_at (y % 100) (omega arith),
      two_at m hm,
      two_at d hd,
    )
    (ap (λ (k : ℕ). Some (k, m, d)) same)

-- ---- times of day

time_is : (a b first c d second e f hour minute s : ℕ) → a ≡ 48 + hour / 10 → b ≡ 48 + hour % 10 → first ≡ 58
    → c ≡ 48 + minute / 10 → d ≡ 48 + minute % 10 → second ≡ 58 → e ≡ 48 + s / 10 → f ≡ 48 + s % 10
    → a ∷ b ∷ first ∷ c ∷ d ∷ second ∷ e ∷ f ∷ [] ≡ time_text hour minute s
time_is a b first c d second e f hour minute s ea eb e1 ec ed e2 ee ef = rw (ea, eb, e1, ec, ed, e2, ee, ef) refl

time_parts : (t : List ℕ) (v : ℕ × ℕ × ℕ) → get_or t 13 0 ≡ 58 → get_or t 16 0 ≡ 58
    → time_parts_of (get_or t 11 0) (get_or t 12 0) (get_or t 14 0) (get_or t 15 0) (get_or t 17 0) (get_or t 18 0) ≡ Some v
    → (bytes_from 8 11 t ≡ time_text v.0 v.1 v.2) × (v.0 < 100) × (v.1 < 100) × (v.2 < 100)
unfolding time_parts_of
time_parts t v first second e =
    let hour = bind_some (two_of (get_or t 11 0) (get_or t 12 0)) (λ h. two_of (get_or t 14 0) (get_or t 15 0) >>= λ m. two_of (get_or t 17 0) (get_or t 18 0) >>= λ s. Some (h, m, s)) v e in
    let minute = bind_some (two_of (get_or t 14 0) (get_or t 15 0)) (λ m. two_of (get_or t 17 0) (get_or t 18 0) >>= λ s. Some (hour.0, m, s)) v hour.2 in
    let last = bind_some (two_of (get_or t 17 0) (get_or t 18 0)) (λ s. Some (hour.0, minute.0, s)) v minute.2 in
    let h = two_back (get_or t 11 0) (get_or t 12 0) hour.0 hour.1 in
    let m = two_back (get_or t 14 0) (get_or t 15 0) minute.0 minute.1 in
    let s = two_back (get_or t 17 0) (get_or t 18 0) last.0 last.1 in
    let text : bytes_from 8 11 t ≡ time_text hour.0 minute.0 last.0 =
    time_is _ _ _ _ _ _ _ _ hour.0 minute.0 last.0 h.0 h.1 first m.0 m.1 second s.0 s.1 in
    subst (λ (w : ℕ × ℕ × ℕ). (bytes_from 8 11 t ≡ time_text w.0 w.1 w.2) × (w.0 < 100) × (w.1 < 100) × (w.2 < 100)) (some_is (hour.0, minute.0, last.0) v last.2) (text, h.2, m.2, s.2)

pub time_shown : (t : List ℕ) (v : ℕ × ℕ × ℕ) → time_at t ≡ Some v → (bytes_from 8 11 t ≡ time_text v.0 v.1 v.2) × (v.0 < 100) × (v.1 < 100) × (v.2 < 100)
unfolding time_at
time_shown t v e =
    let inside = λ (k : ℕ). get_or t k 0 in
    elim (if_some (inside 13 == 58) (cond (inside 16 == 58) (time_parts_of (inside 11) (inside 12) (inside 14) (inside 15) (inside 17) (inside 18)) None) None v e) [
      | inr k ↦ absurd (none_some v k.1)
      | inl k ↦ elim (if_some (inside 16 == 58) (time_parts_of (inside 11) (inside 12) (inside 14) (inside 15) (inside 17) (inside 18)) None v k.1) [
        | inr l ↦ absurd (none_some v l.1)
        | inl l ↦ time_parts t v (equal_is (inside 13) 58 k.0) (equal_is (inside 16) 58 l.0) l.1
      ]
    ]

pub time_found : (t : List ℕ) (h m s : ℕ) → h < 100 → m < 100 → s < 100 → bytes_from 8 11 t ≡ time_text h m s → time_at t ≡ Some (h, m, s)
unfolding time_at time_parts_of
time_found t h m s hh hm hs whole =
    rw (
      at_place _ _ 0 whole,
      at_place _ _ 1 whole,
      at_place _ _ 2 whole,
      at_place _ _ 3 whole,
      at_place _ _ 4 whole,
      at_place _ _ 5 whole,
      at_place _ _ 6 whole,
      at_place _ _ 7 whole,
      two_at h hh,
      two_at m hm,
      two_at s hs,
    )
    refl

-- ---- moments: a date, a space, a time of day and what is after them

pub moment_bytes : (t : List ℕ) → 19 ≤ length t → t ≡ bytes_from 10 0 t ++ get_or t 10 0 ∷ bytes_from 8 11 t ++ drop 19 t
moment_bytes t h = sym (take-append-drop 19 t) ∙ ap (λ (front : List ℕ). front ++ drop 19 t) (taken 19 0 t (omega (arith, h)))

-- A text is read as the one value whose text it is.
use Rattle.std.proofs.Common.{◌≡◌, ℕ, zero, suc, ◌+◌, ◌-◌, ◌<◌, ◌≤◌, ℤ, Bool, true, false, cond, nat_lt, List, [], ◌∷◌, ◌++◌, length, take, drop, get_or, Option, Some, None, refl, sym, ap, ◌∙◌, ◌&&◌, ◌↔◌, inl, inr, arith, lit<, rules}
use Rattle.std.specs.Prelude.{◌==◌, IsSome, IfSome, nat_le, slice_index}
use Rattle.std.proofs.lemmas.Bool.{and_parts}
use Rattle.std.proofs.lemmas.Bool.Decides.{nat_tests}
use Rattle.period_core.specs.Calendar.{IsDate, IsDayText, date_text, day_number, is_leap_year, month_length}
use Rattle.period_core.specs.Moments.{IsMoment, IsMomentText, date_time_text, fraction_text, moment_number, time_text}
use Rattle.period_core.specs.TextReading.{◌>>=◌, date_at, day_of_text, fraction_at, is_date, is_time, moment_of_text, number_of_date, number_of_moment, time_at}
use Rattle.period_core.proofs.DateTexts.{bytes_are, bytes_from, date_found, date_shown, equal_is, moment_bytes, taken, time_found, time_shown}
use Rattle.period_core.proofs.FractionTexts.{fraction_found, fraction_shown}
use Rattle.period_core.proofs.OptionFacts.{bind_some, if_some, none_some, some_is}

-- ---- the date exists

nat_le_is : (a b : ℕ) → nat_le a b ≡ true → a ≤ b
nat_le_is a b e = grind (arith, nat_tests, e)

is_nat_le : (a b : ℕ) → a ≤ b → nat_le a b ≡ true
is_nat_le a b h = grind (arith, nat_tests, h)

both : (a b : Bool) → a ≡ true → b ≡ true → (a && b) ≡ true
both true b e f = f
both false b e f = absurd cc

pub date_is : (y m d : ℕ) → is_date y m d ≡ true → IsDate y m d
unfolding is_date
date_is y m d e =
    let p = and_parts (nat_le 1 y) (nat_le y 9999 && (nat_le 1 m && (nat_le m 12 && (nat_le 1 d && nat_le d (month_length y m))))) e in
    let q = and_parts (nat_le y 9999) (nat_le 1 m && (nat_le m 12 && (nat_le 1 d && nat_le d (month_length y m)))) p.1 in
    let r = and_parts (nat_le 1 m) (nat_le m 12 && (nat_le 1 d && nat_le d (month_length y m))) q.1 in
    let s = and_parts (nat_le m 12) (nat_le 1 d && nat_le d (month_length y m)) r.1 in
    let t = and_parts (nat_le 1 d) (nat_le d (month_length y m)) s.1 in
    record {
      year = (nat_le_is 1 y p.0, nat_le_is y 9999 q.0);
      month = (nat_le_is 1 m r.0, nat_le_is m 12 s.0);
      day = (nat_le_is 1 d t.0, nat_le_is d (month_length y m) t.1);
    }

-- a date of the calendar passes the test of dates
pub is_date_if : (y m d : ℕ) → IsDate y m d → is_date y m d ≡ true
unfolding is_date
is_date_if y m d h =
    both _ _ (is_nat_le 1 y h.year.0)
    (both _ _ (is_nat_le y 9999 h.year.1)
    (both _ _ (is_nat_le 1 m h.month.0)
    (both _ _ (is_nat_le m 12 h.month.1)
    (both _ _ (is_nat_le 1 d h.day.0) (is_nat_le d (month_length y m) h.day.1)))))

pub time_is : (h mi s us : ℕ) → is_time h mi s us ≡ true → (h ≤ 23) × (mi ≤ 59) × (s ≤ 59) × (us ≤ 999_999)
unfolding is_time
time_is h mi s us e =
    let p = and_parts (nat_le h 23) (nat_le mi 59 && (nat_le s 59 && nat_le us 999_999)) e in
    let q = and_parts (nat_le mi 59) (nat_le s 59 && nat_le us 999_999) p.1 in
    let r = and_parts (nat_le s 59) (nat_le us 999_999) q.1 in
    (nat_le_is h 23 p.0, nat_le_is mi 59 q.0, nat_le_is s 59 r.0, nat_le_is us 999_999 r.1)

pub is_time_if : (h mi s us : ℕ) → h ≤ 23 → mi ≤ 59 → s ≤ 59 → us ≤ 999_999 → is_time h mi s us ≡ true
unfolding is_time
is_time_if h mi s us a b c d =
    both _ _ (is_nat_le h 23 a)
    (both _ _ (is_nat_le mi 59 b) (both _ _ (is_nat_le s 59 c) (is_nat_le us 999_999 d)))

feb : (b : Bool) → cond b 29 28 < 100
feb true = lit< tt
feb false = lit< tt

low_length : (b : Bool) (n : ℕ) → get_or (31 ∷ (cond b 29 28) ∷ 31 ∷ 30 ∷ 31 ∷ 30 ∷ 31 ∷ 31 ∷ 30 ∷ 31 ∷ 30 ∷ 31 ∷ []) n 0 < 100
low_length b zero = lit< tt
low_length b (suc zero) = feb b
low_length b (suc (suc zero)) = lit< tt
low_length b (suc (suc (suc zero))) = lit< tt
low_length b (suc (suc (suc (suc zero)))) = lit< tt
low_length b (suc (suc (suc (suc (suc zero))))) = lit< tt
low_length b (suc (suc (suc (suc (suc (suc zero)))))) = lit< tt
low_length b (suc (suc (suc (suc (suc (suc (suc zero))))))) = lit< tt
low_length b (suc (suc (suc (suc (suc (suc (suc (suc zero)))))))) = lit< tt
low_length b (suc (suc (suc (suc (suc (suc (suc (suc (suc zero))))))))) = lit< tt
low_length b (suc (suc (suc (suc (suc (suc (suc (suc (suc (suc zero)))))))))) = lit< tt
low_length b (suc (suc (suc (suc (suc (suc (suc (suc (suc (suc (suc zero))))))))))) = lit< tt
low_length b (suc (suc (suc (suc (suc (suc (suc (suc (suc (suc (suc (suc n)))))))))))) = lit< tt

date_low : (y m d : ℕ) → IsDate y m d → (y < 10000) × (m < 100) × (d < 100)
date_low y m d h =
    let (low, high) = h.year in
    let (m_low, m_high) = h.month in
    let (d_low, d_high) = h.day in
    (omega (arith, high), omega (arith, m_high), omega (arith, d_high, low_length (is_leap_year y) (m - 1)))

-- ---- days

-- the day that is read of a text is one whose text it is
pub day_read_is_text : (t : List ℕ) (n : ℤ) → day_of_text t ≡ Some n → IsDayText n t
unfolding day_of_text
day_read_is_text t n e = elim (if_some (length t == 10) (date_at t >>= number_of_date) None n e) [
  | inr h ↦ absurd (none_some n h.1)
  | inl h ↦
      let v = bind_some (date_at t) number_of_date n h.1 in
      let shown = date_shown t v.0 v.1 in
      elim (if_some (is_date v.0.0 v.0.1 v.0.2) (Some (day_number v.0.0 v.0.1 v.0.2)) None n v.2) [
        | inr k ↦ absurd (none_some n k.1)
        | inl k ↦ (v.0.0, v.0.1, v.0.2, date_is v.0.0 v.0.1 v.0.2 k.0, some_is (day_number v.0.0 v.0.1 v.0.2) n k.1, bytes_are 10 t (equal_is (length t) 10 h.0) ∙ shown.0)
      ]
]

-- the day whose text it is is read of a text
pub day_text_is_read : (t : List ℕ) (n : ℤ) → IsDayText n t → day_of_text t ≡ Some n
unfolding day_of_text
day_text_is_read t n h =
    let (y, m, d, date, number, text) = h in
    let low = date_low y m d date in
    let long : length t ≡ 10 = ap length text in
    let at : date_at t ≡ Some (y, m, d) = date_found t y m d low.0 low.1 low.2 (sym (bytes_are 10 t long) ∙ text) in
    rw (long, at, is_date_if y m d date) (ap (λ (k : ℤ). Some k) number)

-- ---- moments

moment_text_parts : (a b c e f g : List ℕ) (s : ℕ) → a ≡ b → s ≡ 32 → c ≡ e → f ≡ g → a ++ s ∷ c ++ f ≡ b ++ 32 ∷ e ++ g
moment_text_parts a b c e f g s p q r w = rw (p, q, r, w) refl

-- the numbers of a date, of a time of day and of a fraction that are read, if they are a moment's
moment_of_parts : (t : List ℕ) (n : ℤ) (date time : ℕ × ℕ × ℕ) (us : ℕ) → 18 < length t → get_or t 10 0 ≡ 32
    → date_at t ≡ Some date → time_at t ≡ Some time → fraction_at t ≡ Some us → number_of_moment date time us ≡ Some n → IsMomentText n t
moment_of_parts t n date time us long space date_read time_read read e =
    let shown = date_shown t date date_read in
    let timed = time_shown t time time_read in
    let fraction = fraction_shown t us read in
    elim (if_some (is_date date.0 date.1 date.2 && is_time time.0 time.1 time.2 us) (Some (moment_number date.0 date.1 date.2 time.0 time.1 time.2 us)) None n e) [
      | inr l ↦ absurd (none_some n l.1)
      | inl l ↦
          let p = and_parts (is_date date.0 date.1 date.2) (is_time time.0 time.1 time.2 us) l.0 in
          let times = time_is time.0 time.1 time.2 us p.1 in (
            date.0,
            date.1,
            date.2,
            time.0,
            time.1,
            time.2,
            us,
            fraction.digits,
            record { date = date_is date.0 date.1 date.2 p.0; hour = times.0; minute = times.1; second = times.2; microsecond = times.3 },
            some_is (moment_number date.0 date.1 date.2 time.0 time.1 time.2 us) n l.1,
            fraction.shows,
            moment_bytes t (omega (arith, long))
                ∙ moment_text_parts (bytes_from 10 0 t) (date_text date.0 date.1 date.2) (bytes_from 8 11 t) (time_text time.0 time.1 time.2) (drop 19 t) (fraction_text fraction.digits) (get_or t 10 0) shown.0 space timed.0 fraction.behind,
          )
    ]

nat_lt_is : (a b : ℕ) → nat_lt a b ≡ true → a < b
nat_lt_is a b e = grind (arith, nat_tests, e)

-- a text that is read as a moment is a text of that moment
pub moment_read_is_text : (t : List ℕ) (n : ℤ) → moment_of_text t ≡ Some n → IsMomentText n t
unfolding moment_of_text
moment_read_is_text t n e =
    let parts = date_at t >>= λ date. time_at t >>= λ time. fraction_at t >>= λ us. number_of_moment date time us in
    elim (if_some (nat_lt 18 (length t)) (cond (get_or t 10 0 == 32) parts None) None n e) [
      | inr h ↦ absurd (none_some n h.1)
      | inl h ↦ elim (if_some (get_or t 10 0 == 32) parts None n h.1) [
        | inr k ↦ absurd (none_some n k.1)
        | inl k ↦
            let date = bind_some (date_at t) (λ date. time_at t >>= λ time. fraction_at t >>= λ us. number_of_moment date time us) n k.1 in
            let time = bind_some (time_at t) (λ time. fraction_at t >>= λ us. number_of_moment date.0 time us) n date.2 in
            let fraction = bind_some (fraction_at t) (λ us. number_of_moment date.0 time.0 us) n time.2 in
            moment_of_parts t n date.0 time.0 fraction.0 (nat_lt_is 18 (length t) h.0) (equal_is (get_or t 10 0) 32 k.0) date.1 time.1 fraction.1 fraction.2
      ]
    ]

-- a text of a moment is read as that moment
pub moment_text_is_read : (t : List ℕ) (n : ℤ) → IsMomentText n t → moment_of_text t ≡ Some n
unfolding moment_of_text
moment_text_is_read t n is =
    let (y, m, d, h, mi, s, us, digits, moment, number, shows, text) = is in
    let low = date_low y m d moment.date in
    let hour = moment.hour in
    let minute = moment.minute in
    let second = moment.second in
    let microsecond = moment.microsecond in
    let long : length t ≡ 19 + length (fraction_text digits) = ap length text ∙ omega arith in
    let enough : nat_lt 18 (length t) ≡ true = grind (arith, nat_tests, long) in
    let whole : bytes_from 19 0 t ≡ date_time_text y m d h mi s = sym (taken 19 0 t (omega (arith, long))) ∙ ap (λ (z : List ℕ). take 19 z) text in
    let date : date_at t ≡ Some (y, m, d) = date_found t y m d low.0 low.1 low.2 (ap (λ (z : List ℕ). take 10 z) whole) in
    let space : get_or t 10 0 ≡ 32 = ap (λ (z : List ℕ). get_or z 10 0) whole in
    let time : time_at t ≡ Some (h, mi, s) = time_found t h mi s (omega (arith, hour)) (omega (arith, minute)) (omega (arith, second)) (ap (λ (z : List ℕ). drop 11 z) whole) in
    let fraction : fraction_at t ≡ Some us = fraction_found t digits us shows microsecond long (ap (λ (z : List ℕ). drop 19 z) text) in
    rw (enough, space, date, time, fraction, is_date_if y m d moment.date, is_time_if h mi s us hour minute second microsecond)
    (ap (λ (k : ℤ). Some k) number)

-- ---- the texts of days and moments

-- a value is read if and only if the text is one of some value
pub there : (o : Option ℤ) (P : ℤ → Type 0) → ((n : ℤ) → o ≡ Some n → P n) → ((n : ℤ) → P n → o ≡ Some n) → IsSome o ↔ ((n : ℤ) × P n)
there (Some n) P shown found = (λ s. (n, shown n refl), λ h. search rules)
there None P shown found = (λ s. absurd cc, λ h. absurd (none_some h.0 (found h.0 h.1)))

pub day_there : (t : List ℕ) → IsSome (day_of_text t) ↔ ((n : ℤ) × IsDayText n t)
day_there t = there (day_of_text t) (λ n. IsDayText n t) (day_read_is_text t) (day_text_is_read t)

pub moment_there : (t : List ℕ) → IsSome (moment_of_text t) ↔ ((n : ℤ) × IsMomentText n t)
moment_there t =
    there (moment_of_text t) (λ n. IsMomentText n t) (moment_read_is_text t) (moment_text_is_read t)

if_there : (o : Option ℤ) (P : ℤ → Type 0) → ((n : ℤ) → o ≡ Some n → P n) → IfSome o P
if_there (Some n) P shown = shown n refl
if_there None P shown = tt

pub day_value : (t : List ℕ) → IfSome (day_of_text t) (λ n. IsDayText n t)
day_value t = if_there (day_of_text t) (λ n. IsDayText n t) (day_read_is_text t)

pub moment_value : (t : List ℕ) → IfSome (moment_of_text t) (λ n. IsMomentText n t)
moment_value t = if_there (moment_of_text t) (λ n. IsMomentText n t) (moment_read_is_text t)

-- for the functions `from_text`, as their `using` names them
pub ruleset day_readings = (day_there, day_value)

pub ruleset moment_readings = (moment_there, moment_value)

-- ---- step by step, as the code reads

abbrev nothing : Option ℤ
nothing = None

not_some : IsSome nothing → ⊥
not_some s = cc

-- an option that has this value if a test holds, and else none
pub chosen : (r : Option ℤ) (b : Bool) (n : ℤ) (P : Type 0) → (b ≡ true → P) → (P → b ≡ true) → IsSome r ↔ P → IfSome r (λ x. x ≡ n) → r ≡ cond b (Some n) None
chosen (Some x) b n P if_true if_P i e = rw (if_P (i.0 (search rules))) (ap (λ (z : ℤ). Some z) e)
chosen None true n P if_true if_P i e = absurd (not_some (i.1 (if_true refl)))
chosen None false n P if_true if_P i e = refl

pub date_number : (r : Option ℤ) (y m d : ℕ) → IsSome r ↔ IsDate y m d → IfSome r (λ x. x ≡ day_number y m d) → r ≡ number_of_date (y, m, d)
date_number r y m d i e = chosen r (is_date y m d) (day_number y m d) (IsDate y m d) (date_is y m d) (is_date_if y m d) i e

pub moment_has_number : (r : Option ℤ) (y m d h mi s us : ℕ) → IsSome r ↔ IsMoment y m d h mi s us → IfSome r (λ x. x ≡ moment_number y m d h mi s us) → r ≡ number_of_moment (y, m, d) (h, mi, s) us
moment_has_number r y m d h mi s us i e =
    chosen r (is_date y m d && is_time h mi s us) (moment_number y m d h mi s us) (IsMoment y m d h mi s us)
    (λ t.
    let p = and_parts (is_date y m d) (is_time h mi s us) t in
    let q = time_is h mi s us p.1 in
    record { date = date_is y m d p.0; hour = q.0; minute = q.1; second = q.2; microsecond = q.3 })
    (λ q. both _ _ (is_date_if y m d q.date) (is_time_if h mi s us q.hour q.minute q.second q.microsecond))
    i e

pub day_by_steps : (t : List ℕ) (y m d : ℕ) (r : Option ℤ) → (length t == 10) ≡ true → date_at t ≡ Some (y, m, d) → r ≡ number_of_date (y, m, d) → r ≡ day_of_text t
unfolding day_of_text
day_by_steps t y m d r long at e = rw (long, at) e

pub moment_by_steps : (t : List ℕ) (v w : ℕ × ℕ × ℕ) (us : ℕ) (r : Option ℤ) → nat_lt 18 (length t) ≡ true → (slice_index t 10 == 32) ≡ true
    → date_at t ≡ Some v → time_at t ≡ Some w → fraction_at t ≡ Some us → r ≡ number_of_moment v w us → r ≡ moment_of_text t
unfolding moment_of_text
moment_by_steps t v w us r long space date time fraction e = rw (long, space, date, time, fraction) e

-- Tokens of which each byte says that they name a day.
use Rattle.std.proofs.Common.{◌≡◌, ℕ, zero, suc, ◌+◌, ◌*◌, ◌-◌, ◌<◌, ◌≤◌, Bool, true, false, List, [], ◌∷◌, length, get_or, Some, refl, sym, subst, cond, nat_lt, arith, rules}
use Rattle.std.specs.Prelude.{IsSome}
use Rattle.std.proofs.lemmas.Bool.Decides.{nat_tests}
use Rattle.period_core.specs.Calendar.{is_leap_year}
use Rattle.period_core.specs.TextReading.{date_at, date_parts_of, day_of_text, is_date, two_of}
use Rattle.period_core.proofs.DateTexts.{bytes_are}
use Rattle.period_core.proofs.TextReadings.{is_date_if}
use Rattle.sql_front.specs.LiteralTests.{AreDigitsWithin, IsDigit, IsLateYear}
use Rattle.sql_front.specs.reading.LeafValues.{day_of_token}

february : (leap : Bool) → 28 ≤ cond leap 29 28
february true = omega arith
february false = omega arith

-- each month has 28 days
each_has : (leap : Bool) (n : ℕ) → n < 12 → 28 ≤ get_or (31 ∷ (cond leap 29 28) ∷ 31 ∷ 30 ∷ 31 ∷ 30 ∷ 31 ∷ 31 ∷ 30 ∷ 31 ∷ 30 ∷ 31 ∷ []) n 0
each_has leap zero h = omega arith
each_has leap (suc zero) h = february leap
each_has leap (suc (suc zero)) h = omega arith
each_has leap (suc (suc (suc zero))) h = omega arith
each_has leap (suc (suc (suc (suc zero)))) h = omega arith
each_has leap (suc (suc (suc (suc (suc zero))))) h = omega arith
each_has leap (suc (suc (suc (suc (suc (suc zero)))))) h = omega arith
each_has leap (suc (suc (suc (suc (suc (suc (suc zero))))))) h = omega arith
each_has leap (suc (suc (suc (suc (suc (suc (suc (suc zero)))))))) h = omega arith
each_has leap (suc (suc (suc (suc (suc (suc (suc (suc (suc zero))))))))) h = omega arith
each_has leap (suc (suc (suc (suc (suc (suc (suc (suc (suc (suc zero)))))))))) h = omega arith
each_has leap (suc (suc (suc (suc (suc (suc (suc (suc (suc (suc (suc zero))))))))))) h = omega arith
each_has leap (suc (suc (suc (suc (suc (suc (suc (suc (suc (suc (suc (suc n)))))))))))) h = absurd (omega (arith, h))

two_digits : (tens ones : ℕ) → IsDigit tens → IsDigit ones → two_of tens ones ≡ Some ((tens - 48) * 10 + (ones - 48))
two_digits tens ones t o =
    let (t_low, t_high) = t in
    let (o_low, o_high) = o in
    let a : nat_lt tens 48 ≡ false = grind (arith, nat_tests, t_low) in
    let b : nat_lt 57 tens ≡ false = grind (arith, nat_tests, t_high) in
    let c : nat_lt ones 48 ≡ false = grind (arith, nat_tests, o_low) in
    let d : nat_lt 57 ones ≡ false = grind (arith, nat_tests, o_high) in
    rw (a, b, c, d) refl

there_is : (century year month day : ℕ) → 10 ≤ century → century ≤ 99 → year ≤ 99 → (1 ≤ month) × (month ≤ 12) → (1 ≤ day) × (day ≤ 28) → is_date (century * 100 + year) month day ≡ true
there_is century year month day c_low c_high y_high in_year in_month =
    let (m_low, m_high) = in_year in
    let (d_low, d_high) = in_month in
    let within : month - 1 < 12 = omega (arith, m_low, m_high) in
    is_date_if (century * 100 + year) month day (record {
      year = (omega (arith, c_low), omega (arith, c_high, y_high));
      month = (m_low, m_high);
      day = (d_low, omega (arith, d_high, each_has (is_leap_year (century * 100 + year)) (month - 1) within));
    })

named : (opening a b c d first e f second g h closing century year month day : ℕ) → two_of a b ≡ Some century → two_of c d ≡ Some year → first ≡ 45 → two_of e f ≡ Some month → second ≡ 45 → two_of g h ≡ Some day
    → is_date (century * 100 + year) month day ≡ true → IsSome (day_of_token (opening ∷ a ∷ b ∷ c ∷ d ∷ first ∷ e ∷ f ∷ second ∷ g ∷ h ∷ closing ∷ []))
unfolding day_of_token day_of_text date_at date_parts_of
named opening a b c d first e f second g h closing century year month day in_century in_year one in_month two in_day is =
    rw (in_century, in_year, one, in_month, two, in_day, is) (search rules)

plain_bytes : (opening a b c d first e f second g h closing : ℕ) → first ≡ 45 → second ≡ 45 → IsLateYear a b c d → AreDigitsWithin 12 e f → AreDigitsWithin 28 g h
    → IsSome (day_of_token (opening ∷ a ∷ b ∷ c ∷ d ∷ first ∷ e ∷ f ∷ second ∷ g ∷ h ∷ closing ∷ []))
plain_bytes opening a b c d first e f second g h closing one two y m k =
    let (a_low, a_high, (b_low, b_high), (c_low, c_high), (d_low, d_high)) = y in
    named opening a b c d first e f second g h closing _ _ _ _
    (two_digits a b (omega (arith, a_low), a_high) (b_low, b_high)) (two_digits c d (c_low, c_high) (d_low, d_high)) one
    (two_digits e f m.0 m.1) two (two_digits g h k.0 k.1)
    (there_is ((a - 48) * 10 + (b - 48)) ((c - 48) * 10 + (d - 48)) ((e - 48) * 10 + (f - 48)) ((g - 48) * 10 + (h - 48)) (omega (arith, a_low)) (omega (arith, a_high, b_high)) (omega (arith, c_high, d_high)) (m.2, m.3) (k.2, k.3))

pub plain_named : (t : List ℕ) → length t ≡ 12 → get_or t 5 0 ≡ 45 → get_or t 8 0 ≡ 45
    → IsLateYear (get_or t 1 0) (get_or t 2 0) (get_or t 3 0) (get_or t 4 0) → AreDigitsWithin 12 (get_or t 6 0) (get_or t 7 0) → AreDigitsWithin 28 (get_or t 9 0) (get_or t 10 0)
    → IsSome (day_of_token t)
plain_named t long one two y m d =
    subst (λ (z : List ℕ). IsSome (day_of_token z)) (sym (bytes_are 12 t long))
    (plain_bytes _ _ _ _ _ _ _ _ _ _ _ _ one two y m d)

-- A balanced tree is low.
use Rattle.std.proofs.Common.{◌≡◌, ◌⊎◌, inl, inr, ℕ, zero, suc, ◌+◌, ◌*◌, ◌^◌, ◌≤◌, ◌<◌, ◌%◌, ◌∙◌, ap, ap₂, arith, max, refl, subst, subst₂, sym, lit≤, lit<, mul_comm}
use Rattle.std.proofs.Math.Nat.{le_of_mul-le-mul_right, le_trans, one-le-pow, pow-le-pow_left, pow-suc, pow-zero}
use Rattle.std.proofs.lemmas.Bool.{cases_lt}
use Rattle.std.proofs.lemmas.Nat.{mul-pow, pow-add}
use Rattle.ordered_rows.specs.Heights.{DifferByAtMost, IsLow, IsLogarithmic}

-- ---- a row above two trees

low_same : (h l r : ℕ) → IsLow h l → IsLow h r → IsLow (suc h) (l + suc r)
low_same h l r p q = rw (pow-suc 21 h, pow-suc 13 h) (omega (arith, p, q))

low_step : (h k l r : ℕ) → h ≡ suc k → IsLow h l → IsLow k r → IsLow (suc h) (l + suc r)
low_step h k l r is p q =
    let upper : 21 ^ k * 21 ≤ 13 ^ k * 13 * (l + 1) = rw (is, pow-suc 21 k, pow-suc 13 k) at p in
    rw (is, pow-suc 21 (suc k), pow-suc 21 k, pow-suc 13 (suc k), pow-suc 13 k) (omega (arith, upper, q))

turned : (h l r : ℕ) → IsLow h (l + suc r) → IsLow h (r + suc l)
turned h l r p = let same : l + suc r ≡ r + suc l = omega arith in subst (IsLow h) same p

pub joined_low : (hl hr l r : ℕ) → DifferByAtMost 1 hl hr → IsLow hl l → IsLow hr r → IsLow (max hl hr + 1) (l + suc r)
joined_low hl hr l r near p q = go (three hl hr near)
  where
    three : (a b : ℕ) → DifferByAtMost 1 a b → (a ≡ b) ⊎ ((a ≡ suc b) ⊎ (b ≡ suc a))
    three a b near =
        elim (cases_lt a b) [
          | inl below ↦ inr (inr (omega (arith, below, near.1)))
          | inr from ↦ elim (cases_lt b a) [
            | inl above ↦ inr (inl (omega (arith, above, near.0)))
            | inr to ↦ inl (omega (arith, from, to))
          ]
        ]

    go : (hl ≡ hr) ⊎ ((hl ≡ suc hr) ⊎ (hr ≡ suc hl)) → IsLow (max hl hr + 1) (l + suc r)
    go (inl same) =
        let height : max hl hr + 1 ≡ suc hl = omega (arith, same) in
        subst (λ h. IsLow h (l + suc r)) (sym height) (low_same hl l r p (subst (λ h. IsLow h r) (sym same) q))
    go (inr (inl left)) =
        let height : max hl hr + 1 ≡ suc hl = omega (arith, left) in
        subst (λ h. IsLow h (l + suc r)) (sym height) (low_step hl hr l r left p q)
    go (inr (inr right)) =
        let height : max hl hr + 1 ≡ suc hr = omega (arith, right) in
        subst (λ h. IsLow h (l + suc r)) (sym height) (turned (suc hr) r l (low_step hr hl r l right q p))

-- ---- the binary logarithm

one-pow : (k : ℕ) → 1 ^ k ≡ 1
one-pow zero = refl
one-pow (suc k) = pow-suc 1 k ∙ ap (λ n. n * 1) (one-pow k)

pow_swap : (a h k : ℕ) → (a ^ h) ^ k ≡ (a ^ k) ^ h
pow_swap a zero k = ap (λ n. n ^ k) (pow-zero a) ∙ one-pow k ∙ sym (pow-zero (a ^ k))
pow_swap a (suc h) k =
    ap (λ n. n ^ k) (pow-suc a h) ∙ mul-pow (a ^ h) a k ∙ ap (λ n. n * a ^ k) (pow_swap a h k) ∙ sym (pow-suc (a ^ k) h)

pow_times : (a m h : ℕ) → a ^ (m * h) ≡ (a ^ m) ^ h
pow_times a m zero = let none : m * zero ≡ 0 = omega arith in ap (λ n. a ^ n) none ∙ pow-zero a ∙ sym (pow-zero (a ^ m))
pow_times a m (suc h) =
    let more : m * suc h ≡ m * h + m = omega arith in
    ap (λ n. a ^ n) more ∙ pow-add a (m * h) m ∙ ap (λ n. n * a ^ m) (pow_times a m h) ∙ sym (pow-suc (a ^ m) h)

pub logarithmic : (height rows : ℕ) → IsLow height rows → IsLogarithmic height rows
logarithmic height rows low =
    let base : 2 ^ 20 * 13 ^ 29 ≤ 21 ^ 29 = lit≤ tt in
    let left : 2 ^ (20 * height) * (13 ^ height) ^ 29 ≡ (2 ^ 20 * 13 ^ 29) ^ height =
    ap₂ (λ a b. a * b) (pow_times 2 20 height) (pow_swap 13 height 29) ∙ sym (mul-pow (2 ^ 20) (13 ^ 29) height) in
    let first : 2 ^ (20 * height) * (13 ^ height) ^ 29 ≤ (21 ^ height) ^ 29 =
    subst₂ (λ a b. a ≤ b) (sym left) (sym (pow_swap 21 height 29)) (pow-le-pow_left base height) in
    let second : (21 ^ height) ^ 29 ≤ (rows + 1) ^ 29 * (13 ^ height) ^ 29 =
    subst (λ n. (21 ^ height) ^ 29 ≤ n) (mul-pow (13 ^ height) (rows + 1) 29 ∙ mul_comm ((13 ^ height) ^ 29) ((rows + 1) ^ 29)) (pow-le-pow_left low 29) in
    let some : 0 < (13 ^ height) ^ 29 = one-le-pow 29 (13 ^ height) (one-le-pow height 13 (lit< tt)) in
    le_of_mul-le-mul_right (le_trans first second) some

-- ---- heights modulo 256

pub right_higher : (l r higher : ℕ) → r ≡ l + 1 → higher ≡ r % 256 → (higher + 1) % 256 ≡ (max l r + 1) % 256
right_higher l r higher taller is =
    let most : max l r ≡ r = omega (arith, taller) in
    rw (most, is) (omega arith)

pub left_higher : (l r higher : ℕ) → DifferByAtMost 1 l r → (r ≡ l + 1 → ⊥) → higher ≡ l % 256 → (higher + 1) % 256 ≡ (max l r + 1) % 256
left_higher l r higher near not_taller is =
    let most : max l r ≡ l =
    elim (cases_lt l r) [
      | inl below ↦ absurd (not_taller (omega (arith, below, near.1)))
      | inr from ↦ omega (arith, from)
    ] in
    rw (most, is) (omega arith)

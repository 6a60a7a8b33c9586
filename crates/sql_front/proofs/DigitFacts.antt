-- The value of digits, read from the left, with its limit.
use Rattle.std.proofs.Common.{◌≡◌, ℕ, suc, ◌+◌, ◌-◌, ◌*◌, ◌<◌, ◌≤◌, ◌^◌, List, [], ◌∷◌, ◌++◌, take, drop, get_or, length, refl, sym, ap, subst, ◌∙◌, zero-add, arith}
use Rattle.std.proofs.Math.Nat.{pow-le-pow_right}
use Rattle.std.proofs.lemmas.Grind.{pow_more}
use Rattle.std.proofs.lemmas.List.{at_drop_more, take-append-drop}
use Rattle.sql_front.specs.LiteralValues.{number_of_digits_after}

digits_grow : (v : ℕ) (bytes : List ℕ) → v ≤ number_of_digits_after v bytes
digits_grow v [] = omega arith
digits_grow v (b ∷ bytes) = omega (arith, digits_grow (v * 10 + (b - 48)) bytes)

-- digits never bring the value down
pub stays_above : (limit value i d total : ℕ) (bytes : List ℕ) → i < length bytes → limit < value * 10 + (get_or bytes i d - 48) → total ≡ number_of_digits_after value (drop i bytes) → limit < total
stays_above limit value i d total bytes h above e =
    let opened : number_of_digits_after value (drop i bytes) ≡ number_of_digits_after (value * 10 + (get_or bytes i d - 48)) (drop (i + 1) bytes) = at_drop_more (λ (s : List ℕ). number_of_digits_after value s) bytes i d h in
    omega (arith, digits_grow (value * 10 + (get_or bytes i d - 48)) (drop (i + 1) bytes), opened, e)

-- few digits leave room for one more
pub few_fit : (value i few : ℕ) → value + 23 ≤ 23 * 10 ^ i → i < few → few ≤ 17 → value * 10 + 256 < 2 ^ 64
few_fit value i few below less most =
    let step : i ≤ 16 = omega arith in
    let power : 10 ^ i ≤ 10 ^ 16 = pow-le-pow_right (let some : 0 < 10 = omega arith in some) step in
    omega (arith, below, power)

digits_on : (v : ℕ) (front more : List ℕ) → number_of_digits_after v (front ++ more) ≡ number_of_digits_after (number_of_digits_after v front) more
digits_on v [] more = refl
digits_on v (b ∷ front) more = digits_on (v * 10 + (b - 48)) front more

-- the digits after some of them
pub digits_in_two : (k v value : ℕ) (bytes front more : List ℕ) → front ≡ take k bytes → more ≡ drop k bytes → value ≡ number_of_digits_after v front → number_of_digits_after v bytes ≡ number_of_digits_after value more
digits_in_two k v value bytes front more first after is =
    ap (number_of_digits_after v) (sym (take-append-drop k bytes))
    ∙ digits_on v (take k bytes) (drop k bytes)
    ∙ ap (λ (s : List ℕ). number_of_digits_after (number_of_digits_after v s) (drop k bytes)) (sym first)
    ∙ ap (λ (n : ℕ). number_of_digits_after n (drop k bytes)) (sym is)
    ∙ ap (number_of_digits_after value) (sym after)

-- if a front of the digits is above the limit, all of them are
pub front_above : (limit value total : ℕ) (more : List ℕ) → limit < value → total ≡ number_of_digits_after value more → limit < total
front_above limit value total more above e = omega (arith, digits_grow value more, e)

-- a few digits, whatever their bytes, are below the greatest number
few_below : (value i : ℕ) (bytes : List ℕ) → ((j : ℕ) → get_or bytes j 0 < 256) → value + 23 ≤ 23 * 10 ^ i → number_of_digits_after value bytes + 23 ≤ 23 * 10 ^ (i + length bytes)
few_below value i [] low below =
    let same : i ≡ i + 0 = omega arith in
    subst (λ (n : ℕ). value + 23 ≤ 23 * 10 ^ n) same below
few_below value i (b ∷ bytes) low below =
    let first : b < 256 = low 0 in
    let step : value * 10 + (b - 48) + 23 ≤ 23 * 10 ^ (i + 1) = omega (arith, pow_more 10 i, first, below) in
    let rest : number_of_digits_after (value * 10 + (b - 48)) bytes + 23 ≤ 23 * 10 ^ ((i + 1) + length bytes) = few_below (value * 10 + (b - 48)) (i + 1) bytes (λ j. low (suc j)) step in
    let same : (i + 1) + length bytes ≡ i + length (b ∷ bytes) = omega arith in
    subst (λ (n : ℕ). number_of_digits_after (value * 10 + (b - 48)) bytes + 23 ≤ 23 * 10 ^ n) same rest

pub few_within : (bytes : List ℕ) → ((j : ℕ) → get_or bytes j 0 < 256) → length bytes ≤ 17 → number_of_digits_after 0 bytes < 9_223_372_036_854_775_807
few_within bytes low short =
    let power : 10 ^ length bytes ≤ 10 ^ 17 = pow-le-pow_right (let some : 0 < 10 = omega arith in some) short in
    let below : number_of_digits_after 0 bytes + 23 ≤ 23 * 10 ^ length bytes = subst (λ (n : ℕ). number_of_digits_after 0 bytes + 23 ≤ 23 * 10 ^ n) (zero-add (length bytes)) (few_below 0 0 bytes low (omega arith)) in
    omega (arith, power, below)

-- The bytes of values are in the order of the values.
use Rattle.std.proofs.Common.{◌≡◌, ◌∙◌, ℕ, zero, suc, ◌+◌, ◌*◌, ◌/◌, ◌%◌, ◌^◌, ◌<◌, ◌≤◌, List, [], ◌∷◌, ◌++◌, refl, sym, ap, ap₂, arith, append_assoc, ℤ, pos, negsuc, ◌+ℤ◌, ◌-ℤ◌, ◌≤ℤ◌, ◌<ℤ◌, unsigned_abs, inl, inr}
use Rattle.std.proofs.Math.Nat.{add-mul, div-one, mod-eq_of_lt, mod-lt, mul-le-mul_right, one-le-pow, pow-succ'}
use Rattle.std.proofs.lemmas.Bool.{cases_lt}
use Rattle.std.proofs.lemmas.Bool.Decides.{nat_tests}
use Rattle.std.proofs.lemmas.Cmp.{nat_list_cmp_total, tied_itself}
use Rattle.std.proofs.lemmas.Int.{ints}
use Rattle.std.proofs.lemmas.List.Elements.{All-head, All-tail}
use Rattle.std.proofs.lemmas.Nat.{mod-pow-add, pow-add}
use Rattle.std.specs.Cmp.Lexicographic.{slice_cmp}
use Rattle.std.specs.declared.cmp.Ordering.{Ordering}
use Rattle.std.specs.declared.cmp.Ordering.TheVariants.{Less, Equal, Greater}
use Rattle.std.specs.Int.{byte_at, bytes_high_first}
use Rattle.std.specs.List.{flat_map}
use Rattle.std.specs.Ordering.{int_cmp, nat_cmp, ordering_then}
use Rattle.jiff_core.proofs.SignedLemmas.{signed_arith}
use Rattle.period_core.specs.Calendar.{first_day}
use Rattle.period_core.specs.Encoding.{IsColumnValue, encoded, encoded_value, escaped_byte, least_integer, places_above}
use Rattle.period_core.specs.EncodingLaws.{EncodingKeepsOrder, EncodingReadsBack}
use Rattle.period_core.specs.Order.{value_cmp}
use Rattle.period_core.specs.OrderLaws.{values_cmp-same}
use Rattle.period_core.specs.declared.value.Value.{Value}
use Rattle.period_core.specs.declared.value.Value.TheVariants.{Int, Text, Date}

then_assoc : (o p q : Ordering) → ordering_then o (ordering_then p q) ≡ ordering_then (ordering_then o p) q
then_assoc Less p q = refl
then_assoc Equal p q = refl
then_assoc Greater p q = refl

-- if two numbers have a high and a low part, the high parts decide, and then the low ones
parts-cmp : (c p q a b : ℕ) → a < c → b < c →
    nat_cmp (p * c + a) (q * c + b) ≡ ordering_then (nat_cmp p q) (nat_cmp a b)
parts-cmp c p q a b ha hb = elim (cases_lt p q) [
  | inl less ↦
      let top : (p + 1) * c ≤ q * c = mul-le-mul_right c (omega arith) in
      let wide : (p + 1) * c ≡ p * c + 1 * c = add-mul p 1 c in
      grind (arith, nat_tests)
  | inr more ↦ elim (cases_lt q p) [
    | inl less ↦
        let top : (q + 1) * c ≤ p * c = mul-le-mul_right c (omega arith) in
        let wide : (q + 1) * c ≡ q * c + 1 * c = add-mul q 1 c in
        grind (arith, nat_tests)
    | inr same ↦
        let e : p ≡ q = omega arith in
        rw e (grind (arith, nat_tests))
  ]
]

byte_at-pow : (k x : ℕ) → byte_at k x ≡ x / 256 ^ k % 256
byte_at-pow zero x = ap (λ (y : ℕ). y % 256) (sym (div-one x))
byte_at-pow (suc k) x = refl

pow256 : (n : ℕ) → 256 ^ n ≡ 2 ^ (8 * n)
pow256 zero = refl
pow256 (suc n) =
    let e : 8 * suc n ≡ 8 + 8 * n = omega arith in
    rw (pow-succ' 256 n, pow256 n, e, pow-add 2 8 (8 * n)) refl

-- a number below a place, by its byte there and what is below that
byte-split : (k n : ℕ) → n % 256 ^ suc k ≡ byte_at k n * 256 ^ k + n % 256 ^ k
byte-split k n =
    let e : 8 * suc k ≡ 8 + 8 * k = omega arith in
    rw (byte_at-pow k n, pow256 (suc k), e, pow256 k) (mod-pow-add n 8 (8 * k))

-- the bytes of two numbers, highest first, are in the order of the numbers
bytes-cmp : (k m n : ℕ) (x y : List ℕ) →
    slice_cmp nat_cmp (bytes_high_first k m ++ x) (bytes_high_first k n ++ y)
    ≡ ordering_then (nat_cmp (m % 256 ^ k) (n % 256 ^ k)) (slice_cmp nat_cmp x y)
bytes-cmp zero m n x y =
    let a : m % 1 ≡ 0 = omega arith in
    let b : n % 1 ≡ 0 = omega arith in
    rw (a, b) refl
bytes-cmp (suc k) m n x y =
    let behind = slice_cmp nat_cmp x y in
    let high = nat_cmp (byte_at k m) (byte_at k n) in
    let low = nat_cmp (m % 256 ^ k) (n % 256 ^ k) in
    let some : 0 < 256 ^ k = one-le-pow k 256 (omega arith) in
    let parts = parts-cmp (256 ^ k) (byte_at k m) (byte_at k n) (m % 256 ^ k) (n % 256 ^ k) (mod-lt m some) (mod-lt n some) in
    ap (ordering_then high) (bytes-cmp k m n x y)
    ∙ then_assoc high low behind
    ∙ ap (λ (o : Ordering). ordering_then o behind) (sym parts ∙ ap₂ nat_cmp (sym (byte-split k m)) (sym (byte-split k n)))

-- numbers are in the order of their places above the least
places-cmp : (least a b : ℤ) (m n : ℕ) →
    a ≡ least +ℤ pos m → b ≡ least +ℤ pos n → nat_cmp m n ≡ int_cmp a b
places-cmp least a b m n e f = grind (arith, ints, nat_tests)

-- a number from 0 on is its size
size-is : (z : ℤ) → pos 0 ≤ℤ z → pos (unsigned_abs z) ≡ z
size-is (pos n) h = refl
size-is (negsuc n) h = absurd (omega (arith, signed_arith))

places-are : (least a : ℤ) → least ≤ℤ a → a ≡ least +ℤ pos (places_above least a)
places-are least a h =
    let high : pos 0 ≤ℤ (a -ℤ least) = omega (arith, signed_arith) in
    let back : a ≡ least +ℤ (a -ℤ least) = omega (arith, signed_arith) in
    back ∙ ap (λ (z : ℤ). least +ℤ z) (sym (size-is (a -ℤ least) high))

places-below : (least a : ℤ) (n : ℕ) → least ≤ℤ a → a <ℤ (least +ℤ pos n) → places_above least a < n
places-below least a n low high =
    let e = places-are least a low in
    omega (arith, signed_arith, e)

-- the bytes of the places of two numbers are in the order of the numbers
numbers-cmp : (k : ℕ) (least a b : ℤ) (x y : List ℕ) → least ≤ℤ a → a <ℤ (least +ℤ pos (256 ^ k)) →
    least ≤ℤ b → b <ℤ (least +ℤ pos (256 ^ k)) →
    slice_cmp nat_cmp (bytes_high_first k (places_above least a) ++ x) (bytes_high_first k (places_above least b) ++ y)
    ≡ ordering_then (int_cmp a b) (slice_cmp nat_cmp x y)
numbers-cmp k least a b x y low_a high_a low_b high_b =
    let m = places_above least a in
    let n = places_above least b in
    let above_a = mod-eq_of_lt (places-below least a (256 ^ k) low_a high_a) in
    let above_b = mod-eq_of_lt (places-below least b (256 ^ k) low_b high_b) in
    let same : nat_cmp (m % 256 ^ k) (n % 256 ^ k) ≡ int_cmp a b =
    ap₂ nat_cmp above_a above_b ∙ places-cmp least a b m n (places-are least a low_a) (places-are least b low_b) in
    bytes-cmp k m n x y ∙ ap (λ (o : Ordering). ordering_then o (slice_cmp nat_cmp x y)) same

zero-first : (b : ℕ) → nat_cmp 0 (suc b) ≡ Less
zero-first b = grind (arith, nat_tests)

zero-last : (b : ℕ) → nat_cmp (suc b) 0 ≡ Greater
zero-last b = grind (arith, nat_tests)

-- the bytes of texts are in the order of the texts: what ends before a 00 precedes it
text-cmp : (s t x y : List ℕ) →
    slice_cmp nat_cmp (flat_map escaped_byte s ++ 0 ∷ 0 ∷ x) (flat_map escaped_byte t ++ 0 ∷ 0 ∷ y)
    ≡ ordering_then (slice_cmp nat_cmp s t) (slice_cmp nat_cmp x y)
text-cmp [] [] x y = refl
text-cmp [] (zero ∷ t) x y = refl
text-cmp [] (suc b ∷ t) x y = rw (zero-first b) refl
text-cmp (zero ∷ s) [] x y = refl
text-cmp (suc a ∷ s) [] x y = rw (zero-last a) refl
text-cmp (zero ∷ s) (zero ∷ t) x y = text-cmp s t x y
text-cmp (zero ∷ s) (suc b ∷ t) x y = rw (zero-first b) refl
text-cmp (suc a ∷ s) (zero ∷ t) x y = rw (zero-last a) refl
text-cmp (suc a ∷ s) (suc b ∷ t) x y =
    ap (ordering_then (nat_cmp (suc a) (suc b))) (text-cmp s t x y)
    ∙ then_assoc (nat_cmp (suc a) (suc b)) (slice_cmp nat_cmp s t) (slice_cmp nat_cmp x y)

-- a value's bytes decide as the value does, and then what is after them
value-cmp : (v w : Value) (x y : List ℕ) → IsColumnValue v → IsColumnValue w →
    slice_cmp nat_cmp (encoded_value v ++ x) (encoded_value w ++ y)
    ≡ ordering_then (value_cmp v w) (slice_cmp nat_cmp x y)
value-cmp (Int a) (Int b) x y (low, high) (low_b, high_b) =
    numbers-cmp 8 least_integer a b x y low (omega (arith, signed_arith)) low_b (omega (arith, signed_arith))
value-cmp (Int a) (Text t) x y h g = refl
value-cmp (Int a) (Date d) x y h g = refl
value-cmp (Text s) (Int b) x y h g = refl
value-cmp (Text s) (Text t) x y h g = simp append_assoc (text-cmp s t x y)
value-cmp (Text s) (Date d) x y h g = refl
value-cmp (Date c) (Int b) x y h g = refl
value-cmp (Date c) (Text t) x y h g = refl
value-cmp (Date c) (Date d) x y (low, high) (low_b, high_b) =
    numbers-cmp 4 first_day c d x y low (omega (arith, signed_arith)) low_b (omega (arith, signed_arith))

-- bytes come before those that they begin
nothing-before : (v : Value) (x : List ℕ) → slice_cmp nat_cmp [] (encoded_value v ++ x) ≡ Less
nothing-before (Int n) x = refl
nothing-before (Text t) x = refl
nothing-before (Date d) x = refl

nothing-behind : (v : Value) (x : List ℕ) → slice_cmp nat_cmp (encoded_value v ++ x) [] ≡ Greater
nothing-behind (Int n) x = refl
nothing-behind (Text t) x = refl
nothing-behind (Date d) x = refl

-- two lists of values compare as their bytes do
pub keeps_order : EncodingKeepsOrder
keeps_order [] [] h g = refl
keeps_order [] (w ∷ b) h g = nothing-before w (encoded b)
keeps_order (v ∷ a) [] h g = nothing-behind v (encoded a)
keeps_order (v ∷ a) (w ∷ b) h g =
    value-cmp v w (encoded a) (encoded b) (All-head IsColumnValue v a h) (All-head IsColumnValue w b g)
    ∙ ap (ordering_then (value_cmp v w)) (keeps_order a b (All-tail IsColumnValue v a h) (All-tail IsColumnValue w b g))

-- lists of column values with the same bytes are one list
pub reads_back : EncodingReadsBack
reads_back a b h g e =
    let tied : slice_cmp nat_cmp (encoded a) (encoded b) ≡ Equal = rw e (tied_itself nat_list_cmp_total (encoded b)) in
    values_cmp-same a b (sym (keeps_order a b h g) ∙ tied)

-- Counting bytes from a place on.
use Rattle.std.proofs.Common.{◌≡◌, ℕ, suc, ◌+◌, ◌≤◌, ◌<◌, Bool, true, false, ◌==◌, List, [], ◌∷◌, length, get_or, drop, Option, Some, None, refl, sym, ap, subst, ◌∙◌, arith, add-one, drop-cons, inl, inr, ◌-◌, take, length-drop}
use Rattle.std.specs.List.{prefix_len}
use Rattle.std.specs.Io.BufRead.{take_through}
use Rattle.std.proofs.lemmas.List.{drop_all, drop-drop}
use Rattle.std.proofs.Math.Seq.{take-length}
use Rattle.std.proofs.lemmas.Bool.{ne_eqb, cases_lt, eqb-true, and_parts}
use Rattle.sql_statements.specs.Lexis.{quoted_size, longer, begins_with}

-- the bytes from a place on begin with the byte at it
front : (bytes : List ℕ) (i : ℕ) → i < length bytes → drop i bytes ≡ get_or bytes i 0 ∷ drop (i + 1) bytes
front bytes i h = rw (add-one, drop-cons bytes i 0) refl

-- ---- the first bytes that meet a test

-- a byte that passes lengthens the prefix by one
pub prefix_on : (p : ℕ → Bool) (bytes : List ℕ) (i total : ℕ) → i < length bytes → true ≡ p (get_or bytes i 0)
    → total ≡ i + prefix_len p (drop i bytes) → total ≡ (i + 1) + prefix_len p (drop (i + 1) bytes)
prefix_on p bytes i total h yet so_far =
    let one : prefix_len p (drop i bytes) ≡ 1 + prefix_len p (drop (i + 1) bytes) = rw (front bytes i h, ← yet) refl in
    omega (arith, so_far, one)

-- a byte that fails ends the prefix
pub prefix_stops : (p : ℕ → Bool) (bytes : List ℕ) (i total : ℕ) → i < length bytes → false ≡ p (get_or bytes i 0)
    → total ≡ i + prefix_len p (drop i bytes) → i ≡ total
prefix_stops p bytes i total h ended so_far =
    let one : prefix_len p (drop i bytes) ≡ 0 = rw (front bytes i h, ← ended) refl in
    omega (arith, so_far, one)

-- the end of the bytes ends the prefix
pub prefix_ends : (p : ℕ → Bool) (bytes : List ℕ) (i total : ℕ) → length bytes ≤ i → i ≤ length bytes
    → total ≡ i + prefix_len p (drop i bytes) → length bytes ≡ total
prefix_ends p bytes i total h le so_far =
    let one : prefix_len p (drop i bytes) ≡ 0 = rw (drop_all i bytes h) refl in
    omega (arith, so_far, one)

-- ---- comments

pub comment_on : (bytes : List ℕ) (i total : ℕ) → i < length bytes → (get_or bytes i 0 ≡ 10 → ⊥)
    → total ≡ i + length (take_through 10 (drop i bytes)) → total ≡ (i + 1) + length (take_through 10 (drop (i + 1) bytes))
comment_on bytes i total h other so_far =
    let one : length (take_through 10 (drop i bytes)) ≡ suc (length (take_through 10 (drop (i + 1) bytes))) =
    rw (front bytes i h, ne_eqb (get_or bytes i 0) 10 other) refl in
    omega (arith, so_far, one)

pub comment_stops : (bytes : List ℕ) (i total : ℕ) → i < length bytes → get_or bytes i 0 ≡ 10
    → total ≡ i + length (take_through 10 (drop i bytes)) → i + 1 ≡ total
comment_stops bytes i total h ended so_far =
    let one : length (take_through 10 (drop i bytes)) ≡ 1 = rw (front bytes i h, ended) refl in
    omega (arith, so_far, one)

pub comment_ends : (bytes : List ℕ) (i total : ℕ) → length bytes ≤ i → i ≤ length bytes
    → total ≡ i + length (take_through 10 (drop i bytes)) → length bytes ≡ total
comment_ends bytes i total h le so_far =
    let one : length (take_through 10 (drop i bytes)) ≡ 0 = rw (drop_all i bytes h) refl in
    omega (arith, so_far, one)

-- ---- texts

other_first : (b : ℕ) (rest : List ℕ) → (b ≡ 39 → ⊥) → quoted_size (b ∷ rest) ≡ longer 1 (quoted_size rest)
unfolding quoted_size
other_first b [] h = rw (ne_eqb b 39 h) refl
other_first b (c ∷ rest) h = rw (ne_eqb b 39 h) refl

pair_first : (rest : List ℕ) → begins_with "'" rest ≡ true → quoted_size (39 ∷ rest) ≡ longer 2 (quoted_size (drop 1 rest))
unfolding quoted_size
pair_first [] h = absurd cc
pair_first (c ∷ rest) h = let e : c ≡ 39 = sym (eqb-true 39 c (and_parts (39 == c) true h).0) in rw e refl

quote_ends : (rest : List ℕ) → begins_with "'" rest ≡ false → quoted_size (39 ∷ rest) ≡ Some 1
unfolding quoted_size
quote_ends [] h = refl
quote_ends (c ∷ rest) h =
    let other : c ≡ 39 → ⊥ = λ e. let f : true ≡ false = subst (λ (k : ℕ). begins_with "'" (k ∷ rest) ≡ false) e h in absurd cc in
    rw (ne_eqb c 39 other) refl

longer_twice : (i n : ℕ) (o : Option ℕ) → longer i (longer n o) ≡ longer (i + n) o
longer_twice i n None = refl
longer_twice i n (Some m) = ap (λ (k : ℕ). Some k) (omega arith)

pub quoted_on : (bytes : List ℕ) (i : ℕ) (total : Option ℕ) → i < length bytes → (get_or bytes i 0 ≡ 39 → ⊥)
    → total ≡ longer i (quoted_size (drop i bytes)) → total ≡ longer (i + 1) (quoted_size (drop (i + 1) bytes))
quoted_on bytes i total h other so_far =
    so_far ∙ ap (longer i) (ap quoted_size (front bytes i h) ∙ other_first (get_or bytes i 0) (drop (i + 1) bytes) other)
    ∙ longer_twice i 1 (quoted_size (drop (i + 1) bytes))

pub quoted_pair : (bytes : List ℕ) (i : ℕ) (total : Option ℕ) → i < length bytes → get_or bytes i 0 ≡ 39
    → true ≡ begins_with "'" (drop (i + 1) bytes) → total ≡ longer i (quoted_size (drop i bytes)) → total ≡ longer (i + 2) (quoted_size (drop (i + 2) bytes))
quoted_pair bytes i total h quote follows so_far =
    let after : drop 1 (drop (i + 1) bytes) ≡ drop (i + 2) bytes = drop-drop 1 (i + 1) bytes ∙ ap (λ (k : ℕ). drop k bytes) (omega arith) in
    let here : drop i bytes ≡ 39 ∷ drop (i + 1) bytes = front bytes i h ∙ ap (λ (b : ℕ). b ∷ drop (i + 1) bytes) quote in
    so_far ∙ ap (longer i) (ap quoted_size here ∙ pair_first (drop (i + 1) bytes) (sym follows) ∙ ap (λ (w : List ℕ). longer 2 (quoted_size w)) after)
    ∙ longer_twice i 2 (quoted_size (drop (i + 2) bytes))

pub quoted_stops : (bytes : List ℕ) (i : ℕ) (total : Option ℕ) → i < length bytes → get_or bytes i 0 ≡ 39
    → false ≡ begins_with "'" (drop (i + 1) bytes) → total ≡ longer i (quoted_size (drop i bytes)) → Some (i + 1) ≡ total
quoted_stops bytes i total h quote follows so_far =
    let here : drop i bytes ≡ 39 ∷ drop (i + 1) bytes = front bytes i h ∙ ap (λ (b : ℕ). b ∷ drop (i + 1) bytes) quote in
    sym (so_far ∙ ap (longer i) (ap quoted_size here ∙ quote_ends (drop (i + 1) bytes) (sym follows)))

pub quoted_none : (bytes : List ℕ) (i : ℕ) (total : Option ℕ) → length bytes ≤ i → total ≡ longer i (quoted_size (drop i bytes)) → total ≡ None
unfolding quoted_size
quoted_none bytes i total h so_far = so_far ∙ rw (drop_all i bytes h) refl

-- a pair of quotes takes two bytes
pub pair_fits : (bytes : List ℕ) (i : ℕ) → i < length bytes → true ≡ begins_with "'" (drop (i + 1) bytes) → i + 2 ≤ length bytes
pair_fits bytes i h e =
    elim (cases_lt (i + 1) (length bytes)) [
      | inl lt ↦ omega arith
      | inr le ↦ absurd (let none : begins_with "'" (drop (i + 1) bytes) ≡ false = rw (drop_all (i + 1) bytes le) refl in cc)
    ]

-- the bytes from a place to the end
pub to_end : (bytes : List ℕ) (i : ℕ) → take (length bytes - i) (drop i bytes) ≡ drop i bytes
to_end bytes i = ap (λ (n : ℕ). take n (drop i bytes)) (sym (length-drop i bytes)) ∙ take-length (drop i bytes)

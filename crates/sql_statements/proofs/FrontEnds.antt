-- The first lexeme of a text is not empty, and ends between characters.
use Rattle.std.proofs.Common.{◌≡◌, ℕ, suc, ◌+◌, ◌-◌, ◌≤◌, ◌<◌, Bool, true, false, cond, ◌==◌, List, [], ◌∷◌, length, get_or, Option, Some, None, refl, ap, subst, ◌∙◌, arith, inl, inr, ◌⊎◌, ◌&&◌, ◌||◌}
use Rattle.std.specs.Prelude.{nat_eq}
use Rattle.std.specs.Str.{IsUtf8, IsCharBoundary}
use Rattle.std.specs.Int.{is_in_range}
use Rattle.std.specs.List.{prefix_len, starts_with}
use Rattle.std.specs.Io.BufRead.{take_through}
use Rattle.std.proofs.lemmas.Str.{IsCharBoundary-after_ascii, IsCharBoundary-end}
use Rattle.std.proofs.lemmas.Bool.{leb-true, eqb-true, and_parts, or_cases, cases_Bool}
use Rattle.sql_statements.specs.declared.lexeme.Front.{Front}
use Rattle.sql_statements.specs.Lexis.{is_blank, is_letter, is_digit, is_word_byte, is_symbol_byte, begins_with, begins_pair, quoted_size, longer, text_of_size, first_lexeme, EndsBetween}

-- ---- the bytes of the cases are ASCII

range_below : (lo hi b : ℕ) → is_in_range lo hi b ≡ true → b ≤ hi
range_below lo hi b e = leb-true b hi (and_parts _ _ e).1

eq_or : (b k limit : ℕ) (rest : Bool) → k < limit → (rest ≡ true → b < limit) → (b == k || rest) ≡ true → b < limit
eq_or b k limit rest h next e = elim (or_cases (b == k) rest e) [ inl x ↦ omega (arith, eqb-true b k x) | inr x ↦ next x ]

or_eq : (b k limit : ℕ) (first : Bool) → k < limit → (first ≡ true → b < limit) → (first || b == k) ≡ true → b < limit
or_eq b k limit first h before e = elim (or_cases first (b == k) e) [ inl x ↦ before x | inr x ↦ omega (arith, eqb-true b k x) ]

blank_below : (b : ℕ) → is_blank b ≡ true → b < 128
blank_below b = or_eq b 32 128 (is_in_range 9 13 b) (omega arith) (λ e. omega (arith, range_below 9 13 b e))

digit_below : (b : ℕ) → is_digit b ≡ true → b < 128
digit_below b e = omega (arith, range_below 48 57 b e)

letter_below : (b : ℕ) → is_letter b ≡ true → b < 128
letter_below b = or_eq b 95 128 (is_in_range 65 90 b || is_in_range 97 122 b) (omega arith)
    (λ e. elim (or_cases (is_in_range 65 90 b) (is_in_range 97 122 b) e) [ inl x ↦ omega (arith, range_below 65 90 b x) | inr x ↦ omega (arith, range_below 97 122 b x) ])

word_byte_below : (b : ℕ) → is_word_byte b ≡ true → b < 128
word_byte_below b e = elim (or_cases (is_letter b) (is_digit b) e) [ inl x ↦ letter_below b x | inr x ↦ digit_below b x ]

eq_below : (b k : ℕ) → (b == k) ≡ true → k < 128 → b < 128
eq_below b k e h = omega (arith, eqb-true b k e)

last_below : (b : ℕ) → (b == 45) ≡ true → b < 128
last_below b e = eq_below b 45 e (omega arith)

symbol_below : (b : ℕ) → is_symbol_byte b ≡ true → b < 128
symbol_below b =
    eq_or b 40 128 _ (omega arith) (eq_or b 41 128 _ (omega arith) (eq_or b 44 128 _ (omega arith) (eq_or b 59 128 _ (omega arith)
    (eq_or b 46 128 _ (omega arith) (eq_or b 42 128 _ (omega arith) (eq_or b 61 128 _ (omega arith) (eq_or b 60 128 _ (omega arith)
    (eq_or b 62 128 _ (omega arith) (eq_or b 43 128 _ (omega arith) (last_below b))))))))))

pub none_some : (n : ℕ) → None ≡ Some n → ⊥
none_some n e = cc

-- ---- the end of a front

after_ascii : (bytes : List ℕ) (n : ℕ) → IsUtf8 bytes → n < length bytes → get_or bytes n 0 < 128 → (0 < 1 + n) × IsCharBoundary bytes (1 + n)
after_ascii bytes n utf8 h low =
    let e : n + 1 ≡ 1 + n = omega arith in
    (omega arith, subst (IsCharBoundary bytes) e (IsCharBoundary-after_ascii bytes n utf8 h low))

prefix_last : (p : ℕ → Bool) → ((b : ℕ) → p b ≡ true → b < 128) → (b : ℕ) (bytes : List ℕ) → b < 128 → (prefix_len p bytes < length (b ∷ bytes)) × (get_or (b ∷ bytes) (prefix_len p bytes) 0 < 128)
prefix_last p low b [] h = (omega arith, h)
prefix_last p low b (c ∷ bytes) h =
    elim (cases_Bool (p c)) [
      | inl e ↦ let k = prefix_last p low c bytes (low c e) in
          let one : prefix_len p (c ∷ bytes) ≡ suc (prefix_len p bytes) = rw e (omega arith) in rw one (omega (arith, k.0), k.1)
      | inr e ↦ rw e (omega arith, h)
    ]

comment_last : (b : ℕ) (bytes : List ℕ) → ((length (take_through 10 bytes) < length (b ∷ bytes)) × (get_or (b ∷ bytes) (length (take_through 10 bytes)) 0 ≡ 10)) ⊎ (length (take_through 10 bytes) ≡ length bytes)
comment_last b [] = inr refl
comment_last b (c ∷ bytes) =
    elim (cases_Bool (c == 10)) [
      | inl e ↦ rw e (inl (omega arith, eqb-true c 10 e))
      | inr e ↦ rw e (elim (comment_last c bytes) [ inl k ↦ inl (omega (arith, k.0), k.1) | inr k ↦ inr (ap suc k) ])
    ]

pub longer_some : (i n : ℕ) (o : Option ℕ) → longer i o ≡ Some n → (m : ℕ) × (o ≡ Some m) × (i + m ≡ n)
longer_some i n None e = absurd cc
longer_some i n (Some m) e = (m, refl, cc)

-- the byte before the end of a text is a quote
abbrev Closed : List ℕ → ℕ → Type 0
Closed bytes n = (0 < n) × (n ≤ length bytes) × (get_or bytes (n - 1) 0 ≡ 39)

closed_more : (b : ℕ) (bytes : List ℕ) (m : ℕ) → Closed bytes m → Closed (b ∷ bytes) (1 + m)
closed_more b bytes m h =
    let e : 1 + m - 1 ≡ suc (m - 1) = omega (arith, h.0) in
    (omega arith, omega (arith, h.1), rw e h.2)

pub some_same : (m n : ℕ) → Some m ≡ Some n → m ≡ n
some_same m n e = cc

quoted_last : (bytes : List ℕ) (n : ℕ) → quoted_size bytes ≡ Some n → Closed bytes n
unfolding quoted_size
quoted_last [] n e = absurd cc
quoted_last (b ∷ []) n e =
    elim (cases_Bool (b == 39)) [
      | inl h ↦ subst (Closed (b ∷ [])) (some_same 1 n (rw h at e)) (omega arith, omega arith, eqb-true b 39 h)
      | inr h ↦ absurd (none_some n (rw h at e))
    ]
quoted_last (b ∷ c ∷ bytes) n e =
    elim (cases_Bool (b == 39)) [
      | inl h ↦
          let f = rw h at e in
          elim (cases_Bool (c == 39)) [
            | inl k ↦
                let m = longer_some 2 n (quoted_size bytes) (rw k at f) in
                let e2 : 1 + (1 + m.0) ≡ n = omega (arith, m.2) in
                subst (Closed (b ∷ c ∷ bytes)) e2 (closed_more b (c ∷ bytes) (1 + m.0) (closed_more c bytes m.0 (quoted_last bytes m.0 m.1)))
            | inr k ↦ subst (Closed (b ∷ c ∷ bytes)) (some_same 1 n (rw k at f)) (omega arith, omega arith, eqb-true b 39 h)
          ]
      | inr h ↦
          let m = longer_some 1 n (quoted_size (c ∷ bytes)) (rw h at e) in
          subst (Closed (b ∷ c ∷ bytes)) m.2 (closed_more b (c ∷ bytes) m.0 (quoted_last (c ∷ bytes) m.0 m.1))
    ]

if_ends : (t : Bool) (p q : Front) (bytes : List ℕ) → (t ≡ true → EndsBetween p bytes) → (t ≡ false → EndsBetween q bytes) → EndsBetween (cond t p q) bytes
if_ends true p q bytes h k = h refl
if_ends false p q bytes h k = k refl

text_ends : (b : ℕ) (bytes : List ℕ) → IsUtf8 (b ∷ bytes) → (o : Option ℕ) → quoted_size bytes ≡ o → EndsBetween (text_of_size (longer 1 o)) (b ∷ bytes)
text_ends b bytes utf8 None e = tt
text_ends b bytes utf8 (Some n) e =
    let c = quoted_last bytes n e in
    let at : get_or (b ∷ bytes) n 0 ≡ 39 = (let k : n ≡ suc (n - 1) = omega (arith, c.0) in ap (λ (i : ℕ). get_or (b ∷ bytes) i 0) k ∙ c.2) in
    after_ascii (b ∷ bytes) n utf8 (omega (arith, c.1)) (omega (arith, at))

-- two bytes come first, of which the second is ASCII
abbrev pub SecondIsAscii : List ℕ → Type 0
SecondIsAscii bytes = (0 < length bytes) × (get_or bytes 0 0 < 128)

pair_of : (k m b : ℕ) (bytes : List ℕ) → m < 128 → starts_with nat_eq (b ∷ bytes) (k ∷ m ∷ []) ≡ true → SecondIsAscii bytes
pair_of k m b [] h e = let f : false ≡ true = (and_parts (nat_eq k b) false e).1 in absurd cc
pair_of k m b (c ∷ bytes) h e =
    let s = and_parts (nat_eq m c) true (and_parts (nat_eq k b) (nat_eq m c && true) e).1 in
    (omega arith, omega (arith, eqb-true m c s.0))

pub pair_second : (b : ℕ) (bytes : List ℕ) → begins_pair (b ∷ bytes) ≡ true → SecondIsAscii bytes
pair_second b bytes e =
    elim (or_cases (begins_with "<>" (b ∷ bytes) || begins_with "<=" (b ∷ bytes)) (begins_with ">=" (b ∷ bytes)) e) [
      | inl h ↦ elim (or_cases (begins_with "<>" (b ∷ bytes)) (begins_with "<=" (b ∷ bytes)) h) [
        | inl k ↦ pair_of 60 62 b bytes (omega arith) k
        | inr k ↦ pair_of 60 61 b bytes (omega arith) k
      ]
      | inr h ↦ pair_of 62 61 b bytes (omega arith) h
    ]

comment_ends : (b : ℕ) (bytes : List ℕ) → IsUtf8 (b ∷ bytes) → (0 < 1 + length (take_through 10 bytes)) × IsCharBoundary (b ∷ bytes) (1 + length (take_through 10 bytes))
comment_ends b bytes utf8 =
    elim (comment_last b bytes) [
      | inl h ↦ after_ascii (b ∷ bytes) (length (take_through 10 bytes)) utf8 h.0 (omega (arith, h.1))
      | inr h ↦
          let e : length (b ∷ bytes) ≡ 1 + length (take_through 10 bytes) = omega (arith, h) in
          (omega arith, subst (IsCharBoundary (b ∷ bytes)) e (IsCharBoundary-end (b ∷ bytes)))
    ]

-- the first lexeme of a text is not empty, and ends between two characters
pub front_ends : (bytes : List ℕ) → IsUtf8 bytes → EndsBetween (first_lexeme bytes) bytes
unfolding first_lexeme
front_ends [] utf8 = tt
front_ends (b ∷ bytes) utf8 =
    if_ends (is_blank b) _ _ (b ∷ bytes) (λ e. after_ascii (b ∷ bytes) 0 utf8 (omega arith) (blank_below b e)) (λ e1.
    if_ends (begins_with "--" (b ∷ bytes)) _ _ (b ∷ bytes) (λ e. comment_ends b bytes utf8) (λ e2.
    if_ends (is_letter b) _ _ (b ∷ bytes) (λ e. let k = prefix_last is_word_byte word_byte_below b bytes (letter_below b e) in after_ascii (b ∷ bytes) (prefix_len is_word_byte bytes) utf8 k.0 k.1) (λ e3.
    if_ends (is_digit b) _ _ (b ∷ bytes) (λ e. let k = prefix_last is_digit digit_below b bytes (digit_below b e) in after_ascii (b ∷ bytes) (prefix_len is_digit bytes) utf8 k.0 k.1) (λ e4.
    if_ends (b == 39) _ _ (b ∷ bytes) (λ e. text_ends b bytes utf8 (quoted_size bytes) refl) (λ e5.
    if_ends (begins_pair (b ∷ bytes)) _ _ (b ∷ bytes) (λ e. let k = pair_second b bytes e in after_ascii (b ∷ bytes) 1 utf8 (omega (arith, k.0)) k.1) (λ e6.
    if_ends (is_symbol_byte b) _ _ (b ∷ bytes) (λ e. after_ascii (b ∷ bytes) 0 utf8 (omega arith) (symbol_below b e)) (λ e7. tt)))))))

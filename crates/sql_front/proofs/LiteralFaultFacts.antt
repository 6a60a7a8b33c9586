-- The tests for faulty literals find one if and only if there is one.
use Rattle.std.proofs.Common.{◌≡◌, ℕ, ℤ, ◌<◌, Bool, true, false, cond, nat_lt, List, [], ◌∷◌, ◌++◌, length, Option, Some, None, refl, sym, ap, subst, ◌∙◌, ◌&&◌, ◌||◌, ◌↔◌, inl, inr, arith, rules, codes}
use Rattle.std.specs.Prelude.{IsSome, IsTrue, is_none, ◌+◌}
use Rattle.std.proofs.lemmas.Bool.{and_parts, or_cases}
use Rattle.std.proofs.lemmas.Bool.Decides.{nat_tests}
use Rattle.sql_statements.specs.declared.token.Token.{Token}
use Rattle.sql_statements.specs.Lexemes.{Lexeme, lexemes}
use Rattle.sql_front.specs.Language.{keyword, symbol, number, text, or_test}
use Rattle.sql_front.specs.LiteralValues.{IsClockToken, IsDateToken, IsMomentToken, number_of_digits}
use Rattle.period_core.specs.Encoding.{greatest_number}
use Rattle.sql_front.specs.reading.LeafValues.{clock_of_token, day_of_token, moment_of_token}
use Rattle.sql_front.specs.LiteralFaults.{HasBadDate, HasBadMoment, HasNoMoment, HasNumberOutside, HasOpenEnd, ends_in_minus, limit_after}
use Rattle.sql_front.specs.LiteralTests.{is_above, is_bad_date, is_bad_moment, is_no_moment, is_open_end, is_unread, names_none, number_above, somewhere}
use Rattle.sql_front.proofs.TokenFacts.{clock_there, day_there, moment_there}

or_left : (x y : Bool) → x ≡ true → (x || y) ≡ true
or_left true y e = refl
or_left false y e = absurd cc

or_right : (x y : Bool) → y ≡ true → (x || y) ≡ true
or_right true y e = refl
or_right false y e = e

both : (a b : Bool) → a ≡ true → b ≡ true → (a && b) ≡ true
both true b e f = f
both false b e f = absurd cc

-- ---- somewhere

somewhere_found : (test : Lexeme → List Lexeme → Bool) (ts : List Lexeme) → somewhere test ts ≡ true
    → (front : List Lexeme) × (t : Lexeme) × (rest : List Lexeme) × (ts ≡ front ++ t ∷ rest) × (test t rest ≡ true)
somewhere_found test [] e = absurd cc
somewhere_found test (t ∷ rest) e = elim (or_cases (test t rest) (somewhere test rest) e) [
  | inl h ↦ ([], t, rest, refl, h)
  | inr h ↦ let k = somewhere_found test rest h in (t ∷ k.0, k.1, k.2, ap (λ (z : List Lexeme). t ∷ z) k.3, k.4)
]

somewhere_here : (test : Lexeme → List Lexeme → Bool) (front : List Lexeme) (t : Lexeme) (rest : List Lexeme) → test t rest ≡ true → somewhere test (front ++ t ∷ rest) ≡ true
somewhere_here test [] t rest e = or_left (test t rest) (somewhere test rest) e
somewhere_here test (s ∷ front) t rest e = or_right (test s (front ++ t ∷ rest)) (somewhere test (front ++ t ∷ rest)) (somewhere_here test front t rest e)

-- ---- literals that name nothing

abbrev nothing : Option ℤ
nothing = None

not_some : IsSome nothing → ⊥
not_some s = cc

absent : (o : Option ℤ) (P : Type 0) → IsSome o ↔ P → is_none o ≡ true → P → ⊥
absent (Some n) P i e p = absurd cc
absent None P i e p = not_some (i.1 p)

absent_if : (o : Option ℤ) (P : Type 0) → IsSome o ↔ P → (P → ⊥) → is_none o ≡ true
absent_if (Some n) P i never = absurd (never (i.0 (search rules)))
absent_if None P i never = refl

text_unread : (read : List ℕ → Option ℤ) (b : Bool) (token : List ℕ) → names_none read (cond b (Some token) None) ≡ (b && is_none (read token))
text_unread read true token = refl
text_unread read false token = refl

-- a word and a text after it that names nothing
unread_found : (word : List ℕ) (read : List ℕ → Option ℤ) (Named : List ℕ → Type 0) → ((x : List ℕ) → IsSome (read x) ↔ Named x) → (t : Lexeme) (rest : List Lexeme) → is_unread word read t rest ≡ true
    → (u : Lexeme) × (more : List Lexeme) × (rest ≡ u ∷ more) × (keyword word t ≡ true) × (text u ≡ true) × (Named u.text → ⊥)
unread_found word read Named there t [] e = absurd cc
unread_found word read Named there t (u ∷ more) e =
    let p = and_parts (text u && keyword word t) (is_none (read u.text)) (sym (text_unread read (text u && keyword word t) u.text) ∙ e) in
    let q = and_parts (text u) (keyword word t) p.0 in
    (u, more, refl, q.1, q.0, absent (read u.text) (Named u.text) (there u.text) p.1)

unread_here : (word : List ℕ) (read : List ℕ → Option ℤ) (Named : List ℕ → Type 0) → ((x : List ℕ) → IsSome (read x) ↔ Named x) → (t u : Lexeme) (more : List Lexeme)
    → keyword word t ≡ true → text u ≡ true → (Named u.text → ⊥) → is_unread word read t (u ∷ more) ≡ true
unread_here word read Named there t u more k x never =
    text_unread read (text u && keyword word t) u.text
    ∙ both (text u && keyword word t) (is_none (read u.text)) (both (text u) (keyword word t) x k) (absent_if (read u.text) (Named u.text) (there u.text) never)

-- ---- dates

-- the test for a bad date finds one if and only if the tokens have one
pub bad_date_somewhere : (ts : List Lexeme) → somewhere is_bad_date ts ≡ true ↔ HasBadDate ts
bad_date_somewhere ts = (
  λ e.
      let h = somewhere_found is_bad_date ts e in
      let k = unread_found (codes "DATE") day_of_token IsDateToken day_there h.1 h.2 h.4 in
      (h.0, h.1, k.0, k.1, h.3 ∙ ap (λ (z : List Lexeme). h.0 ++ h.1 ∷ z) k.2, (k.3, k.4, k.5)),
  λ h.
      let (front, word, token, rest, at, is) = h in
      ap (somewhere is_bad_date) at ∙ somewhere_here is_bad_date front word (token ∷ rest) (unread_here (codes "DATE") day_of_token IsDateToken day_there word token rest h.5.0 h.5.1 h.5.2),
)

-- ---- moments

no_moment_here : (ts : List Lexeme) → HasNoMoment ts → somewhere is_bad_moment ts ≡ true
no_moment_here ts h =
    ap (somewhere is_bad_moment) h.4
    ∙ somewhere_here is_bad_moment h.0 h.1 (h.2 ∷ h.3)
    (or_left (is_no_moment h.1 (h.2 ∷ h.3)) (is_open_end h.1 (h.2 ∷ h.3))
    (unread_here (codes "TIMESTAMP") moment_of_token IsMomentToken moment_there h.1 h.2 h.3 h.5.0 h.5.1 h.5.2))

open_end_here : (ts : List Lexeme) → HasOpenEnd ts → somewhere is_bad_moment ts ≡ true
open_end_here ts h =
    ap (somewhere is_bad_moment) h.5
    ∙ somewhere_here is_bad_moment h.0 h.1 (h.2 ∷ h.3 ∷ h.4)
    (or_right (is_no_moment h.1 (h.2 ∷ h.3 ∷ h.4)) (is_open_end h.1 (h.2 ∷ h.3 ∷ h.4))
    (both (is_unread (codes "TIMESTAMP") clock_of_token h.2 (h.3 ∷ h.4)) (or_test (keyword (codes "AT")) (keyword (codes "OF")) h.1)
    (unread_here (codes "TIMESTAMP") clock_of_token IsClockToken clock_there h.2 h.3 h.4 h.7 h.8 h.9) h.6))

open_end_found : (front : List Lexeme) (t : Lexeme) (rest ts : List Lexeme) → ts ≡ front ++ t ∷ rest → is_open_end t rest ≡ true → HasOpenEnd ts
open_end_found front t [] ts at e = absurd cc
open_end_found front t (u ∷ rest) ts at e =
    let p = and_parts (is_unread (codes "TIMESTAMP") clock_of_token u rest) (or_test (keyword (codes "AT")) (keyword (codes "OF")) t) e in
    let k = unread_found (codes "TIMESTAMP") clock_of_token IsClockToken clock_there u rest p.0 in
    (front, t, u, k.0, k.1, at ∙ ap (λ (z : List Lexeme). front ++ t ∷ u ∷ z) k.2, p.1, k.3, k.4, k.5)

-- the test for a bad moment finds one if and only if the tokens have one
pub bad_moment_somewhere : (ts : List Lexeme) → somewhere is_bad_moment ts ≡ true ↔ HasBadMoment ts
bad_moment_somewhere ts = (
  λ e.
      let h = somewhere_found is_bad_moment ts e in
      elim (or_cases (is_no_moment h.1 h.2) (is_open_end h.1 h.2) h.4) [
        | inl n ↦
            let k = unread_found (codes "TIMESTAMP") moment_of_token IsMomentToken moment_there h.1 h.2 n in
            inl (h.0, h.1, k.0, k.1, h.3 ∙ ap (λ (z : List Lexeme). h.0 ++ h.1 ∷ z) k.2, (k.3, k.4, k.5))
        | inr o ↦ inr (open_end_found h.0 h.1 h.2 ts h.3 o)
      ],
  λ h. elim h [ inl n ↦ no_moment_here ts n | inr o ↦ open_end_here ts o ],
)

-- ---- numbers

-- whether a minus is last, if one or none stood before
abbrev ends_with : Bool → List Lexeme → Bool
ends_with minus [] = minus
ends_with minus (t ∷ more) = ends_with (symbol (codes "-") t) more

ends_with_more : (minus : Bool) (t : Lexeme) (more : List Lexeme) → ends_with minus (t ∷ more) ≡ ends_in_minus (t ∷ more)
ends_with_more minus t [] = refl
ends_with_more minus t (u ∷ more) = ends_with_more (symbol (codes "-") t) u more

ends_with_is : (front : List Lexeme) → ends_with false front ≡ ends_in_minus front
ends_with_is [] = refl
ends_with_is (t ∷ more) = ends_with_more false t more

number_found : (minus : Bool) (ts : List Lexeme) → number_above minus ts ≡ true
    → (front : List Lexeme) × (t : Lexeme) × (rest : List Lexeme) × (ts ≡ front ++ t ∷ rest) × (is_above (ends_with minus front) t ≡ true)
number_found minus [] e = absurd cc
number_found minus (t ∷ rest) e = elim (or_cases (is_above minus t) (number_above (symbol (codes "-") t) rest) e) [
  | inl h ↦ ([], t, rest, refl, h)
  | inr h ↦ let k = number_found (symbol (codes "-") t) rest h in (t ∷ k.0, k.1, k.2, ap (λ (z : List Lexeme). t ∷ z) k.3, k.4)
]

number_here : (minus : Bool) (front : List Lexeme) (t : Lexeme) (rest : List Lexeme) → is_above (ends_with minus front) t ≡ true → number_above minus (front ++ t ∷ rest) ≡ true
number_here minus [] t rest e = or_left (is_above minus t) (number_above (symbol (codes "-") t) rest) e
number_here minus (s ∷ front) t rest e =
    or_right (is_above minus s) (number_above (symbol (codes "-") s) (front ++ t ∷ rest)) (number_here (symbol (codes "-") s) front t rest e)

lt_is : (a b : ℕ) → nat_lt a b ≡ true → a < b
lt_is a b e = grind (arith, nat_tests, e)

is_lt : (a b : ℕ) → a < b → nat_lt a b ≡ true
is_lt a b h = grind (arith, nat_tests, h)

limit_is : (front : List Lexeme) → cond (ends_with false front) (greatest_number + 1) greatest_number ≡ limit_after front
limit_is front = ap (λ (b : Bool). cond b (greatest_number + 1) greatest_number) (ends_with_is front)

-- the test for a number outside its range finds one if and only if the tokens have one
pub number_somewhere : (ts : List Lexeme) → number_above false ts ≡ true ↔ HasNumberOutside ts
number_somewhere ts = (
  λ e.
      let h = number_found false ts e in
      let p = and_parts (number h.1) (nat_lt (cond (ends_with false h.0) (greatest_number + 1) greatest_number) (number_of_digits h.1.text)) h.4 in
      (h.0, h.1, h.2, h.3, p.0, subst (λ (n : ℕ). n < number_of_digits h.1.text) (limit_is h.0) (lt_is _ _ p.1)),
  λ h.
      ap (number_above false) h.3
      ∙ number_here false h.0 h.1 h.2
      (both (number h.1) (nat_lt (cond (ends_with false h.0) (greatest_number + 1) greatest_number) (number_of_digits h.1.text)) h.4
      (is_lt _ _ (subst (λ (n : ℕ). n < number_of_digits h.1.text) (sym (limit_is h.0)) h.5))),
)

-- ---- the pass over the tokens

pub none_left : (test : Lexeme → List Lexeme → Bool) (rest : List Token) → length rest < 1 → somewhere test (lexemes rest) ≡ false
none_left test [] short = refl
none_left test (t ∷ rest) short = absurd (omega arith)

pub none_above : (minus : Bool) (rest : List Token) → length rest < 1 → number_above minus (lexemes rest) ≡ false
none_above minus [] short = refl
none_above minus (t ∷ rest) short = absurd (omega arith)

-- a test of all tokens is what was seen of it, if none are left
pub all_seen : {D : Type 0} (test seen left : Bool) → test ≡ true ↔ D → test ≡ (seen || left) → left ≡ false → IsTrue seen ↔ D
all_seen test true left i e f = (λ s. i.0 e, λ d. refl)
all_seen test false left i e f = (λ s. absurd cc, λ d. sym (sym (i.1 d) ∙ e ∙ f))

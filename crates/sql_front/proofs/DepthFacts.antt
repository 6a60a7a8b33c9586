-- Parentheses, counted token by token.
use Rattle.std.proofs.Common.{◌≡◌, ℕ, zero, suc, ◌+◌, ◌≤◌, ◌<◌, Bool, true, false, List, [], ◌∷◌, ◌++◌, ◌||◌, length, Option, Some, None, refl, sym, ap, ◌∙◌, arith, inl, inr, ◌↔◌, codes, ◌-◌}
use Rattle.std.proofs.lemmas.Bool.{cases_Bool}
use Rattle.std.specs.Prelude.{IsTrue, is_none}
use Rattle.sql_statements.specs.declared.token.Token.{Token}
use Rattle.sql_statements.specs.Lexemes.{Lexeme, lexemes}
use Rattle.sql_front.specs.declared.depth.Room.{Room}
use Rattle.sql_front.specs.Depth.{opens, closes, passing_count, most_open, room, is_too_small, IsDeeper}
use Rattle.period_core.proofs.OptionFacts.{none_some}
use Rattle.sql_front.proofs.First.{Apart, symbols_apart}

pub no_room : (t : Lexeme) (y : List Lexeme) → opens t ≡ true → room zero (t ∷ y) ≡ None
unfolding room
no_room t y e = rw e refl

open_not_close : Apart opens closes
open_not_close = symbols_apart (codes "(") (codes ")") refl

pub close_not_open : Apart closes opens
close_not_open = symbols_apart (codes ")") (codes "(") refl

-- ---- too deep by a front of the tokens

down_open : (k : ℕ) (t : Lexeme) (ts : List Lexeme) → opens t ≡ true → room (suc k) (t ∷ ts) ≡ room k ts
unfolding room
down_open k t ts o = rw o refl

down_close : (k : ℕ) (t : Lexeme) (ts : List Lexeme) → opens t ≡ false → closes t ≡ true → room k (t ∷ ts) ≡ room (suc k) ts
unfolding room
down_close zero t ts o c = rw (o, c) refl
down_close (suc k) t ts o c = rw (o, c) refl

down_pass : (k : ℕ) (t : Lexeme) (ts : List Lexeme) → opens t ≡ false → closes t ≡ false → room k (t ∷ ts) ≡ room k ts
unfolding room
down_pass zero t ts o c = rw (o, c) refl
down_pass (suc k) t ts o c = rw (o, c) refl

deeper_here : (t : Lexeme) (ts : List Lexeme) → opens t ≡ true → IsDeeper zero (t ∷ ts)
deeper_here t ts o = (t ∷ [], ts, refl, rw (o, open_not_close.apart t o) (omega arith))

deeper_open : (k : ℕ) (t : Lexeme) (ts : List Lexeme) → opens t ≡ true → IsDeeper k ts → IsDeeper (suc k) (t ∷ ts)
deeper_open k t ts o d = (t ∷ d.0, d.1, ap (λ (z : List Lexeme). t ∷ z) d.2, rw (o, open_not_close.apart t o) (omega (arith, d.3)))

deeper_close : (k : ℕ) (t : Lexeme) (ts : List Lexeme) → opens t ≡ false → closes t ≡ true → IsDeeper (suc k) ts → IsDeeper k (t ∷ ts)
deeper_close k t ts o c d = (t ∷ d.0, d.1, ap (λ (z : List Lexeme). t ∷ z) d.2, rw (o, c) (omega (arith, d.3)))

deeper_pass : (k : ℕ) (t : Lexeme) (ts : List Lexeme) → opens t ≡ false → closes t ≡ false → IsDeeper k ts → IsDeeper k (t ∷ ts)
deeper_pass k t ts o c d = (t ∷ d.0, d.1, ap (λ (z : List Lexeme). t ∷ z) d.2, rw (o, c) d.3)

end_room : (k : ℕ) → room k [] ≡ Some k
unfolding room
end_room zero = refl
end_room (suc k) = refl

pub none_deeper : (k : ℕ) (ts : List Lexeme) → room k ts ≡ None → IsDeeper k ts
none_deeper k [] e = absurd (none_some k (sym e ∙ end_room k))
none_deeper zero (t ∷ ts) e =
    elim (cases_Bool (opens t)) [
      | inl o ↦ deeper_here t ts o
      | inr o ↦ elim (cases_Bool (closes t)) [
        | inl c ↦ deeper_close zero t ts o c (none_deeper 1 ts (sym (down_close zero t ts o c) ∙ e))
        | inr c ↦ deeper_pass zero t ts o c (none_deeper zero ts (sym (down_pass zero t ts o c) ∙ e))
      ]
    ]
none_deeper (suc k) (t ∷ ts) e =
    elim (cases_Bool (opens t)) [
      | inl o ↦ deeper_open k t ts o (none_deeper k ts (sym (down_open k t ts o) ∙ e))
      | inr o ↦ elim (cases_Bool (closes t)) [
        | inl c ↦ deeper_close (suc k) t ts o c (none_deeper (suc (suc k)) ts (sym (down_close (suc k) t ts o c) ∙ e))
        | inr c ↦ deeper_pass (suc k) t ts o c (none_deeper (suc k) ts (sym (down_pass (suc k) t ts o c) ∙ e))
      ]
    ]

abbrev Fits : ℕ → List Lexeme → Type 0
Fits k front = passing_count opens front ≤ k + passing_count closes front

fits_open : (k : ℕ) (t : Lexeme) (front : List Lexeme) → opens t ≡ true → Fits k front → Fits (suc k) (t ∷ front)
fits_open k t front o h = rw (o, open_not_close.apart t o) (omega (arith, h))

fits_close : (k : ℕ) (t : Lexeme) (front : List Lexeme) → opens t ≡ false → closes t ≡ true → Fits (suc k) front → Fits k (t ∷ front)
fits_close k t front o c h = rw (o, c) (omega (arith, h))

fits_pass : (k : ℕ) (t : Lexeme) (front : List Lexeme) → opens t ≡ false → closes t ≡ false → Fits k front → Fits k (t ∷ front)
fits_pass k t front o c h = rw (o, c) h

shallow : (k : ℕ) (front rest : List Lexeme) (j : ℕ) → room k (front ++ rest) ≡ Some j → Fits k front
shallow k [] rest j e = omega arith
shallow zero (t ∷ front) rest j e =
    elim (cases_Bool (opens t)) [
      | inl o ↦ absurd (none_some j (sym (no_room t (front ++ rest) o) ∙ e))
      | inr o ↦ elim (cases_Bool (closes t)) [
        | inl c ↦ fits_close zero t front o c (shallow 1 front rest j (sym (down_close zero t (front ++ rest) o c) ∙ e))
        | inr c ↦ fits_pass zero t front o c (shallow zero front rest j (sym (down_pass zero t (front ++ rest) o c) ∙ e))
      ]
    ]
shallow (suc k) (t ∷ front) rest j e =
    elim (cases_Bool (opens t)) [
      | inl o ↦ fits_open k t front o (shallow k front rest j (sym (down_open k t (front ++ rest) o) ∙ e))
      | inr o ↦ elim (cases_Bool (closes t)) [
        | inl c ↦ fits_close (suc k) t front o c (shallow (suc (suc k)) front rest j (sym (down_close (suc k) t (front ++ rest) o c) ∙ e))
        | inr c ↦ fits_pass (suc k) t front o c (shallow (suc k) front rest j (sym (down_pass (suc k) t (front ++ rest) o c) ∙ e))
      ]
    ]

-- tokens within the room for parentheses are not too deep
pub some_shallow : (k : ℕ) (ts : List Lexeme) (j : ℕ) → room k ts ≡ Some j → IsDeeper k ts → ⊥
some_shallow k ts j e d = absurd (omega (arith, d.3, shallow k d.0 d.1 j (ap (room k) (sym d.2) ∙ e)))

-- ---- the count, token by token

pub room_opens : (k : ℕ) (t : Lexeme) (ts : List Lexeme) → 0 < k → true ≡ opens t → room k (t ∷ ts) ≡ room (k - 1) ts
unfolding room
room_opens zero t ts h e = absurd (omega arith)
room_opens (suc k) t ts h e = rw (← e) (let same : k ≡ suc k - 1 = omega arith in ap (λ (i : ℕ). room i ts) same)

pub room_none : (k : ℕ) (t : Lexeme) (ts : List Lexeme) → k ≡ 0 → true ≡ opens t → room k (t ∷ ts) ≡ None
room_none k t ts h e = ap (λ (i : ℕ). room i (t ∷ ts)) h ∙ no_room t ts (sym e)

pub room_closes : (k : ℕ) (t : Lexeme) (ts : List Lexeme) → false ≡ opens t → true ≡ closes t → room k (t ∷ ts) ≡ room (k + 1) ts
unfolding room
room_closes zero t ts e f = rw (← e, ← f) refl
room_closes (suc k) t ts e f = rw (← e, ← f) (let same : suc (suc k) ≡ suc k + 1 = omega arith in ap (λ (i : ℕ). room i ts) same)

pub room_passes : (k : ℕ) (t : Lexeme) (ts : List Lexeme) → false ≡ opens t → false ≡ closes t → room k (t ∷ ts) ≡ room k ts
unfolding room
room_passes zero t ts e f = rw (← e, ← f) refl
room_passes (suc k) t ts e f = rw (← e, ← f) refl

pub room_end : (k : ℕ) → room k [] ≡ Some k
unfolding room
room_end zero = refl
room_end (suc k) = refl

-- the room is too small if nothing is left of it, whether it was exceeded before or not
pub too_small : (exceeded : Bool) (o : Option ℕ) → o ≡ None → true ≡ (exceeded || is_none o)
too_small true o e = refl
too_small false o e = ap is_none (sym e)

-- if no tokens are left, the depth is exceeded only if it was before
pub no_more : (exceeded : Bool) (k : ℕ) → exceeded ≡ (exceeded || is_none (room k []))
no_more true k = refl
no_more false k = ap is_none (sym (room_end k))

-- a list of less than one token is empty
pub none_left : (r : Room) (rest : List Token) → length rest < 1 → is_too_small r [] ≡ is_too_small r (lexemes rest)
none_left r [] short = refl
none_left r (t ∷ rest) short = absurd (omega arith)

no_true : IsTrue false → ⊥
no_true e = cc

by_result : (ts : List Lexeme) (r : Bool) (o : Option ℕ) → room most_open ts ≡ o → r ≡ is_none (room most_open ts) → IsTrue r ↔ IsDeeper most_open ts
by_result ts r None e f =
    let holds : r ≡ true = f ∙ ap is_none e in
    (λ t. none_deeper 32 ts e, λ d. holds)
by_result ts r (Some j) e f =
    let fails : r ≡ false = f ∙ ap is_none e in
    (λ t. absurd (no_true (sym fails ∙ t)), λ d. absurd (some_shallow 32 ts j e d))

pub deep_if : (ts : List Lexeme) (r : Bool) → r ≡ is_none (room most_open ts) → IsTrue r ↔ IsDeeper most_open ts
deep_if ts r e = by_result ts r (room most_open ts) refl e

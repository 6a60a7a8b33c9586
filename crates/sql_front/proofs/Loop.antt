-- Reading a list with separators, as a loop does.
use Rattle.std.proofs.Common.{◌≡◌, ℕ, zero, suc, ◌≤◌, ◌<◌, Bool, true, false, List, [], ◌∷◌, ◌++◌, length, Option, Some, None, refl, sym, ap, ◌∙◌, append_assoc, arith, inl, inr}
use Rattle.std.proofs.lemmas.List.{append-nil}
use Rattle.sql_front.specs.declared.read_error.ReadError.{ReadError}
use Rattle.sql_front.specs.declared.read_error.ReadError.TheVariants as error
use Rattle.sql_statements.specs.Lexemes.{Lexeme}
use Rattle.sql_front.specs.reading.Gives.{Fails}
use Rattle.period_core.specs.TextReading.{◌>>=◌}
use Rattle.sql_front.specs.reading.Reading.{Reader, fixed_read, begins, bounded_read, repetition_read, preceded_read, separated_read}
use Rattle.period_core.proofs.OptionFacts.{if_some, none_some, some_is}

module _ {A : Type 0} (sep : Lexeme → Bool) (q : Reader A) where
  abbrev pub left : ℕ → Reader (List A)
  left n ts = bounded_read (begins sep) (preceded_read sep q) n ts

abbrev pub with_front : {A : Type 0} → List A → Option (List A × List Lexeme) → Option (List A × List Lexeme)
with_front front read = read >>= λ x. Some (front ++ x.0, x.1)

-- the items that were read, and the tokens that are left to read, make the whole
pub record Goes {A : Type 0} (sep : Lexeme → Bool) (q : Reader A) (front : List A) (rest : List Lexeme) (whole : Option (List A × List Lexeme)) : Type 0 where
  pub count : ℕ
  pub enough : length rest ≤ count
  pub makes : with_front front (left sep q count rest) ≡ whole

regroup : {A : Type 0} (front : List A) (n : A) (read : Option (List A × List Lexeme)) → with_front front (read >>= λ x. Some (n ∷ x.0, x.1)) ≡ with_front (front ++ n ∷ []) read
regroup {A} front n (Some x) = ap (λ (ns : List A). Some (ns, x.1)) (simp append_assoc)
regroup front n None = refl

first_front : {A : Type 0} (a : A) (read : Option (List A × List Lexeme)) → with_front (a ∷ []) read ≡ ((read >>= λ y. Some ((a, y.0), y.1)) >>= λ (x : (A × List A) × List Lexeme). Some (x.0.0 ∷ x.0.1, x.1))
first_front a (Some x) = refl
first_front a None = refl

the_shorter : (sep : Lexeme → Bool) (ts : List Lexeme) (u : Unit {0}) (after : List Lexeme) → fixed_read sep ts ≡ Some (u, after) → suc (length after) ≡ length ts
the_shorter sep [] u after e = absurd cc
the_shorter sep (t ∷ ts) u after e =
    elim (if_some (sep t) (Some (tt, ts)) None (u, after) e) [
      | inl h ↦ let same : ts ≡ after = ap (λ (p : Unit {0} × List Lexeme). p.1) (some_is (tt, ts) (u, after) h.1) in ap suc (ap length (sym same))
      | inr h ↦ absurd (none_some (u, after) h.1)
    ]

module _ {A : Type 0} (sep : Lexeme → Bool) (q : Reader A) where
  pub goes_first : (ts : List Lexeme) (a : A) (rest : List Lexeme) → q ts ≡ Some (a, rest) → Goes sep q (a ∷ []) rest (separated_read sep q ts)
  goes_first ts a rest e = record { count = length rest; enough = omega arith; makes = rw e (first_front a (left sep q (length rest) rest)) }

  goes_by : (n : ℕ) (front : List A) (rest between after : List Lexeme) (x : A) (whole : Option (List A × List Lexeme)) → begins sep rest ≡ true → fixed_read sep rest ≡ Some (tt, between) → q between ≡ Some (x, after) → length after ≤ length between
      → length rest ≤ n → with_front front (left sep q n rest) ≡ whole → Goes sep q (front ++ x ∷ []) after whole
  unfolding bounded_read
  goes_by zero front rest between after x whole starts e f less fits so_far = absurd (omega (arith, the_shorter sep rest tt between e))
  goes_by (suc n) front rest between after x whole starts e f less fits so_far =
      let one : with_front front (left sep q (suc n) rest) ≡ with_front (front ++ x ∷ []) (left sep q n after) = rw (starts, e, f) (regroup front x (left sep q n after)) in
      record { count = n; enough = omega (arith, the_shorter sep rest tt between e); makes = sym one ∙ so_far }

  pub goes_on : (front : List A) (rest between after : List Lexeme) (x : A) (whole : Option (List A × List Lexeme)) → begins sep rest ≡ true → fixed_read sep rest ≡ Some (tt, between) → q between ≡ Some (x, after) → length after ≤ length between
      → Goes sep q front rest whole → Goes sep q (front ++ x ∷ []) after whole
  goes_on front rest between after x whole starts e f less g = goes_by g.count front rest between after x whole starts e f less g.enough g.makes

  stops_by : (n : ℕ) (front : List A) (rest : List Lexeme) (whole : Option (List A × List Lexeme)) → begins sep rest ≡ false → with_front front (left sep q n rest) ≡ whole → whole ≡ Some (front, rest)
  unfolding bounded_read
  stops_by zero front rest whole ended so_far = sym so_far ∙ ap (λ (v : List A). Some (v, rest)) (append-nil front)
  stops_by (suc n) front rest whole ended so_far =
      let one : with_front front (left sep q (suc n) rest) ≡ Some (front, rest) = rw ended (ap (λ (v : List A). Some (v, rest)) (append-nil front)) in
      sym so_far ∙ one

  pub stops : (front : List A) (rest : List Lexeme) (whole : Option (List A × List Lexeme)) → begins sep rest ≡ false → Goes sep q front rest whole → whole ≡ Some (front, rest)
  stops front rest whole ended g = stops_by g.count front rest whole ended g.makes

  fails_by : (n : ℕ) (front : List A) (rest between : List Lexeme) (whole : Option (List A × List Lexeme)) → begins sep rest ≡ true → fixed_read sep rest ≡ Some (tt, between) → q between ≡ None
      → length rest ≤ n → with_front front (left sep q n rest) ≡ whole → whole ≡ None
  unfolding bounded_read
  fails_by zero front rest between whole starts e f fits so_far = absurd (omega (arith, the_shorter sep rest tt between e))
  fails_by (suc n) front rest between whole starts e f fits so_far =
      let one : with_front front (left sep q (suc n) rest) ≡ None = rw (starts, e, f) refl in
      sym so_far ∙ one

  -- if an item fails, the whole does
  pub fails : (fault : ReadError) (front : List A) (rest between : List Lexeme) (whole : Option (List A × List Lexeme)) → begins sep rest ≡ true → fixed_read sep rest ≡ Some (tt, between) → Fails fault (q between)
      → Goes sep q front rest whole → Fails fault whole
  fails error.Memory front rest between whole starts e f g = tt
  fails error.Syntax front rest between whole starts e f g = fails_by g.count front rest between whole starts e f g.enough g.makes

-- ---- repetition with no separator

-- the items that were read, and the tokens that are left to read, make the whole
pub record Going {A : Type 0} (d : List Lexeme → Bool) (p : Reader A) (front : List A) (rest : List Lexeme) (whole : Option (List A × List Lexeme)) : Type 0 where
  pub count : ℕ
  pub enough : length rest ≤ count
  pub makes : with_front front (bounded_read d p count rest) ≡ whole

no_front : {A : Type 0} (read : Option (List A × List Lexeme)) → with_front [] read ≡ read
no_front (Some x) = refl
no_front None = refl

module _ {A : Type 0} (d : List Lexeme → Bool) (p : Reader A) where
  pub going_first : (ts : List Lexeme) → Going d p [] ts (repetition_read d p ts)
  going_first ts = record { count = length ts; enough = omega arith; makes = no_front (bounded_read d p (length ts) ts) }

  going_by : (n : ℕ) (front : List A) (rest after : List Lexeme) (x : A) (whole : Option (List A × List Lexeme)) → d rest ≡ true → p rest ≡ Some (x, after) → length after < length rest
      → length rest ≤ n → with_front front (bounded_read d p n rest) ≡ whole → Going d p (front ++ x ∷ []) after whole
  unfolding bounded_read
  going_by zero front rest after x whole goes e less fits so_far = absurd (omega arith)
  going_by (suc n) front rest after x whole goes e less fits so_far =
      let one : with_front front (bounded_read d p (suc n) rest) ≡ with_front (front ++ x ∷ []) (bounded_read d p n after) = rw (goes, e) (regroup front x (bounded_read d p n after)) in
      record { count = n; enough = omega arith; makes = sym one ∙ so_far }

  pub going_on : (front : List A) (rest after : List Lexeme) (x : A) (whole : Option (List A × List Lexeme)) → d rest ≡ true → p rest ≡ Some (x, after) → length after < length rest → Going d p front rest whole → Going d p (front ++ x ∷ []) after whole
  going_on front rest after x whole goes e less g = going_by g.count front rest after x whole goes e less g.enough g.makes

  going_stops_by : (n : ℕ) (front : List A) (rest : List Lexeme) (whole : Option (List A × List Lexeme)) → d rest ≡ false → with_front front (bounded_read d p n rest) ≡ whole → whole ≡ Some (front, rest)
  unfolding bounded_read
  going_stops_by zero front rest whole ended so_far = sym so_far ∙ ap (λ (v : List A). Some (v, rest)) (append-nil front)
  going_stops_by (suc n) front rest whole ended so_far =
      let one : with_front front (bounded_read d p (suc n) rest) ≡ Some (front, rest) = rw ended (ap (λ (v : List A). Some (v, rest)) (append-nil front)) in
      sym so_far ∙ one

  pub going_stops : (front : List A) (rest : List Lexeme) (whole : Option (List A × List Lexeme)) → d rest ≡ false → Going d p front rest whole → whole ≡ Some (front, rest)
  going_stops front rest whole ended g = going_stops_by g.count front rest whole ended g.makes

  some_tokens : (rest : List Lexeme) (n : ℕ) → 0 < length rest → length rest ≤ n → 0 < n
  some_tokens rest n e f = omega arith

  going_fails_by : (n : ℕ) (front : List A) (rest : List Lexeme) (whole : Option (List A × List Lexeme)) → d rest ≡ true → p rest ≡ None → 0 < n → with_front front (bounded_read d p n rest) ≡ whole → whole ≡ None
  unfolding bounded_read
  going_fails_by zero front rest whole goes e fits so_far = absurd (omega arith)
  going_fails_by (suc n) front rest whole goes e fits so_far =
      let one : with_front front (bounded_read d p (suc n) rest) ≡ None = rw (goes, e) refl in
      sym so_far ∙ one

  -- if an item fails, the whole does
  pub going_fails : (fault : ReadError) (front : List A) (rest : List Lexeme) (whole : Option (List A × List Lexeme)) → d rest ≡ true → 0 < length rest → Fails fault (p rest) → Going d p front rest whole → Fails fault whole
  going_fails error.Memory front rest whole goes some e g = tt
  going_fails error.Syntax front rest whole goes some e g = going_fails_by g.count front rest whole goes e (some_tokens rest g.count some g.enough) g.makes

-- a list that begins with a token that passes is not empty
pub begins_some : (test : Lexeme → Bool) (rest : List Lexeme) → begins test rest ≡ true → 0 < length rest
begins_some test [] e = absurd cc
begins_some test (t ∷ rest) e = omega arith

-- fixed_read separator that begins the rest is skipped
pub no_fail : (sep : Lexeme → Bool) (fault : ReadError) (rest : List Lexeme) → begins sep rest ≡ true → Fails fault (fixed_read sep rest) → fault ≡ error.Memory
no_fail sep error.Memory rest starts e = refl
no_fail sep error.Syntax [] starts e = absurd cc
no_fail sep error.Syntax (t ∷ rest) starts e = absurd (none_some (tt {0}, rest) (sym e ∙ rw starts refl))

-- a function of a reading that fails, fails
pub mapped_fails : {A B : Type 0} (f : A → B) (fault : ReadError) (read : Option (A × List Lexeme)) → Fails fault read → Fails {Y = B × List Lexeme} fault (read >>= λ x. Some (f x.0, x.1))
mapped_fails f error.Memory read h = tt
mapped_fails f error.Syntax read h = rw h refl

-- A language of all of the tokens: a value is read if and only if they spell it.
use Rattle.std.proofs.Common.{◌≡◌, List, [], ◌∷◌, ◌++◌, Result, Ok, Err, Some, refl, sym, ap, subst, ◌∙◌}
use Rattle.std.specs.Prelude.{IfOk}
use Rattle.std.proofs.lemmas.List.{append-nil}
use Rattle.sql_front.specs.declared.read_error.ReadError.{ReadError}
use Rattle.sql_front.specs.declared.read_error.ReadError.TheVariants as error
use Rattle.sql_statements.specs.Lexemes.{Lexeme}
use Rattle.sql_front.specs.reading.Gives.{Gives}
use Rattle.sql_front.specs.reading.Reading.{Reader, nothing_after, whole_read}
use Rattle.period_core.proofs.OptionFacts.{bind_some, none_some, some_is}
use Rattle.sql_front.proofs.Laws.{Reads}

ended : {A : Type 0} (x : A × List Lexeme) (a : A) → nothing_after x ≡ Some a → (x.1 ≡ []) × (x.0 ≡ a)
ended (v, []) a e = (refl, some_is v a e)
ended (v, t ∷ more) a e = absurd (none_some a e)

module _ {A : Type 0} {L : List Lexeme → A → Type 0} {F : List Lexeme → Type 0} {p : Reader A} (r : Reads L F p) where
  pub whole_found : (ts : List Lexeme) (a : A) → whole_read p ts ≡ Some a → L ts a
  whole_found ts a e =
      let b = bind_some (p ts) nothing_after a e in
      let h = ended b.0 a b.2 in
      let k = r.found ts b.0 b.1 in
      let whole : ts ≡ k.0 = k.1 ∙ ap (λ (z : List Lexeme). k.0 ++ z) h.0 ∙ append-nil k.0 in
      subst (λ (z : List Lexeme). L z a) (sym whole) (subst (λ (v : A). L k.0 v) h.1 k.2)

  pub whole_again : F [] → (ts : List Lexeme) (a : A) → L ts a → whole_read p ts ≡ Some a
  whole_again stop ts a h =
      let e : p ts ≡ Some (a, []) = ap p (sym (append-nil ts)) ∙ r.again ts a [] h stop in
      rw e refl

  pub is_found : {X : Type 0} (view : X → A) (ts : List Lexeme) (result : Result X ReadError) → Gives view result (whole_read p ts) → IfOk result (λ x. L ts (view x))
  is_found view ts (Ok x) given = whole_found ts (view x) given
  is_found view ts (Err e) given = tt

  pub is_none : {X : Type 0} (view : X → A) → F [] → (ts : List Lexeme) (result : Result X ReadError) → Gives view result (whole_read p ts) → result ≡ Err error.Syntax → (a : A) → L ts a → ⊥
  is_none {X} view stop ts (Ok x) given e a h = absurd cc
  is_none {X} view stop ts (Err error.Memory) given e a h = absurd cc
  is_none {X} view stop ts (Err error.Syntax) given e a h = none_some a (sym given ∙ whole_again stop ts a h)

  -- no list of tokens spells two values of a language
  pub whole_unique : F [] → (ts : List Lexeme) (a b : A) → L ts a → L ts b → a ≡ b
  whole_unique stop ts a b h k = some_is a b (sym (whole_again stop ts a h) ∙ whole_again stop ts b k)

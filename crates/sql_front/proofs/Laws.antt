-- Each way of making a language has its way of reading it.
use Rattle.std.proofs.Common.{◌≡◌, ℕ, zero, suc, ◌≤◌, ◌<◌, Bool, true, false, cond, List, [], ◌∷◌, ◌++◌, length, Option, Some, None, refl, sym, ap, subst, ◌∙◌, append_assoc, arith, codes, inl, inr, length-append}
use Rattle.period_core.proofs.OptionFacts.{bind_some, if_some, none_some, some_is}
use Rattle.sql_front.proofs.First.{Apart, Starts, starts_preceded, begins_apart}
use Rattle.sql_statements.specs.Lexemes.{Lexeme}
use Rattle.sql_front.specs.Language.{OneToken, Fixed, Sequence, Built, Choice, Repetition, Optional, Preceded, PrecededOrNot, Denotes, Separated, Enclosed, symbol}
use Rattle.period_core.specs.TextReading.{◌>>=◌}
use Rattle.sql_front.specs.reading.Reading.{Reader, one_read, fixed_read, sequence_read, built_read, begins, choice_read, bounded_read, repetition_read, optional_read, preceded_read, preceded_or_not_read, denotes_read, separated_read, enclosed_read}

-- each text that p reads is of the language, and each of the language is read by p wherever it may
-- be followed so
pub record Reads {A : Type 0} (L : List Lexeme → A → Type 0) (Follow : List Lexeme → Type 0) (p : Reader A) : Type 0 where
  pub found : (ts : List Lexeme) (x : A × List Lexeme) → p ts ≡ Some x → (front : List Lexeme) × (ts ≡ front ++ x.1) × L front x.0
  pub again : (front : List Lexeme) (a : A) (rest : List Lexeme) → L front a → Follow rest → p (front ++ rest) ≡ Some (a, rest)

abbrev pub Any : List Lexeme → Type 0
Any rest = Unit {0}

one_found : (test : Lexeme → Bool) (ts : List Lexeme) (x : List ℕ × List Lexeme) → one_read test ts ≡ Some x → (front : List Lexeme) × (ts ≡ front ++ x.1) × OneToken test front x.0
one_found test [] x e = absurd cc
one_found test (t ∷ rest) x e =
    elim (if_some (test t) (Some (t.text, rest)) None x e) [
      | inl h ↦ subst (λ (y : List ℕ × List Lexeme). (front : List Lexeme) × (t ∷ rest ≡ front ++ y.1) × OneToken test front y.0) (some_is (t.text, rest) x h.1) (t ∷ [], refl, (t, h.0, refl, refl))
      | inr h ↦ absurd (none_some x h.1)
    ]

one_again : (test : Lexeme → Bool) (front : List Lexeme) (a : List ℕ) (rest : List Lexeme) → OneToken test front a → one_read test (front ++ rest) ≡ Some (a, rest)
one_again test front a rest h = rw (h.2, h.1, h.3) refl

pub reads_one : (test : Lexeme → Bool) → Reads (OneToken test) Any (one_read test)
reads_one test = record { found = one_found test; again = λ front a rest h follow. one_again test front a rest h }

fixed_found : (test : Lexeme → Bool) (ts : List Lexeme) (x : Unit {0} × List Lexeme) → fixed_read test ts ≡ Some x → (front : List Lexeme) × (ts ≡ front ++ x.1) × Fixed test front x.0
fixed_found test [] x e = absurd cc
fixed_found test (t ∷ rest) x e =
    elim (if_some (test t) (Some (tt, rest)) None x e) [
      | inl h ↦ subst (λ (y : Unit {0} × List Lexeme). (front : List Lexeme) × (t ∷ rest ≡ front ++ y.1) × Fixed test front y.0) (some_is (tt, rest) x h.1) (t ∷ [], refl, (t, h.0, refl))
      | inr h ↦ absurd (none_some x h.1)
    ]

pub reads_fixed : (test : Lexeme → Bool) → Reads (Fixed test) Any (fixed_read test)
reads_fixed test = record { found = fixed_found test; again = λ front a rest h follow. rw (h.2, h.1) refl }

pub reads_sequence : {A B : Type 0} {L : List Lexeme → A → Type 0} {F : List Lexeme → Type 0} {p : Reader A} {M : List Lexeme → B → Type 0} {G : List Lexeme → Type 0} {q : Reader B}
    → Reads L F p → Reads M G q → ((y : List Lexeme) (b : B) (rest : List Lexeme) → M y b → G rest → F (y ++ rest)) → Reads (Sequence L M) G (sequence_read p q)
reads_sequence {A} {B} {L} {F} {p} {M} {G} {q} r s follows = record {
  found = λ ts v e.
      let a = bind_some (p ts) (λ x. q x.1 >>= λ y. Some ((x.0, y.0), y.1)) v e in
      let b = bind_some (q a.0.1) (λ y. Some ((a.0.0, y.0), y.1)) v a.2 in
      let h = r.found ts a.0 a.1 in
      let k = s.found a.0.1 b.0 b.1 in
      let whole : ts ≡ (h.0 ++ k.0) ++ b.0.1 = h.1 ∙ ap (λ (z : List Lexeme). h.0 ++ z) k.1 ∙ sym (append_assoc h.0 k.0 b.0.1) in
      subst (λ (w : (A × B) × List Lexeme). (front : List Lexeme) × (ts ≡ front ++ w.1) × Sequence L M front w.0) (some_is ((a.0.0, b.0.0), b.0.1) v b.2) (h.0 ++ k.0, whole, (h.0, k.0, refl, h.2, k.2));
  again = λ front v rest h follow.
      let regrouped : front ++ rest ≡ h.0 ++ (h.1 ++ rest) = ap (λ (z : List Lexeme). z ++ rest) h.2 ∙ append_assoc h.0 h.1 rest in
      ap (sequence_read p q) regrouped ∙ rw (r.again h.0 v.0 (h.1 ++ rest) h.3 (follows h.1 v.1 rest h.4 follow), s.again h.1 v.1 rest h.4 follow) refl;
}

-- the first may be followed by anything
pub reads_both : {A B : Type 0} {L : List Lexeme → A → Type 0} {p : Reader A} {M : List Lexeme → B → Type 0} {G : List Lexeme → Type 0} {q : Reader B} → Reads L Any p → Reads M G q → Reads (Sequence L M) G (sequence_read p q)
reads_both r s = reads_sequence r s (λ y b rest h follow. tt)

pub reads_built : {A B : Type 0} (f : A → B) {L : List Lexeme → A → Type 0} {F : List Lexeme → Type 0} {p : Reader A} → Reads L F p → Reads (Built f L) F (built_read f p)
reads_built {A} {B} f {L} {F} {p} r = record {
  found = λ ts v e.
      let a = bind_some (p ts) (λ x. Some (f x.0, x.1)) v e in
      let h = r.found ts a.0 a.1 in
      subst (λ (w : B × List Lexeme). (front : List Lexeme) × (ts ≡ front ++ w.1) × Built f L front w.0) (some_is (f a.0.0, a.0.1) v a.2) (h.0, h.1, (a.0.0, refl, h.2));
  again = λ front v rest h follow. rw (r.again front h.0 rest h.2 follow, h.1) refl;
}

pub reads_decided : {A : Type 0} (d : List Lexeme → Bool) {L : List Lexeme → A → Type 0} {F : List Lexeme → Type 0} {p : Reader A} {M : List Lexeme → A → Type 0} {G : List Lexeme → Type 0} {q : Reader A} → Reads L F p → Reads M G q
    → ((x : List Lexeme) (a : A) (rest : List Lexeme) → L x a → F rest → d (x ++ rest) ≡ true)
    → ((x : List Lexeme) (a : A) (rest : List Lexeme) → M x a → G rest → d (x ++ rest) ≡ false)
    → Reads (Choice L M) (λ rest. F rest × G rest) (choice_read d p q)
reads_decided {A} d {L} {F} {p} {M} {G} {q} r s first second = record {
  found = λ ts v e. elim (if_some (d ts) (p ts) (q ts) v e) [
    | inl h ↦ let k = r.found ts v h.1 in (k.0, k.1, inl k.2)
    | inr h ↦ let k = s.found ts v h.1 in (k.0, k.1, inr k.2)
  ];
  again = λ front v rest h follow. elim h [
    | inl k ↦ rw (first front v rest k follow.0) (r.again front v rest k follow.0)
    | inr k ↦ rw (second front v rest k follow.1) (s.again front v rest k follow.1)
  ];
}

pub reads_weaken : {A : Type 0} {L : List Lexeme → A → Type 0} {F : List Lexeme → Type 0} (G : List Lexeme → Type 0) {p : Reader A} → ((rest : List Lexeme) → G rest → F rest) → Reads L F p → Reads L G p
reads_weaken G less r = record { found = r.found; again = λ front a rest h follow. r.again front a rest h (less rest follow) }

-- the next token decides which of two languages a text is of
pub reads_choice : {A : Type 0} {test other : Lexeme → Bool} {L M : List Lexeme → A → Type 0} {F : List Lexeme → Type 0} {p q : Reader A} → Starts test L → Starts other M → Apart other test → Reads L F p → Reads M F q → Reads (Choice L M) F (choice_read (begins test) p q)
reads_choice {A} {test} {other} {L} {M} {F} {p} {q} s n apart r1 r2 = record {
  found = (reads_decided (begins test) r1 r2 (λ x a rest h f. s.at x a rest h) (λ x a rest h f. begins_apart apart (x ++ rest) (n.at x a rest h))).found;
  again = λ front v rest h f. (reads_decided (begins test) r1 r2 (λ x a rest h f. s.at x a rest h) (λ x a rest h f. begins_apart apart (x ++ rest) (n.at x a rest h))).again front v rest h (f, f);
}

-- ---- repetition

begins_more : {A : Type 0} (L : List Lexeme → A → Type 0) (d : List Lexeme → Bool) (x : List Lexeme) (a : A) (rest : List Lexeme) → ((z : List Lexeme) → d (x ++ z) ≡ true) → d rest ≡ false → 0 < length x
begins_more L d [] a rest h stop = absurd (let e : d rest ≡ true = h rest in cc)
begins_more L d (t ∷ x) a rest h stop = omega arith

module _ {A : Type 0} (d : List Lexeme → Bool) (L : List Lexeme → A → Type 0) (F : List Lexeme → Type 0) (p : Reader A) where
  repetition_found : Reads L F p → (n : ℕ) (ts : List Lexeme) (v : List A × List Lexeme) → bounded_read d p n ts ≡ Some v → (front : List Lexeme) × (ts ≡ front ++ v.1) × Repetition L front v.0
  unfolding bounded_read
  repetition_found r zero ts v e = subst (λ (w : List A × List Lexeme). (front : List Lexeme) × (ts ≡ front ++ w.1) × Repetition L front w.0) (some_is ([], ts) v e) ([], refl, refl)
  repetition_found r (suc n) ts v e =
      elim (if_some (d ts) (p ts >>= λ x. bounded_read d p n x.1 >>= λ y. Some (x.0 ∷ y.0, y.1)) (Some ([], ts)) v e) [
        | inl h ↦
            let a = bind_some (p ts) (λ x. bounded_read d p n x.1 >>= λ y. Some (x.0 ∷ y.0, y.1)) v h.1 in
            let b = bind_some (bounded_read d p n a.0.1) (λ y. Some (a.0.0 ∷ y.0, y.1)) v a.2 in
            let k = r.found ts a.0 a.1 in
            let l = repetition_found r n a.0.1 b.0 b.1 in
            let whole : ts ≡ (k.0 ++ l.0) ++ b.0.1 = k.1 ∙ ap (λ (z : List Lexeme). k.0 ++ z) l.1 ∙ sym (append_assoc k.0 l.0 b.0.1) in
            subst (λ (w : List A × List Lexeme). (front : List Lexeme) × (ts ≡ front ++ w.1) × Repetition L front w.0) (some_is (a.0.0 ∷ b.0.0, b.0.1) v b.2) (k.0 ++ l.0, whole, (k.0, l.0, refl, k.2, l.2))
        | inr h ↦ subst (λ (w : List A × List Lexeme). (front : List Lexeme) × (ts ≡ front ++ w.1) × Repetition L front w.0) (some_is ([], ts) v h.1) ([], refl, refl)
      ]

  after_one : Reads L F p
      → ((x : List Lexeme) (a : A) (z : List Lexeme) → L x a → d (x ++ z) ≡ true)
      → ((z : List Lexeme) → d z ≡ true → F z)
      → (y : List Lexeme) (v : List A) (rest : List Lexeme) → Repetition L y v → F rest → d rest ≡ false → F (y ++ rest)
  after_one r starts next y [] rest h follow stop = rw h follow
  after_one r starts next y (a ∷ v) rest h follow stop =
      let regrouped : y ++ rest ≡ h.0 ++ (h.1 ++ rest) = ap (λ (z : List Lexeme). z ++ rest) h.2 ∙ append_assoc h.0 h.1 rest in
      next (y ++ rest) (rw regrouped (starts h.0 a (h.1 ++ rest) h.3))

  repetition_again : Reads L F p
      → ((x : List Lexeme) (a : A) (z : List Lexeme) → L x a → d (x ++ z) ≡ true)
      → ((z : List Lexeme) → d z ≡ true → F z)
      → (n : ℕ) (front : List Lexeme) (v : List A) (rest : List Lexeme) → Repetition L front v → length front ≤ n → F rest → d rest ≡ false → bounded_read d p n (front ++ rest) ≡ Some (v, rest)
  unfolding bounded_read
  repetition_again r starts next zero front [] rest h fits follow stop = rw h refl
  repetition_again r starts next (suc n) front [] rest h fits follow stop = rw (h, stop) refl
  repetition_again r starts next zero front (a ∷ v) rest h fits follow stop =
      absurd (omega (arith, begins_more L d h.0 a rest (λ z. starts h.0 a z h.3) stop, ap length h.2, length-append h.0 h.1))
  repetition_again r starts next (suc n) front (a ∷ v) rest h fits follow stop =
      let long = begins_more L d h.0 a rest (λ z. starts h.0 a z h.3) stop in
      let less : length h.1 ≤ n = omega (arith, long, ap length h.2, length-append h.0 h.1) in
      let regrouped : front ++ rest ≡ h.0 ++ (h.1 ++ rest) = ap (λ (z : List Lexeme). z ++ rest) h.2 ∙ append_assoc h.0 h.1 rest in
      let inner = repetition_again r starts next n h.1 v rest h.4 less follow stop in
      ap (bounded_read d p (suc n)) regrouped ∙ rw (starts h.0 a (h.1 ++ rest) h.3, r.again h.0 a (h.1 ++ rest) h.3 (after_one r starts next h.1 v rest h.4 follow stop), inner) refl

  pub reads_repetition : Reads L F p
      → ((x : List Lexeme) (a : A) (z : List Lexeme) → L x a → d (x ++ z) ≡ true)
      → ((z : List Lexeme) → d z ≡ true → F z)
      → Reads (Repetition L) (λ rest. F rest × (d rest ≡ false)) (repetition_read d p)
  reads_repetition r starts next = record {
    found = λ ts v e. repetition_found r (length ts) ts v e;
    again = λ front v rest h follow. repetition_again r starts next (length (front ++ rest)) front v rest h (omega (arith, length-append front rest)) follow.0 follow.1;
  }

-- ---- forms of several parts

pub reads_preceded : {A : Type 0} (test : Lexeme → Bool) {L : List Lexeme → A → Type 0} {F : List Lexeme → Type 0} {p : Reader A} → Reads L F p → Reads (Preceded test L) F (preceded_read test p)
reads_preceded {A} test r = reads_built (λ (v : Unit {0} × A). v.1) (reads_both (reads_fixed test) r)

-- the language's next tokens, but not one that passes the test
abbrev pub Not : (Lexeme → Bool) → (List Lexeme → Type 0) → List Lexeme → Type 0
Not test F rest = F rest × (begins test rest ≡ false)

-- one or more parts are read, with a separator between each two
pub reads_separated : {A : Type 0} (test : Lexeme → Bool) {L : List Lexeme → A → Type 0} {F : List Lexeme → Type 0} {p : Reader A} → Reads L F p → ((z : List Lexeme) → begins test z ≡ true → F z) → Reads (Separated test L) (Not test F) (separated_read test p)
reads_separated {A} test {L} {F} {p} r next =
    reads_built (λ (v : A × List A). v.0 ∷ v.1)
    (reads_sequence r (reads_repetition (begins test) (Preceded test L) F (preceded_read test p) (reads_preceded test r) (starts_preceded test L).at next)
    (λ y b rest h follow. after_one (begins test) (Preceded test L) F (preceded_read test p) (reads_preceded test r) (starts_preceded test L).at next y b rest h follow.0 follow.1))

-- a token or none, then the language
same_value : {A : Type 0} (read : Option (A × List Lexeme)) (rest : List Lexeme)
    → built_read (λ (v : Unit {0} × A). v.1) (sequence_read (λ (ts : List Lexeme). Some (tt, rest)) (λ (ts : List Lexeme). read)) rest ≡ read
same_value None rest = refl
same_value (Some x) rest = refl

either_way_by : {A : Type 0} (decided : Bool) (p : Reader A) (t : Lexeme) (rest : List Lexeme)
    → cond decided (built_read (λ (v : Unit {0} × A). v.1) (sequence_read (λ (ts : List Lexeme). cond decided (Some (tt, rest)) None) p) (t ∷ rest)) (p (t ∷ rest))
    ≡ p (cond decided rest (t ∷ rest))
either_way_by true p t rest = same_value (p rest) rest
either_way_by false p t rest = refl

-- with the token or without
either_way : {A : Type 0} (test : Lexeme → Bool) (p : Reader A) (ts : List Lexeme)
    → choice_read (begins test) (preceded_read test p) p ts ≡ preceded_or_not_read test p ts
either_way test p [] = refl
either_way test p (t ∷ rest) = either_way_by (test t) p t rest

pub reads_preceded_or_not : {A : Type 0} {test other : Lexeme → Bool} {L : List Lexeme → A → Type 0} {F : List Lexeme → Type 0} {p : Reader A} → Starts other L → Apart other test → Reads L F p → Reads (PrecededOrNot test L) F (preceded_or_not_read test p)
reads_preceded_or_not {A} {test} {other} {L} {F} {p} s apart r =
    let either = reads_choice (starts_preceded test L) s apart (reads_preceded test r) r in
    record {
      found = λ ts x e. either.found ts x (either_way test p ts ∙ e);
      again = λ front a rest h follow. sym (either_way test p (front ++ rest)) ∙ either.again front a rest h follow;
    }

-- a token that denotes a value
pub reads_denotes : {A : Type 0} (a : A) (test : Lexeme → Bool) → Reads (Denotes a test) Any (denotes_read a test)
reads_denotes a test = reads_built (λ (nothing : Unit {0}). a) (reads_fixed test)

-- an enclosed text may be followed by the closing token
pub reads_enclosed : {A : Type 0} {L : List Lexeme → A → Type 0} {F : List Lexeme → Type 0} {p : Reader A} → Reads L F p → ((y : List Lexeme) → begins (symbol (codes ")")) y ≡ true → F y) → Reads (Enclosed L) Any (enclosed_read p)
reads_enclosed {A} r closes =
    reads_preceded (symbol (codes "("))
    (reads_built (λ (v : A × Unit {0}). v.0) (reads_sequence r (reads_fixed (symbol (codes ")"))) (λ y b rest h follow. closes (y ++ rest) (rw (h.2, h.1) refl))))

optional_again : {A : Type 0} {test : Lexeme → Bool} {L : List Lexeme → A → Type 0} {F : List Lexeme → Type 0} {p : Reader A} → Starts test L → Reads L F p → (front : List Lexeme) (v : Option A) (rest : List Lexeme) → Optional L front v → Not test F rest → optional_read test p (front ++ rest) ≡ Some (v, rest)
optional_again s r front None rest h follow = rw (h, follow.1) refl
optional_again s r front (Some a) rest h follow = rw (s.at front a rest h, r.again front a rest h follow.0) refl

pub reads_optional : {A : Type 0} {test : Lexeme → Bool} {L : List Lexeme → A → Type 0} {F : List Lexeme → Type 0} {p : Reader A} → Starts test L → Reads L F p → Reads (Optional L) (Not test F) (optional_read test p)
reads_optional {A} {test} {L} {F} {p} s r = record {
  found = λ ts v e. elim (if_some (begins test ts) (p ts >>= λ x. Some (Some x.0, x.1)) (Some (None, ts)) v e) [
    | inl h ↦
        let a = bind_some (p ts) (λ x. Some (Some x.0, x.1)) v h.1 in
        let k = r.found ts a.0 a.1 in
        subst (λ (w : Option A × List Lexeme). (front : List Lexeme) × (ts ≡ front ++ w.1) × Optional L front w.0) (some_is (Some a.0.0, a.0.1) v a.2) (k.0, k.1, k.2)
    | inr h ↦ subst (λ (w : Option A × List Lexeme). (front : List Lexeme) × (ts ≡ front ++ w.1) × Optional L front w.0) (some_is (None, ts) v h.1) ([], refl, refl)
  ];
  again = λ front v rest h follow. optional_again s r front v rest h follow;
}

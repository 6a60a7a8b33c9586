-- Sorts of tokens. No token is of two sorts that differ, and what differs is computed.
use Rattle.std.proofs.Common.{◌≡◌, ℕ, Bool, true, false, not, List, [], ◌∷◌, ◌++◌, refl, sym, ap, subst, ◌∙◌, inl, inr, ◌⊎◌, codes, ◌&&◌, ◌||◌, append_assoc, Option, Some, None}
use Rattle.std.specs.Str.{bytes_eq}
use Rattle.std.proofs.lemmas.Bool.{and_parts}
use Rattle.std.proofs.lemmas.Slice.Eq.{bytes_eq-Decides}
use Rattle.sql_statements.specs.Words.{folded, is_among, reserved}
use Rattle.sql_statements.specs.declared.token.TokenKind.{TokenKind}
use Rattle.sql_statements.specs.declared.token.TokenKind.TheVariants.{Word, Number, Text, Symbol}
use Rattle.sql_statements.specs.Lexemes.{Lexeme}
use Rattle.sql_front.specs.Language.{keyword, symbol, number, text, Sequence, Choice, Optional, Repetition, Separated, Enclosed}
use Rattle.sql_front.specs.Grammar.{name}
use Rattle.sql_front.specs.reading.Reading.{Reader, begins, sequence_read, optional_read, repetition_read, separated_read, enclosed_read, choice_read}
use Rattle.sql_front.proofs.First.{Apart, OfKind, Starts, apart_kinds, keyword_kind, symbol_kind, number_kind, text_kind, symbols_apart, keywords_apart, or_apart, begins_apart}
use Rattle.sql_front.proofs.NameSorts.{name_kind, keyword_not_name, name_not_keyword}
use Rattle.sql_front.proofs.Laws.{Reads, Any, reads_sequence, reads_weaken, reads_optional, reads_repetition, reads_separated, reads_enclosed, reads_choice}

pub data Sort : Type 0 where
  word : List ℕ → Sort
  sign : List ℕ → Sort
  a_name : Sort
  a_number : Sort
  a_text : Sort

abbrev pub is : Sort → Lexeme → Bool
is (word w) = keyword w
is (sign s) = symbol s
is a_name = name
is a_number = number
is a_text = text

abbrev pub any_of : List Sort → Lexeme → Bool
any_of [] t = false
any_of (s ∷ []) t = is s t
any_of (s ∷ r ∷ more) t = is s t || any_of (r ∷ more) t

-- ---- apart

abbrev pub kind_of : Sort → TokenKind
kind_of (word w) = Word
kind_of (sign s) = Symbol
kind_of a_name = Word
kind_of a_number = Number
kind_of a_text = Text

sort_kind : (s : Sort) → OfKind (is s) (kind_of s)
sort_kind (word w) = keyword_kind w
sort_kind (sign s) = symbol_kind s
sort_kind a_name = name_kind
sort_kind a_number = number_kind
sort_kind a_text = text_kind

abbrev pub differ : Sort → Sort → Bool
differ (word v) (word w) = not (bytes_eq (folded v) (folded w))
differ (word v) a_name = is_among v reserved
differ a_name (word w) = is_among w reserved
differ (sign v) (sign w) = not (bytes_eq v w)
differ a_name a_name = false
differ a_number a_number = false
differ a_text a_text = false
differ a b = true

abbrev pub differs_all : Sort → List Sort → Bool
differs_all a [] = true
differs_all a (b ∷ bs) = differ a b && differs_all a bs

abbrev pub all_differ : List Sort → List Sort → Bool
all_differ [] bs = true
all_differ (a ∷ as') bs = differs_all a bs && all_differ as' bs

not_true : (b : Bool) → not b ≡ true → b ≡ false
not_true true e = sym e
not_true false e = refl

sorts_apart : (a b : Sort) → differ a b ≡ true → Apart (is a) (is b)
sorts_apart (word v) (word w) e = keywords_apart v w (not_true (bytes_eq (folded v) (folded w)) e)
sorts_apart (word v) a_name e = keyword_not_name v e
sorts_apart a_name (word w) e = name_not_keyword w e
sorts_apart (sign v) (sign w) e = symbols_apart v w (not_true (bytes_eq v w) e)
sorts_apart a_name a_name e = absurd cc
sorts_apart a_number a_number e = absurd cc
sorts_apart a_text a_text e = absurd cc
sorts_apart a b e = apart_kinds (sort_kind a) (sort_kind b) (λ h. cc)

neither : (a b : Bool) → a ≡ false → b ≡ false → (a || b) ≡ false
neither true b e f = absurd cc
neither false b e f = f

apart_one : (a : Sort) (bs : List Sort) → differs_all a bs ≡ true → Apart (is a) (any_of bs)
apart_one a [] e = record { apart = λ t h. refl }
apart_one a (b ∷ []) e = sorts_apart a b (and_parts (differ a b) true e).0
apart_one a (b ∷ c ∷ bs) e = record {
  apart = λ t h.
      let parts = and_parts (differ a b) (differs_all a (c ∷ bs)) e in
      neither (is b t) (any_of (c ∷ bs) t) ((sorts_apart a b parts.0).apart t h) ((apart_one a (c ∷ bs) parts.1).apart t h);
}

false_true : {A : Type 0} → false ≡ true → A
false_true e = absurd cc

pub apart_lists : (v w : List Sort) → all_differ v w ≡ true → Apart (any_of v) (any_of w)
apart_lists [] w e = record { apart = λ t h. false_true h }
apart_lists (a ∷ []) w e = apart_one a w (and_parts (differs_all a w) true e).0
apart_lists (a ∷ b ∷ v) w e =
    let parts = and_parts (differs_all a w) (all_differ (b ∷ v) w) e in
    or_apart (apart_one a w parts.0) (apart_lists (b ∷ v) w parts.1)

-- ---- equal sorts

abbrev pub same : Sort → Sort → Bool
same (word v) (word w) = bytes_eq v w
same (sign v) (sign w) = bytes_eq v w
same a_name a_name = true
same a_number a_number = true
same a_text a_text = true
same a b = false

same_is : (a b : Sort) → same a b ≡ true → (t : Lexeme) → is a t ≡ true → is b t ≡ true
same_is (word v) (word w) e t h = let s : v ≡ w = (bytes_eq-Decides v w).0 e in subst (λ (u : List ℕ). keyword u t ≡ true) s h
same_is (sign v) (sign w) e t h = let s : v ≡ w = (bytes_eq-Decides v w).0 e in subst (λ (u : List ℕ). symbol u t ≡ true) s h
same_is a_name a_name e t h = h
same_is a_number a_number e t h = h
same_is a_text a_text e t h = h
same_is a b e t h = absurd cc

abbrev pub is_in : Sort → List Sort → Bool
is_in a [] = false
is_in a (b ∷ bs) = same a b || is_in a bs

abbrev pub included : List Sort → List Sort → Bool
included [] bs = true
included (a ∷ more) bs = is_in a bs && included more bs

pub or_left : (x y : Bool) → x ≡ true → (x || y) ≡ true
or_left true y e = refl
or_left false y e = absurd cc

pub or_right : (x y : Bool) → y ≡ true → (x || y) ≡ true
or_right true y e = refl
or_right false y e = e

either_true : (x y : Bool) → (x || y) ≡ true → (x ≡ true) ⊎ (y ≡ true)
either_true true y e = inl refl
either_true false y e = inr e

in_any : (a : Sort) (bs : List Sort) → is_in a bs ≡ true → (t : Lexeme) → is a t ≡ true → any_of bs t ≡ true
in_any a [] e t h = absurd cc
in_any a (b ∷ []) e t h = elim (either_true (same a b) false e) [ inl s ↦ same_is a b s t h | inr n ↦ absurd cc ]
in_any a (b ∷ c ∷ bs) e t h = elim (either_true (same a b) (is_in a (c ∷ bs)) e) [
  | inl s ↦ or_left (is b t) (any_of (c ∷ bs) t) (same_is a b s t h)
  | inr n ↦ or_right (is b t) (any_of (c ∷ bs) t) (in_any a (c ∷ bs) n t h)
]

any_in : (v w : List Sort) → included v w ≡ true → (t : Lexeme) → any_of v t ≡ true → any_of w t ≡ true
any_in [] w e t h = absurd cc
any_in (a ∷ []) w e t h = in_any a w (and_parts (is_in a w) true e).0 t h
any_in (a ∷ b ∷ v) w e t h =
    let parts = and_parts (is_in a w) (included (b ∷ v) w) e in
    elim (either_true (is a t) (any_of (b ∷ v) t) h) [ inl x ↦ in_any a w parts.0 t x | inr x ↦ any_in (b ∷ v) w parts.1 t x ]

-- ---- the next token

-- the end, or a token of one of the sorts
pub record Next (ss : List Sort) (rest : List Lexeme) : Type 0 where
  pub at : (rest ≡ []) ⊎ (begins (any_of ss) rest ≡ true)

pub next_end : (ss : List Sort) → Next ss []
next_end ss = record { at = inl refl }

begins_in : (v w : List Sort) → included v w ≡ true → (rest : List Lexeme) → begins (any_of v) rest ≡ true → begins (any_of w) rest ≡ true
begins_in v w e [] h = absurd cc
begins_in v w e (t ∷ rest) h = any_in v w e t h

pub next_begins : (v w : List Sort) → included v w ≡ true → (rest : List Lexeme) → begins (any_of v) rest ≡ true → Next w rest
next_begins v w e rest h = record { at = inr (begins_in v w e rest h) }

pub next_in : (v w : List Sort) → included v w ≡ true → (rest : List Lexeme) → Next v rest → Next w rest
next_in v w e rest n = elim n.at [ inl h ↦ record { at = inl h } | inr h ↦ next_begins v w e rest h ]

pub next_not : (v w : List Sort) → all_differ v w ≡ true → (rest : List Lexeme) → Next v rest → begins (any_of w) rest ≡ false
next_not v w e rest n = elim n.at [ inl h ↦ ap (begins (any_of w)) h | inr h ↦ begins_apart (apart_lists v w e) rest h ]

-- the text after one of L that is followed by one of to, begins with one of from
pub record Leads {A : Type 0} (from to : List Sort) (L : List Lexeme → A → Type 0) : Type 0 where
  pub lead : (x : List Lexeme) (a : A) (rest : List Lexeme) → L x a → Next to rest → Next from (x ++ rest)

pub leads_starts : {A : Type 0} {L : List Lexeme → A → Type 0} (firsts from to : List Sort) → included firsts from ≡ true → Starts (any_of firsts) L → Leads from to L
leads_starts firsts from to e s = record { lead = λ x a rest h n. next_begins firsts from e (x ++ rest) (s.at x a rest h) }

optional_lead : {A : Type 0} {L : List Lexeme → A → Type 0} (firsts from to : List Sort) → included firsts from ≡ true → included to from ≡ true → Starts (any_of firsts) L → (x : List Lexeme) (a : Option A) (rest : List Lexeme) → Optional L x a → Next to rest → Next from (x ++ rest)
optional_lead firsts from to e f s x None rest h n = subst (λ (z : List Lexeme). Next from (z ++ rest)) (sym h) (next_in to from f rest n)
optional_lead firsts from to e f s x (Some a) rest h n = next_begins firsts from e (x ++ rest) (s.at x a rest h)

pub leads_optional : {A : Type 0} {L : List Lexeme → A → Type 0} (firsts from to : List Sort) → included firsts from ≡ true → included to from ≡ true → Starts (any_of firsts) L → Leads from to (Optional L)
leads_optional firsts from to e f s = record { lead = optional_lead firsts from to e f s }

repetition_lead : {A : Type 0} {L : List Lexeme → A → Type 0} (firsts from to : List Sort) → included firsts from ≡ true → included to from ≡ true → Starts (any_of firsts) L → (x : List Lexeme) (v : List A) (rest : List Lexeme) → Repetition L x v → Next to rest → Next from (x ++ rest)
repetition_lead firsts from to e f s x [] rest h n = subst (λ (z : List Lexeme). Next from (z ++ rest)) (sym h) (next_in to from f rest n)
repetition_lead firsts from to e f s x (a ∷ v) rest h n =
    let regrouped : x ++ rest ≡ h.0 ++ (h.1 ++ rest) = ap (λ (z : List Lexeme). z ++ rest) h.2 ∙ append_assoc h.0 h.1 rest in
    subst (λ (z : List Lexeme). Next from z) (sym regrouped) (next_begins firsts from e (h.0 ++ (h.1 ++ rest)) (s.at h.0 a (h.1 ++ rest) h.3))

pub leads_repetition : {A : Type 0} {L : List Lexeme → A → Type 0} (firsts from to : List Sort) → included firsts from ≡ true → included to from ≡ true → Starts (any_of firsts) L → Leads from to (Repetition L)
leads_repetition firsts from to e f s = record { lead = repetition_lead firsts from to e f s }

pub leads_sequence : {A B : Type 0} {L : List Lexeme → A → Type 0} {M : List Lexeme → B → Type 0} {from middle to : List Sort} → Leads from middle L → Leads middle to M → Leads from to (Sequence L M)
leads_sequence {from = from} r s = record {
  lead = λ x v rest h n.
      let regrouped : x ++ rest ≡ h.0 ++ (h.1 ++ rest) = ap (λ (z : List Lexeme). z ++ rest) h.2 ∙ append_assoc h.0 h.1 rest in
      subst (λ (z : List Lexeme). Next from z) (sym regrouped) (r.lead h.0 v.0 (h.1 ++ rest) h.3 (s.lead h.1 v.1 rest h.4 n));
}

-- ---- the laws, by the next tokens

pub reads_next : {A : Type 0} {L : List Lexeme → A → Type 0} {p : Reader A} (ss : List Sort) → Reads L Any p → Reads L (Next ss) p
reads_next ss r = reads_weaken (Next ss) (λ rest n. tt) r

pub reads_less : {A : Type 0} {L : List Lexeme → A → Type 0} {p : Reader A} (v w : List Sort) → included v w ≡ true → Reads L (Next w) p → Reads L (Next v) p
reads_less v w e r = reads_weaken (Next v) (λ rest n. next_in v w e rest n) r

-- two readers, one after the other, by the next token's sort
pub reads_both_next : {A B : Type 0} {L : List Lexeme → A → Type 0} {p : Reader A} {M : List Lexeme → B → Type 0} {q : Reader B} {from to : List Sort} → Reads L (Next from) p → Reads M (Next to) q → Leads from to M → Reads (Sequence L M) (Next to) (sequence_read p q)
reads_both_next r s l = reads_sequence r s (λ y b rest h n. l.lead y b rest h n)

pub reads_optional_next : {A : Type 0} {L : List Lexeme → A → Type 0} {p : Reader A} (firsts to : List Sort) → all_differ to firsts ≡ true → Starts (any_of firsts) L → Reads L (Next to) p → Reads (Optional L) (Next to) (optional_read (any_of firsts) p)
reads_optional_next firsts to e s r = reads_weaken (Next to) (λ rest n. (n, next_not to firsts e rest n)) (reads_optional s r)

-- an item may be followed by what may follow all
pub reads_repetition_next : {A : Type 0} {L : List Lexeme → A → Type 0} {p : Reader A} (firsts to all : List Sort) → all_differ to firsts ≡ true → included firsts all ≡ true → included to all ≡ true → Starts (any_of firsts) L → Reads L (Next all) p → Reads (Repetition L) (Next to) (repetition_read (begins (any_of firsts)) p)
reads_repetition_next {A} {L} {p} firsts to all e f g s r =
    reads_weaken (Next to) (λ rest n. (next_in to all g rest n, next_not to firsts e rest n)) (reads_repetition (begins (any_of firsts)) L (Next all) p r s.at (λ z h. next_begins firsts all f z h))

pub reads_separated_next : {A : Type 0} {L : List Lexeme → A → Type 0} {p : Reader A} (sep : Sort) (to all : List Sort) → all_differ to (sep ∷ []) ≡ true → included (sep ∷ []) all ≡ true → included to all ≡ true → Reads L (Next all) p → Reads (Separated (is sep) L) (Next to) (separated_read (is sep) p)
reads_separated_next sep to all e f g r =
    reads_weaken (Next to) (λ rest n. (next_in to all g rest n, next_not to (sep ∷ []) e rest n)) (reads_separated (is sep) r (λ z h. next_begins (sep ∷ []) all f z h))

abbrev pub closing_sign : Sort
closing_sign = sign (codes ")")

pub reads_enclosed_next : {A : Type 0} {L : List Lexeme → A → Type 0} {p : Reader A} (all : List Sort) → included (closing_sign ∷ []) all ≡ true → Reads L (Next all) p → Reads (Enclosed L) Any (enclosed_read p)
reads_enclosed_next all e r = reads_enclosed r (λ y h. next_begins (closing_sign ∷ []) all e y h)

pub reads_choice_next : {A : Type 0} {L M : List Lexeme → A → Type 0} {F : List Lexeme → Type 0} {p q : Reader A} (firsts others : List Sort) → all_differ others firsts ≡ true → Starts (any_of firsts) L → Starts (any_of others) M → Reads L F p → Reads M F q → Reads (Choice L M) F (choice_read (begins (any_of firsts)) p q)
reads_choice_next firsts others e s n r1 r2 = reads_choice s n (apart_lists others firsts e) r1 r2

-- x { sep x } sep x is read by reading all and splitting off the last.
use Rattle.std.proofs.Common.{◌≡◌, Bool, true, List, [], ◌∷◌, ◌++◌, Some, refl, sym, ap, subst, ◌∙◌, append_assoc}
use Rattle.std.proofs.lemmas.List.{append-nil}
use Rattle.sql_statements.specs.Lexemes.{Lexeme}
use Rattle.sql_front.specs.Language.{Sequence, Repetition, Preceded, Separated}
use Rattle.period_core.specs.TextReading.{◌>>=◌}
use Rattle.sql_front.specs.reading.Reading.{Reader, begins, separated_read}
use Rattle.period_core.proofs.OptionFacts.{bind_some, none_some, some_is}
use Rattle.sql_front.proofs.Laws.{Reads, Not, reads_separated}
use Rattle.sql_front.specs.reading.ElementReaders.{last_of, split_last, all_and_last_read}

-- ---- lists

last_pushed : {A : Type 0} (b : A) (v : List A) (x : A) → last_of b (v ++ x ∷ []) ≡ (b ∷ v, x)
last_pushed b [] x = refl
last_pushed {A} b (c ∷ v) x = ap (λ (p : List A × A). (b ∷ p.0, p.1)) (last_pushed c v x)

pub split_pushed : {A : Type 0} (a : A) (v : List A) (x : A) → split_last (a ∷ (v ++ x ∷ [])) ≡ Some (a ∷ v, x)
split_pushed a [] x = refl
split_pushed {A} a (b ∷ v) x = ap (λ (p : List A × A). Some (a ∷ p.0, p.1)) (last_pushed b v x)

last_joins : {A : Type 0} (b : A) (bs : List A) → (last_of b bs).0 ++ (last_of b bs).1 ∷ [] ≡ b ∷ bs
last_joins b [] = refl
last_joins {A} b (c ∷ bs) = ap (λ (v : List A). b ∷ v) (last_joins c bs)

-- a split list was two parts
split_parts : {A : Type 0} (a : A) (bs : List A) (parts : List A × A) → split_last (a ∷ bs) ≡ Some parts → (v : List A) × (parts.0 ≡ a ∷ v) × (bs ≡ v ++ parts.1 ∷ [])
split_parts {A} a [] parts e = absurd (none_some parts e)
split_parts {A} a (b ∷ bs) parts e =
    subst (λ (p : List A × A). (v : List A) × (p.0 ≡ a ∷ v) × (b ∷ bs ≡ v ++ p.1 ∷ [])) (some_is (a ∷ (last_of b bs).0, (last_of b bs).1) parts e) ((last_of b bs).0, refl, sym (last_joins b bs))

-- ---- repetitions

repetition_push : {A : Type 0} (M : List Lexeme → A → Type 0) (y z : List Lexeme) (v : List A) (x : A) → Repetition M y v → M z x → Repetition M (y ++ z) (v ++ x ∷ [])
repetition_push M y z [] x h m = (z, [], ap (λ (w : List Lexeme). w ++ z) h ∙ sym (append-nil z), m, refl)
repetition_push M y z (a ∷ v) x h m = (h.0, h.1 ++ z, ap (λ (w : List Lexeme). w ++ z) h.2 ∙ append_assoc h.0 h.1 z, h.3, repetition_push M h.1 z v x h.4 m)

repetition_pop : {A : Type 0} (M : List Lexeme → A → Type 0) (y : List Lexeme) (v : List A) (x : A) → Repetition M y (v ++ x ∷ []) → (p : List Lexeme) × (q : List Lexeme) × (y ≡ p ++ q) × Repetition M p v × M q x
repetition_pop M y [] x h = ([], y, refl, refl, subst (λ (w : List Lexeme). M w x) (sym (h.2 ∙ ap (λ (w : List Lexeme). h.0 ++ w) h.4 ∙ append-nil h.0)) h.3)
repetition_pop M y (a ∷ v) x h =
    let k = repetition_pop M h.1 v x h.4 in
    (h.0 ++ k.0, k.1, h.2 ∙ ap (λ (w : List Lexeme). h.0 ++ w) k.2 ∙ sym (append_assoc h.0 k.0 k.1), (h.0, k.0, refl, h.3, k.3), k.4)

-- ---- regrouping

module _ {A : Type 0} (sep : Lexeme → Bool) (L : List Lexeme → A → Type 0) where
  abbrev AllAndLast : List Lexeme → List A × A → Type 0
  AllAndLast = Sequence (Separated sep L) (Preceded sep L)

  -- all parts but the last, and the last after a separator, are all parts
  pub joined : (ts : List Lexeme) (v : List A × A) → AllAndLast ts v → (a : A) × (more : List A) × (v.0 ≡ a ∷ more) × Separated sep L ts (a ∷ (more ++ v.1 ∷ []))
  joined ts v h =
      let front = h.3 in
      let parts = front.2 in
      let whole : ts ≡ parts.0 ++ (parts.1 ++ h.1) = h.2 ∙ ap (λ (w : List Lexeme). w ++ h.1) parts.2 ∙ append_assoc parts.0 parts.1 h.1 in
      (front.0.0, front.0.1, front.1, ((front.0.0, front.0.1 ++ v.1 ∷ []), refl, (parts.0, parts.1 ++ h.1, whole, parts.3, repetition_push (Preceded sep L) parts.1 h.1 front.0.1 v.1 parts.4 h.4)))

  apart_at : (ts : List Lexeme) (pair : A × List A) (parts : List A × A) → split_last (pair.0 ∷ pair.1) ≡ Some parts → Sequence L (Repetition (Preceded sep L)) ts pair → AllAndLast ts parts
  apart_at ts pair parts e h =
      let s = split_parts pair.0 pair.1 parts e in
      let k = repetition_pop (Preceded sep L) h.1 s.0 parts.1 (subst (λ (w : List A). Repetition (Preceded sep L) h.1 w) s.2 h.4) in
      let whole : ts ≡ (h.0 ++ k.0) ++ k.1 = h.2 ∙ ap (λ (w : List Lexeme). h.0 ++ w) k.2 ∙ sym (append_assoc h.0 k.0 k.1) in
      (h.0 ++ k.0, k.1, whole, ((pair.0, s.0), s.1, (h.0, k.0, refl, h.3, k.3)), k.4)

  -- a list whose last part can be split off is spelled by all parts and the last
  pub taken_apart : (ts : List Lexeme) (all : List A) (parts : List A × A) → split_last all ≡ Some parts → Separated sep L ts all → AllAndLast ts parts
  taken_apart ts all parts e h = apart_at ts h.0 parts (ap split_last (sym h.1) ∙ e) h.2

  pub reads_all_and_last : {F : List Lexeme → Type 0} {p : Reader A} → Reads L F p → ((z : List Lexeme) → begins sep z ≡ true → F z) → Reads AllAndLast (Not sep F) (all_and_last_read sep p)
  unfolding all_and_last_read
  reads_all_and_last {F} {p} r next = record {
    found = λ ts x e.
        let all = reads_separated sep r next in
        let a = bind_some (separated_read sep p ts) (λ y. split_last y.0 >>= λ parts. Some (parts, y.1)) x e in
        let b = bind_some (split_last a.0.0) (λ parts. Some (parts, a.0.1)) x a.2 in
        let k = all.found ts a.0 a.1 in
        subst (λ (w : (List A × A) × List Lexeme). (front : List Lexeme) × (ts ≡ front ++ w.1) × AllAndLast front w.0) (some_is (b.0, a.0.1) x b.2) (k.0, k.1, taken_apart k.0 a.0.0 b.0 b.1 k.2);
    again = λ front v rest h follow.
        let all = reads_separated sep r next in
        let j = joined front v h in
        let split : split_last (j.0 ∷ (j.1 ++ v.1 ∷ [])) ≡ Some (v.0, v.1) = split_pushed j.0 j.1 v.1 ∙ ap (λ (w : List A). Some (w, v.1)) (sym j.2) in
        rw (all.again front (j.0 ∷ (j.1 ++ v.1 ∷ [])) rest j.3 follow, split) refl;
  }

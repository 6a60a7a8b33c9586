-- The least of days: of the days of either kind, and of equal sets of days.
use Rattle.std.proofs.Common.{◌≡◌, ◌↔◌, ◌⊎◌, ◌≤ℤ◌, ◌<ℤ◌, ◌<◌, ◌+◌, ◌++◌, ◌∷◌, [], ◌∙◌, ℕ, ℤ, List, length, take, get_or, Option, Some, None, sym, ap, subst, inl, inr, arith}
use Rattle.std.proofs.lemmas.Int.{ints, by_lt_z}
use Rattle.std.specs.Prelude.{IfOk, Result, Ok, Err, int_lt, if◌then◌else◌}
use Rattle.std.specs.List.{Any}
use Rattle.std.proofs.lemmas.List.{take_more}
use Rattle.period_keys.proofs.Members.{Any-append, Any-one, Any-nil}
use Rattle.period_keys.specs.Keys.{IsLeastDay, IsLeastOf}
use Rattle.period_keys.specs.Index.{earlier}

pub IsLeastOf-same : (P Q : ℤ → Type 0) → ((day : ℤ) → (P day ↔ Q day)) → (found : Option ℤ) → IsLeastOf P found → IsLeastOf Q found
IsLeastOf-same P Q same None h = λ day q. h day ((same day).1 q)
IsLeastOf-same P Q same (Some day) h = record { faulty = (same day).0 h.faulty; least = λ other q. h.least other ((same other).1 q) }

-- a least day of an answer that may fail
pub least_if_same : {E : Type 0} (P Q : ℤ → Type 0) → ((day : ℤ) → (P day ↔ Q day)) → (result : Result (Option ℤ) E) → IfOk result (IsLeastOf P) → IfOk result (IsLeastOf Q)
least_if_same P Q same (Ok found) h = IsLeastOf-same P Q same found h
least_if_same P Q same (Err e) h = tt

-- the test for the lesser of two days takes the earlier one
lesser : (day next : ℤ) → (((if int_lt next day then next else day) ≡ next) × (next <ℤ day)) ⊎ (((if int_lt next day then next else day) ≡ day) × (day ≤ℤ next))
lesser day next =
    by_lt_z {P = (((if int_lt next day then next else day) ≡ next) × (next <ℤ day)) ⊎ (((if int_lt next day then next else day) ≡ day) × (day ≤ℤ next))} next day
    (λ less. inl (grind (arith, ints), less))
    (λ ge. inr (grind (arith, ints), ge))

-- the least of both kinds is the earlier of the two leasts
pub IsLeastOf-either : (P Q : ℤ → Type 0) (one other : Option ℤ) → IsLeastOf P one → IsLeastOf Q other → IsLeastOf (λ day. P day ⊎ Q day) (earlier one other)
IsLeastOf-either P Q None None p q = λ day h. elim h [ inl x ↦ p day x | inr y ↦ q day y ]
IsLeastOf-either P Q None (Some next) p q = record {
  faulty = inr q.faulty;
  least = λ day h. elim h [ inl x ↦ absurd (p day x) | inr y ↦ q.least day y ];
}
IsLeastOf-either P Q (Some day) None p q = record {
  faulty = inl p.faulty;
  least = λ other h. elim h [ inl x ↦ p.least other x | inr y ↦ absurd (q other y) ];
}
IsLeastOf-either P Q (Some day) (Some next) p q =
    elim (lesser day next) [
      | inl (is, less) ↦ subst (IsLeastDay (λ day. P day ⊎ Q day)) (sym is) (record {
        faulty = inr q.faulty;
        least = λ other h. elim h [ inl x ↦ (let le : day ≤ℤ other = p.least other x in omega (arith, ints)) | inr y ↦ q.least other y ];
      })
      | inr (is, le) ↦ subst (IsLeastDay (λ day. P day ⊎ Q day)) (sym is) (record {
        faulty = inl p.faulty;
        least = λ other h. elim h [ inl x ↦ p.least other x | inr y ↦ (let ge : next ≤ℤ other = q.least other y in omega (arith, ints)) ];
      })
    ]

-- the least day of some elements' days and of one more element's
pub least_with_one : {X : Type 0} (P : X → ℤ → Type 0) (xs : List X) (x : X) (new : Option ℤ) → IsLeastOf (λ day. Any (λ y. P y day) xs ⊎ P x day) new → IsLeastOf (λ day. Any (λ y. P y day) (xs ++ x ∷ [])) new
least_with_one {X} P xs x new least =
    let joined : (day : ℤ) → ((Any (λ y. P y day) xs ⊎ P x day) ↔ Any (λ y. P y day) (xs ++ x ∷ [])) = λ day. (
      λ h. (Any-append (λ y. P y day) xs (x ∷ [])).1 (elim h [ inl l ↦ inl l | inr r ↦ inr ((Any-one (λ y. P y day) x).1 r) ]),
      λ h. elim ((Any-append (λ y. P y day) xs (x ∷ [])).0 h) [ inl l ↦ inl l | inr r ↦ inr ((Any-one (λ y. P y day) x).0 r) ],
    ) in
    IsLeastOf-same (λ day. Any (λ y. P y day) xs ⊎ P x day) (λ day. Any (λ y. P y day) (xs ++ x ∷ [])) joined new least

-- a loop's step: the least day of the first elements, or of the next
pub least_with_next : {X : Type 0} (P : X → ℤ → Type 0) (xs : List X) (i : ℕ) (x : X) (new : Option ℤ) → i < length xs → x ≡ get_or xs i x
    → IsLeastOf (λ day. Any (λ y. P y day) (take i xs) ⊎ P x day) new → IsLeastOf (λ day. Any (λ y. P y day) (take (i + 1) xs)) new
least_with_next {X} P xs i x new below is least =
    let list : take (i + 1) xs ≡ take i xs ++ x ∷ [] = take_more xs i x below ∙ ap (λ y. take i xs ++ y ∷ []) (sym is) in
    subst (λ (ys : List X). IsLeastOf (λ day. Any (λ y. P y day) ys) new) (sym list) (least_with_one P (take i xs) x new least)

-- the least day of some elements, with one more
pub least_one_more : {X : Type 0} (P : X → ℤ → Type 0) (xs : List X) (x : X) (found more new : Option ℤ)
    → IsLeastOf (λ day. Any (λ y. P y day) xs) found → IsLeastOf (P x) more → new ≡ earlier found more
    → IsLeastOf (λ day. Any (λ y. P y day) (xs ++ x ∷ [])) new
least_one_more {X} P xs x found more new so_far one new_is =
    let Q : ℤ → Type 0 = λ day. Any (λ y. P y day) xs ⊎ P x day in
    least_with_one P xs x new (subst (IsLeastOf Q) (sym new_is) (IsLeastOf-either (λ day. Any (λ y. P y day) xs) (P x) found more so_far one))

-- a loop's step: the least day of the first elements' days, and of the next one's
pub least_more : {X : Type 0} (P : X → ℤ → Type 0) (xs : List X) (i : ℕ) (x : X) (found more new : Option ℤ) → i < length xs → x ≡ get_or xs i x
    → IsLeastOf (λ day. Any (λ y. P y day) (take i xs)) found → IsLeastOf (P x) more → new ≡ earlier found more
    → IsLeastOf (λ day. Any (λ y. P y day) (take (i + 1) xs)) new
least_more {X} P xs i x found more new below is so_far one new_is =
    let Q : ℤ → Type 0 = λ day. Any (λ y. P y day) (take i xs) ⊎ P x day in
    least_with_next P xs i x new below is (subst (IsLeastOf Q) (sym new_is) (IsLeastOf-either (λ day. Any (λ y. P y day) (take i xs)) (P x) found more so_far one))

-- no elements have no least day
pub least_none : {X : Type 0} (P : X → ℤ → Type 0) → IsLeastOf (λ day. Any (λ y. P y day) []) None
least_none P = λ day h. Any-nil (λ y. P y day) h

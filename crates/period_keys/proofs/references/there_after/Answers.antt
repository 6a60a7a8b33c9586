use Rattle.std.proofs.Common.{◌≡◌, ◌+◌, ◌++◌, ◌∷◌, [], ◌∙◌, ℕ, Bool, true, false, List, append_assoc, append-nil, drop, take, sym, ap, subst, arith}
use Rattle.std.specs.Bool.{OnFalse, OnTrue}
use Rattle.std.specs.Prelude.{Contains, IsPermutation}
use Rattle.std.proofs.lemmas.List.{drop_more, take_all, take_more}
use Rattle.std.proofs.lemmas.List.Sorted.{IsPermutation-append_left, IsPermutation-sym, IsPermutation-trans, Contains-permutation}
use Rattle.period_core.specs.declared.period.Period.{Period}
use Rattle.temporal_model.proofs.Members.{Contains-here}
use Rattle.temporal_model.proofs.Rearranged.{IsPermutation-uncons}
use Rattle.period_keys.specs.LookUps.{periods_of}
use Rattle.period_keys.proofs.Indexes.{drop_all}
use Rattle.period_keys.proofs.references.there_after.Goals as goal

pub loop-going-init : goal.loop-going-init
loop-going-init c = λ stay moved.
    let sorted : List Period = c.in_ok-there.there.items.items in
    let periods : List Period = periods_of c.args.periods.now in
    IsPermutation-trans sorted periods (c.args.gone.now ++ stay) (IsPermutation-sym periods sorted (subst (λ (list : List Period). IsPermutation list sorted) c.in_ok-collect.ensures c.in_ok-there.ensures)) moved

-- a period of the list was taken out
less : (r : Bool) (old new rest : List Period) (p : Period) → OnTrue r (IsPermutation old (p ∷ new)) → OnFalse r (Contains old p → ⊥) → IsPermutation old (p ∷ rest) → IsPermutation new rest
less true old new rest p taken absent moved = IsPermutation-uncons p new rest (IsPermutation-trans (p ∷ new) old (p ∷ rest) (IsPermutation-sym old (p ∷ new) taken) moved)
less false old new rest p taken absent moved = absurd (absent (Contains-permutation (p ∷ rest) old p (IsPermutation-sym old (p ∷ rest) moved) (Contains-here p rest)))

pub loop-going-preserved : goal.loop-going-preserved
loop-going-preserved c = λ stay moved.
    let gone : List Period = c.args.gone.now in
    let i : ℕ = c.loop-going.going-index in
    let p : Period = c.going-item.result in
    let old : List Period = c.loop-going.there.items.items in
    let more : drop i gone ≡ p ∷ drop (i + 1) gone = drop_more gone i p (omega arith) ∙ ap (λ x. x ∷ drop (i + 1) gone) (sym c.going-item.is) in
    less c.take_one-taken.result old c.take_one-taken.new.self.items.items (drop (i + 1) gone ++ stay) p c.take_one-taken.ensures.taken c.take_one-taken.ensures.absent
    (subst (λ (list : List Period). IsPermutation old (list ++ stay)) more (c.loop-going.invariant stay moved))

pub loop-coming-init : goal.loop-coming-init
loop-coming-init c = λ stay moved.
    let there : List Period = c.loop-going.there.items.items in
    let none : drop c.loop-going.going-index c.args.gone.now ≡ [] = drop_all c.args.gone.now c.loop-going.going-index (omega arith) in
    subst (IsPermutation there) (sym (append-nil stay)) (subst (λ (list : List Period). IsPermutation there (list ++ stay)) none (c.loop-going.invariant stay moved))

pub loop-coming-preserved : goal.loop-coming-preserved
loop-coming-preserved c = λ stay moved.
    let new : List Period = c.args.new.now in
    let i : ℕ = c.loop-coming.coming-index in
    let p : Period = c.coming-item.result in
    let old : List Period = c.loop-coming.there.items.items in
    let there : List Period = c.add.new.self.items.items in
    let more : stay ++ take (i + 1) new ≡ (stay ++ take i new) ++ p ∷ [] =
    ap (λ (list : List Period). stay ++ list) (take_more new i p (omega arith) ∙ ap (λ x. take i new ++ x ∷ []) (sym c.coming-item.is)) ∙ sym (append_assoc stay (take i new) (p ∷ [])) in
    subst (IsPermutation there) (sym more)
    (IsPermutation-trans there (old ++ p ∷ []) ((stay ++ take i new) ++ p ∷ []) c.in_ok-add.ensures.ok
    (IsPermutation-append_left (p ∷ []) old (stay ++ take i new) (c.loop-coming.invariant stay moved)))

pub returns : goal.returns
returns c = λ stay moved.
    let all : take c.loop-coming.coming-index c.args.new.now ≡ c.args.new.now = take_all _ _ (omega arith) in
    subst (λ (list : List Period). IsPermutation c.loop-coming.there.items.items (stay ++ list)) all (c.loop-coming.invariant stay moved)

use Rattle.std.proofs.Common.{◌≡◌, ◌≤◌, ◌++◌, ◌∷◌, [], ℕ, zero, suc, List, length, Option, None, refl, sym, ◌∙◌, ap, arith}
use Rattle.std.specs.List.{filter_map, slice_get}
use Rattle.std.proofs.lemmas.List.{append-nil}
use Rattle.period_core.specs.declared.value.Value.{Value}
use Rattle.period_keys.proofs.keys.push_value_at.Goals as goal

-- past its end a list has none
past : {X : Type 0} (xs : List X) (i : ℕ) → length xs ≤ i → None ≡ slice_get xs i
past [] i h = refl
past (x ∷ xs) zero h = absurd (omega arith)
past (x ∷ xs) (suc i) h = past xs i (omega arith)

pub returns-in_default : goal.returns-in_default
returns-in_default c =
    let found : List Value = c.args.found.now.items in
    let none : None ≡ slice_get c.args.values.now c.args.position = past c.args.values.now c.args.position c.in_default.ensures.lookup.3 in
    sym (append-nil found) ∙ ap (λ (o : Option Value). found ++ filter_map (λ (x : Option Value). x) (o ∷ [])) none

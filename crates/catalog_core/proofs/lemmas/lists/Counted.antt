-- Whether some element of a list passes a test, by the number of those that pass it.
use Rattle.std.proofs.Common.{◌≡◌, ◌∷◌, ◌∙◌, Bool, true, false, List, [], ap, count_by, filter, length, refl, sym}
use Rattle.std.specs.Prelude.{◌==◌}
use Rattle.std.specs.List.{list_any}
use Rattle.std.proofs.lemmas.Bool.{false≢true, or_parts}
use Rattle.std.proofs.lemmas.List.Sums.{length-filter}

none_kept : {X : Type 0} (p : X → Bool) (xs : List X) → list_any p xs ≡ false → length (filter p xs) ≡ 0
none_kept p [] none = refl
none_kept p (x ∷ xs) none =
    let parts = or_parts (p x) (list_any p xs) none in rw parts.0 (none_kept p xs parts.1)

pub any_counted : {X : Type 0} (p : X → Bool) (xs : List X) → (count_by p xs == 0) ≡ false → list_any p xs ≡ true
any_counted p xs some =
    (elim (list_any p xs) as (λ b. list_any p xs ≡ b → b ≡ true) [
      | true ↦ (λ e. refl)
      | false ↦ (λ e. absurd (false≢true (sym some ∙ ap (λ n. n == 0) (sym (length-filter p xs) ∙ none_kept p xs e))))
    ]) refl

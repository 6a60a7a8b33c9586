use Rattle.std.proofs.Common.{◌≡◌, ◌∙◌, ℕ, List, ap, arith, drop, inl, inr, length, sym}
use Rattle.std.specs.Prelude.{min}
use Rattle.std.proofs.lemmas.Bool.{cases_lt}
use Rattle.std.proofs.lemmas.List.{drop_all}
use Rattle.period_core.specs.declared.value.Value.{Value}

-- nothing is left after the last value
drop_within : (count from : ℕ) (values : List Value) → from ≡ min count (length values) → drop from values ≡ drop count values
drop_within count from values is =
    elim (cases_lt (length values) count) [
      | inl past ↦ drop_all from values (omega arith) ∙ sym (drop_all count values (omega arith))
      | inr within ↦ (let same : from ≡ count = omega arith in ap (λ (n : ℕ). drop n values) same)
    ]

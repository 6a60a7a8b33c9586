use Rattle.std.proofs.Common.{[], List, sym, subst}
use Rattle.std.specs.Prelude.{IsPermutation}
use Rattle.std.proofs.lemmas.List.Sorted.{IsPermutation-refl}
use Rattle.period_core.specs.declared.period.Period.{Period}
use Rattle.period_keys.proofs.clashes.index_of_versions.Goals as goal

pub returns : goal.returns
returns c = c.in_ok-add_versions.ensures [] (λ key. subst (λ (ps : List Period). IsPermutation ps []) (sym (c.new-index.ensures key)) (IsPermutation-refl {X = Period} []))

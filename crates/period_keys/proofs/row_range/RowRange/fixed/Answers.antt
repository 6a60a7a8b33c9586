use Rattle.std.proofs.Common.{◌≡◌, ◌≤◌, ◌∙◌, ℕ, List, ap, arith, length, subst, sym, take, true}
use Rattle.std.proofs.lemmas.List.{length-take-le}
use Rattle.period_keys.specs.declared.key_range.KeyRange.{KeyRange}
use Rattle.period_keys.specs.Versions.{has_key_in}
use Rattle.period_keys.proofs.RangeKeys.{fixed_values}
use Rattle.period_keys.proofs.row_range.RowRange.fixed.Goals as goal

pub returns-clause-each : goal.returns-clause-each
returns-clause-each c = λ version is count.
    let range : KeyRange = c.args.self.now.range in
    let n : ℕ = c.min-count.result in
    let positions : List ℕ = c.as_slice-positions.result.now in
    let few : n ≤ length range.leading.items = omega (arith, ap length c.as_slice-leading.ensures.value, c.min-count.ensures) in
    let size : length (take n positions) ≡ n = length-take-le n positions (omega (arith, c.min-count.ensures)) in
    fixed_values range positions version.values n few (subst (λ (ps : List ℕ). has_key_in ps range version ≡ true) (sym c.as_slice-positions.ensures) is) (count ∙ size) ∙ ap (take n) (sym c.as_slice-leading.ensures.value)

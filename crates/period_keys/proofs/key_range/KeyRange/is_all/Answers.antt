use Rattle.std.proofs.Common.{◌≡◌, ◌∙◌, [], eqb-true, sym, rules}
use Rattle.std.specs.Vec.{vec_len}
use Rattle.std.proofs.lemmas.Bool.{false≢true}
use Rattle.period_keys.proofs.RangeKeys.{all_of_nothing, none_counted, nothing_has_all}
use Rattle.period_keys.proofs.key_range.KeyRange.is_all.Goals as goal
use Rattle.period_keys.proofs.key_range.KeyRange.is_all.Goals.{then-is_empty, else-is_empty}

pub returns-then-is_unbounded : goal.returns-then-is_unbounded
returns-then-is_unbounded c =
    let range = c.args.self.now in
    elim c.if-is_empty.branch [
      | then-is_empty w ↦
          let empty : range.leading.items ≡ [] = none_counted range (eqb-true (vec_len range.leading) 0 (sym c.is_empty.ensures ∙ w.if-is_empty.true)) in
          (λ is. nothing_has_all range (empty, w.is_unbounded.ensures.0 (sym w.value-is ∙ c.if-is_unbounded.true), c.is_unbounded-then-is_unbounded.ensures.0 is), λ all. c.is_unbounded-then-is_unbounded.ensures.1 (all_of_nothing range (all [])).2)
      | else-is_empty w ↦ absurd (false≢true (sym w.if-is_empty.false ∙ sym w.value-is ∙ c.if-is_unbounded.true))
    ]

pub returns-else-is_unbounded : goal.returns-else-is_unbounded
returns-else-is_unbounded c =
    let range = c.args.self.now in (
      λ is. absurd (false≢true (sym c.if-is_unbounded.false ∙ is)),
      λ all.
          let nothing = all_of_nothing range (all []) in
          elim c.if-is_empty.branch [
            | then-is_empty w ↦ w.value-is ∙ w.is_unbounded.ensures.1 nothing.1
            | else-is_empty w ↦ absurd (let empty = nothing.0 in search rules)
          ],
    )

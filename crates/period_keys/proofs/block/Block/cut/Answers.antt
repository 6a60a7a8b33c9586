use Rattle.std.proofs.Common.{◌≡◌, ◌∙◌, ◌/◌, ℕ, List, ap, drop, take, sym, subst, inl, inr}
use Rattle.std.specs.List.{All, Contains}
use Rattle.std.proofs.lemmas.List.Elements.{All-take}
use Rattle.std.proofs.lemmas.List.Sorted.{All-permutation}
use Rattle.period_keys.specs.Between.{LiesBetween}
use Rattle.period_keys.specs.declared.placed_period.PlacedPeriod.{PlacedPeriod}
use Rattle.period_keys.proofs.Blocks.{in_parts}
use Rattle.period_keys.proofs.block.Block.cut.Goals as goal

pub returns : goal.returns
returns c = λ item there.
    let sorted : List PlacedPeriod = c.sort_by_key.new.self.items in
    let half : ℕ = c.len-half.result / 2 in
    let later : c.in_ok-later.later.items.items ≡ drop half sorted = c.in_ok-later.ensures ∙ c.split_at.ensures.back ∙ ap (drop half) c.as_slice.ensures.value in
    let first : c.tighten.new.self.items.items ≡ take half sorted = c.tighten.ensures ∙ c.truncate.ensures.items in
    elim (in_parts c.args.self.now.items.items sorted half item c.sort_by_key.ensures.permutation there) [
      | inl second ↦ inl (subst (λ (xs : List PlacedPeriod). Contains xs item) (sym later) second)
      | inr rest ↦ inr (subst (λ (xs : List PlacedPeriod). Contains xs item) (sym first) rest)
    ]

pub invariant_of-self : goal.invariant_of-self
invariant_of-self c = record {
  within = All-permutation (LiesBetween c.args.self.now.start c.args.self.now.end) c.args.self.now.items.items c.sort_by_key.new.self.items c.sort_by_key.ensures.permutation c.args.self.now.within;
}

pub invariant_of-self-2 : goal.invariant_of-self-2
invariant_of-self-2 c =
    let sorted : List PlacedPeriod = c.sort_by_key.new.self.items in
    let lies : PlacedPeriod → Type 0 = LiesBetween c.args.self.now.start c.args.self.now.end in
    record {
      within = subst (All lies) (sym c.truncate.ensures.items)
          (All-take lies (c.len-half.result / 2) sorted (All-permutation lies c.args.self.now.items.items sorted c.sort_by_key.ensures.permutation c.args.self.now.within));
    }

use Rattle.std.proofs.Common.{◌∙◌, ◌∷◌}
use Rattle.std.proofs.lemmas.List.Elements.{All-tail}
use Rattle.std.proofs.lemmas.List.Sorted.{All-permutation}
use Rattle.period_keys.specs.Between.{LiesBetween}
use Rattle.period_keys.specs.declared.placed_period.PlacedPeriod.{PlacedPeriod}
use Rattle.period_keys.proofs.Blocks.{all_but_one, left_by_one}
use Rattle.period_keys.proofs.block.Block.take_out.Goals as goal

pub invariant_of-self : goal.invariant_of-self
invariant_of-self c =
    let gone : PlacedPeriod = c.swap_remove-taken.result in
    let lies : PlacedPeriod → Type 0 = LiesBetween c.args.self.now.start c.args.self.now.end in
    record {
      within = All-tail lies gone c.swap_remove-taken.new.self.items
          (All-permutation lies c.args.self.now.items.items (gone ∷ c.swap_remove-taken.new.self.items)
          (all_but_one c.args.self.now.items.items c.swap_remove-taken.new.self.items c.in-Some.place gone c.in-Some.ensures.0 c.swap_remove-taken.ensures.value c.swap_remove-taken.ensures.items)
          c.args.self.now.within);
    }

pub returns-then-eq : goal.returns-then-eq
returns-then-eq c =
    left_by_one c.args.self.now.items.items c.tighten.new.self.items.items c.in-Some.place c.swap_remove-taken.result c.args.item.now c.in-Some.ensures c.swap_remove-taken.ensures.value
    (c.tighten.ensures ∙ c.swap_remove-taken.ensures.items)

pub returns-else-eq-2 : goal.returns-else-eq-2
returns-else-eq-2 c =
    left_by_one c.args.self.now.items.items c.swap_remove-taken.new.self.items c.in-Some.place c.swap_remove-taken.result c.args.item.now c.in-Some.ensures c.swap_remove-taken.ensures.value
    c.swap_remove-taken.ensures.items

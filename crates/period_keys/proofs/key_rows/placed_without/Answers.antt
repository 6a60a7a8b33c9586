use Rattle.std.proofs.Common.{Box, Global, ◌∙◌, Bool, inr, sym, subst}
use Rattle.std.specs.Prelude.{IfSome, Option}
use Rattle.std.specs.Bool.{OnTrue}
use Rattle.std.specs.List.{swap_remove}
use Rattle.period_keys.specs.declared.period_blocks.PeriodBlocks.{PeriodBlocks}
use Rattle.period_keys.specs.Placed.{ArePlaced, ArePlacedIn, HasPlaced}
use Rattle.period_keys.proofs.PlacedRows.{placed_as, placed_less}
use Rattle.period_keys.proofs.key_rows.placed_without.Goals as goal
use Rattle.period_keys.proofs.key_rows.placed_without.Goals.{then-gone-last, else-gone-last}

pub returns-then-replace : goal.returns-then-replace
returns-then-replace c = λ before x at_gone at_last is_last complete.
    let gone = c.args.gone.now in
    let last = c.args.last.now in
    let placed : ArePlaced before c.deref_mut.result.now = subst (ArePlaced before) (sym c.deref_mut.ensures.value) (subst (λ (o : Option (Box PeriodBlocks Global)). IfSome o (ArePlacedIn before)) c.in-Some.is complete) in
    elim c.if-gone-last.branch [
      | then-gone-last w ↦
          subst (ArePlacedIn (swap_remove before gone.place x)) (sym w.less-is)
          (placed_less before x gone last c.deref_mut.result.now c.take_out.new.self c.take_out.new.self at_gone at_last is_last placed c.take_out.ensures (λ other has. inr has) (λ apart. absurd (apart w.if-gone-last.true)))
      | else-gone-last w ↦
          let there : HasPlaced w.replace.new.self (placed_as last.period gone.place) =
          subst (λ (b : Bool). OnTrue b (HasPlaced w.replace.new.self (placed_as last.period gone.place))) (sym w.value-is ∙ c.if-replace.true) w.replace.ensures.put in
          subst (ArePlacedIn (swap_remove before gone.place x)) (sym w.less-is)
          (placed_less before x gone last c.deref_mut.result.now c.take_out.new.self w.replace.new.self at_gone at_last is_last placed c.take_out.ensures (λ other has. w.replace.ensures.others other (subst (λ (blocks : PeriodBlocks). HasPlaced blocks other) (sym w.deref_mut-else-gone-last.ensures.value) has)) (λ apart. there))
    ]

use Rattle.std.proofs.Common.{Box, Global, ◌∙◌, subst, sym}
use Rattle.std.specs.Prelude.{IfSome, Option}
use Rattle.period_keys.specs.declared.period_blocks.PeriodBlocks.{PeriodBlocks}
use Rattle.period_keys.specs.declared.placed_period.PlacedPeriod.{PlacedPeriod}
use Rattle.period_keys.specs.Placed.{ArePlaced, ArePlacedIn, HasPlaced}
use Rattle.period_keys.proofs.PlacedRows.{placed_last, placed_next}
use Rattle.period_keys.proofs.key_rows.placed_with.Goals as goal

pub returns-in-Ok : goal.returns-in-Ok
returns-in-Ok c = λ before row rows_are last_is complete.
    let placed : ArePlaced before c.deref_mut.result.now = subst (ArePlaced before) (sym c.deref_mut.ensures.value) (subst (λ (o : Option (Box PeriodBlocks Global)). IfSome o (ArePlacedIn before)) c.in-Some.is complete) in
    let item : PlacedPeriod = c.placed_at-item.result in
    placed_next c.args.rows.now before row c.deref_mut.result.now c.add.new.self rows_are placed c.in-Ok.ensures.kept
    (subst (HasPlaced c.add.new.self) (placed_last c.args.rows.now before row item rows_are (c.placed_at-item.ensures.place ∙ last_is) c.placed_at-item.ensures.row) c.in-Ok.ensures.there)

use Rattle.std.proofs.Common.{Box, Global, List, sym, subst, get_or}
use Rattle.std.specs.Prelude.{IfSome, Option}
use Rattle.period_core.specs.declared.version.VersionRow.{VersionRow}
use Rattle.period_keys.specs.declared.period_blocks.PeriodBlocks.{PeriodBlocks}
use Rattle.period_keys.specs.declared.placed_period.PlacedPeriod.{PlacedPeriod}
use Rattle.period_keys.specs.Placed.{ArePlaced, ArePlacedIn}
use Rattle.period_keys.proofs.Blocks.{Has}
use Rattle.period_keys.proofs.PlacedRows.{placed_as}
use Rattle.period_keys.proofs.key_rows.KeyRows.places_near.Goals as goal

pub returns-clause-all : goal.returns-clause-all
returns-clause-all c = λ place d inside near none.
    let rows : List VersionRow = c.args.self.now.rows.items in
    let complete : ArePlaced rows c.deref.result.now = subst (ArePlaced rows) (sym c.deref.ensures) (subst (λ (o : Option (Box PeriodBlocks Global)). IfSome o (ArePlacedIn rows)) c.in-Some.is c.args.self.now.complete) in
    let item : PlacedPeriod = placed_as (get_or rows place d).period place in
    complete place d inside (λ has. none (c.in_ok-places.ensures.all item (subst (Has item) (sym c.as_slice-blocks.ensures) has) near))

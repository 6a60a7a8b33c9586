use Rattle.std.proofs.Common.{Box, Global, ℤ, List, map, subst, sym}
use Rattle.std.specs.Prelude.{IfSome, Option}
use Rattle.std.specs.List.{Any}
use Rattle.period_core.specs.declared.period.Period.{Period}
use Rattle.period_core.specs.declared.version.VersionRow.{VersionRow}
use Rattle.period_keys.specs.declared.block.Block.{Block}
use Rattle.period_keys.specs.declared.period_blocks.PeriodBlocks.{PeriodBlocks}
use Rattle.period_keys.specs.Index.{SharesDayOfKept, periods_at}
use Rattle.period_keys.specs.Keys.{IsLeastOf}
use Rattle.period_keys.specs.Near.{IsKeptAt}
use Rattle.period_keys.specs.Placed.{ArePlaced, ArePlacedIn}
use Rattle.period_keys.specs.Versions.{period_of}
use Rattle.period_keys.proofs.NearRows.{kept_placed}
use Rattle.period_keys.proofs.key_rows.KeyRows.first_shared.Goals as goal

pub returns-in-Some : goal.returns-in-Some
returns-in-Some c =
    let rows : List VersionRow = c.args.self.now.rows.items in
    let gone : List Period = periods_at c.args.gone.now c.args.key.now in
    let InBlocks : List VersionRow → List Block → ℤ → Type 0 = λ rs bs day. Any (λ (block : Block). Any (IsKeptAt rs gone c.args.period.now day) block.items.items) bs in
    kept_placed rows c.deref.result.now gone c.args.period.now (subst (ArePlaced rows) (sym c.deref.ensures) (subst (λ (o : Option (Box PeriodBlocks Global)). IfSome o (ArePlacedIn rows)) c.in-Some.is c.args.self.now.complete)) c.first_shared_near.result
    (subst (λ (bs : List Block). IsLeastOf (InBlocks rows bs) c.first_shared_near.result) c.as_slice.ensures
    (subst (λ (rs : List VersionRow). IsLeastOf (InBlocks rs c.as_slice.result.now) c.first_shared_near.result) c.as_slice-rows.ensures.value c.first_shared_near.ensures))

pub returns-in-None : goal.returns-in-None
returns-in-None c =
    subst (λ (rs : List VersionRow). IsLeastOf (SharesDayOfKept (map period_of rs) (periods_at c.args.gone.now c.args.key.now) c.args.period.now) c.first_shared_among.result) c.as_slice-rows.ensures.value c.first_shared_among.ensures

use Rattle.std.proofs.Common.{◌≡◌, List, take, subst, arith}
use Rattle.std.specs.List.{Any}
use Rattle.std.proofs.lemmas.List.{take_all}
use Rattle.period_keys.specs.declared.block.Block.{Block}
use Rattle.period_keys.specs.Index.{periods_at}
use Rattle.period_keys.specs.Keys.{IsLeastOf}
use Rattle.period_keys.specs.Near.{IsKeptAt}
use Rattle.period_keys.proofs.Leasts.{least_more, least_none}
use Rattle.period_keys.proofs.near_rows.first_shared_near.Goals as goal

pub loop-block-init : goal.loop-block-init
loop-block-init c = least_none (λ (block : Block) day. Any (IsKeptAt c.args.rows.now (periods_at c.args.gone.now c.args.key.now) c.args.period.now day) block.items.items)

pub loop-block-preserved : goal.loop-block-preserved
loop-block-preserved c =
    least_more (λ (block : Block) day. Any (IsKeptAt c.args.rows.now (periods_at c.args.gone.now c.args.key.now) c.args.period.now day) block.items.items) c.args.blocks.now c.loop-block.block-index c.block-item.result
    c.loop-block.found c.first_shared_in.result c.earlier-found.result (omega arith) c.block-item.is c.loop-block.invariant c.first_shared_in.ensures c.earlier-found.ensures

pub returns : goal.returns
returns c = let all : take c.loop-block.block-index c.args.blocks.now ≡ c.args.blocks.now = take_all _ _ (omega arith) in
    subst (λ (blocks : List Block). IsLeastOf (λ day. Any (λ (block : Block). Any (IsKeptAt c.args.rows.now (periods_at c.args.gone.now c.args.key.now) c.args.period.now day) block.items.items) blocks) c.loop-block.found) all c.loop-block.invariant

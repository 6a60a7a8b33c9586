use Rattle.std.proofs.Common.{◌≡◌, List, take, subst, arith}
use Rattle.std.specs.List.{Any}
use Rattle.std.proofs.lemmas.List.{take_all}
use Rattle.period_keys.specs.declared.placed_period.PlacedPeriod.{PlacedPeriod}
use Rattle.period_keys.specs.Index.{periods_at}
use Rattle.period_keys.specs.Keys.{IsLeastOf}
use Rattle.period_keys.specs.Near.{IsKeptAt}
use Rattle.period_keys.proofs.Leasts.{least_more, least_none}
use Rattle.period_keys.proofs.near_rows.first_shared_of.Goals as goal

pub loop-item-init : goal.loop-item-init
loop-item-init c = least_none (λ (item : PlacedPeriod) day. IsKeptAt c.args.rows.now (periods_at c.args.gone.now c.args.key.now) c.args.period.now day item)

pub loop-item-preserved : goal.loop-item-preserved
loop-item-preserved c =
    least_more (λ (item : PlacedPeriod) day. IsKeptAt c.args.rows.now (periods_at c.args.gone.now c.args.key.now) c.args.period.now day item) c.args.items.now c.loop-item.item-index c.item-item.result
    c.loop-item.found c.first_shared_at.result c.earlier-found.result (omega arith) c.item-item.is c.loop-item.invariant c.first_shared_at.ensures c.earlier-found.ensures

pub returns : goal.returns
returns c = let all : take c.loop-item.item-index c.args.items.now ≡ c.args.items.now = take_all _ _ (omega arith) in
    subst (λ (items : List PlacedPeriod). IsLeastOf (λ day. Any (IsKeptAt c.args.rows.now (periods_at c.args.gone.now c.args.key.now) c.args.period.now day) items) c.loop-item.found) all c.loop-item.invariant

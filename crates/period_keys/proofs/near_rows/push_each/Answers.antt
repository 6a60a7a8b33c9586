use Rattle.std.proofs.Common.{◌≡◌, ℕ, List, take, sym, subst, inl, inr, arith}
use Rattle.std.specs.List.{Contains}
use Rattle.std.proofs.lemmas.List.{take_all}
use Rattle.period_keys.specs.declared.placed_period.PlacedPeriod.{PlacedPeriod}
use Rattle.period_keys.specs.Between.{Meets}
use Rattle.period_keys.proofs.Blocks.{taken}
use Rattle.period_keys.proofs.near_rows.push_each.Goals as goal

pub loop-item-preserved : goal.loop-item-preserved
loop-item-preserved c =
    let items : List PlacedPeriod = c.args.items.now in
    let places : List ℕ = c.push_place.new.places.items in
    record {
      kept = λ place there. c.in_ok-push_place.ensures.kept place (c.loop-item.invariant.kept place there);
      all = λ item there near. elim (taken items c.loop-item.item-index c.item-item.result item (omega arith) c.item-item.is there) [
        | inl before ↦ c.in_ok-push_place.ensures.kept item.place (c.loop-item.invariant.all item before near)
        | inr is ↦ subst (λ (x : PlacedPeriod). Meets x.period c.args.period.now → Contains places x.place) is c.in_ok-push_place.ensures.near near
      ];
    }

pub returns-clause-all : goal.returns-clause-all
returns-clause-all c = λ item there near.
    let all : take c.loop-item.item-index c.args.items.now ≡ c.args.items.now = take_all _ _ (omega arith) in
    c.loop-item.invariant.all item (subst (λ (xs : List PlacedPeriod). Contains xs item) (sym all) there) near

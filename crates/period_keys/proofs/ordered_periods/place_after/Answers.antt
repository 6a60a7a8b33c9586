use Rattle.std.proofs.Common.{◌<◌, ◌+◌, ◌-◌, ◌/◌, ℕ, length, arith, refl}
use Rattle.period_keys.proofs.InOrder.{by_start, from_start, later_start}
use Rattle.period_keys.proofs.ordered_periods.place_after.Goals as goal

pub loop-low-preserved-then-starts_by : goal.loop-low-preserved-then-starts_by
loop-low-preserved-then-starts_by c =
    let inv = c.loop-low.invariant in
    let middle : ℕ = c.loop-low.low + (c.loop-low.high - c.loop-low.low) / 2 in
    let below : middle < length c.args.periods.now = omega (arith, inv.inside) in
    record {
      upto = omega arith;
      inside = inv.inside;
      before = by_start c.args.periods.now middle c.index-periods-middle.result c.args.day c.requires below c.index-periods-middle.is (c.if-starts_by.ensures.0 refl);
      after = inv.after;
    }

pub loop-low-preserved : goal.loop-low-preserved
loop-low-preserved c =
    let inv = c.loop-low.invariant in
    let middle : ℕ = c.loop-low.low + (c.loop-low.high - c.loop-low.low) / 2 in
    let below : middle < length c.args.periods.now = omega (arith, inv.inside) in
    record {
      upto = omega arith;
      inside = omega (arith, inv.inside);
      before = inv.before;
      after = from_start c.args.periods.now middle c.index-periods-middle.result c.args.day c.requires below c.index-periods-middle.is
          (later_start c.index-periods-middle.result.start c.args.day (λ le. (let wrong = c.if-starts_by.ensures.1 le in cc)));
    }

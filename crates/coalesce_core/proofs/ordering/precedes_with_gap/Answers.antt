use Rattle.std.proofs.Common.{rules, ◌≡◌}
use Rattle.std.specs.declared.cmp.Ordering.TheVariants.{Less}
use Rattle.period_core.specs.Order.{values_cmp}
use Rattle.coalesce_core.proofs.Order.{PrecedesWithGap-less}
use Rattle.coalesce_core.proofs.ordering.precedes_with_gap.Goals as goal

pub returns-in-Less : goal.returns-in-Less
returns-in-Less c =
    let less : values_cmp c.args.first.now.values c.args.second.now.values ≡ Less = search rules in
    λ _. PrecedesWithGap-less c.args.first.now c.args.second.now less

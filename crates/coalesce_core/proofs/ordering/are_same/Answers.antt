use Rattle.std.proofs.Common.{rules, ◌≡◌}
use Rattle.std.specs.Ordering.{eq_by_cmp}
use Rattle.period_core.specs.Order.{values_cmp}
use Rattle.period_core.specs.OrderLaws.{values_eq}
use Rattle.coalesce_core.proofs.ordering.are_same.Goals as goal

pub returns : goal.returns
returns c =
    let value : c.eq.result ≡ eq_by_cmp values_cmp c.args.first.now c.args.second.now = search rules in
    rw value (values_eq c.args.first.now c.args.second.now)

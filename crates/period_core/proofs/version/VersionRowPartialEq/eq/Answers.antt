use Rattle.std.proofs.Common.{rules, ◌≡◌}
use Rattle.std.specs.Ordering.{eq_by_cmp}
use Rattle.period_core.specs.Order.{version_cmp}
use Rattle.period_core.proofs.VersionOrder.{version_eq}
use Rattle.period_core.proofs.version.VersionRowPartialEq.eq.Goals as goal

pub returns-clause-same : goal.returns-clause-same
returns-clause-same c =
    let value : c.eq.result ≡ eq_by_cmp version_cmp c.args.self.now c.args.other.now = search rules in
    rw value (version_eq c.args.self.now c.args.other.now)

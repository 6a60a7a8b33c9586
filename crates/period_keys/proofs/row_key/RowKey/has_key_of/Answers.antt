use Rattle.std.proofs.Common.{◌≡◌, ◌↔◌, subst₂}
use Rattle.std.specs.Bool.{IsTrue}
use Rattle.period_core.specs.OrderLaws.{values_eq}
use Rattle.period_core.specs.declared.row.PeriodRow.{PeriodRow}
use Rattle.period_keys.proofs.row_key.RowKey.has_key_of.Goals as goal

pub returns : goal.returns
returns c =
    subst₂ (λ (one other : PeriodRow). IsTrue c.eq.result ↔ (one.values ≡ other.values)) c.self.view_is c.other.view_is
    (rw c.eq.ensures (values_eq c.self.inside.key.now c.other.inside.key.now))

use Rattle.std.proofs.Common.{List, subst}
use Rattle.std.specs.List.{Any}
use Rattle.period_keys.specs.declared.placed_period.PlacedPeriod.{PlacedPeriod}
use Rattle.period_keys.specs.Index.{periods_at}
use Rattle.period_keys.specs.Keys.{IsLeastOf}
use Rattle.period_keys.specs.Near.{IsKeptAt}
use Rattle.period_keys.proofs.Members.{member_of}
use Rattle.period_keys.proofs.NearRows.{both_meet}
use Rattle.period_keys.proofs.near_rows.first_shared_in.Goals as goal

pub returns-then-may_meet : goal.returns-then-may_meet
returns-then-may_meet c =
    subst (λ (items : List PlacedPeriod). IsLeastOf (λ day. Any (IsKeptAt c.args.rows.now (periods_at c.args.gone.now c.args.key.now) c.args.period.now day) items) c.first_shared_of.result) c.as_slice.ensures c.first_shared_of.ensures

pub returns-else-may_meet : goal.returns-else-may_meet
returns-else-may_meet c = λ day some.
    let (item, there, (at, both, kept)) = member_of (IsKeptAt c.args.rows.now (periods_at c.args.gone.now c.args.key.now) c.args.period.now day) c.args.block.now.items.items some in
    c.may_meet.ensures c.if-may_meet.false item there (both_meet item.period c.args.period.now day both)

use Rattle.std.proofs.Common.{◌≡◌, map, refl}
use Rattle.period_core.specs.declared.period.Period.{Period}
use Rattle.period_keys.specs.declared.placed_period.PlacedPeriod.{PlacedPeriod}
use Rattle.period_keys.specs.Keys.{IsWithin}
use Rattle.period_keys.specs.Versions.{period_of}
use Rattle.period_keys.proofs.Members.{some_member}
use Rattle.period_keys.proofs.NearRows.{contains_period}
use Rattle.period_keys.proofs.near_rows.end_at.Goals as goal

pub returns-then-is_at : goal.returns-then-is_at
returns-then-is_at c =
    let item : PlacedPeriod = c.args.item.now in
    some_member (λ (period : Period). IsWithin period c.args.day × (period.end ≡ item.period.end)) (map period_of c.args.rows.now) item.period
    (contains_period c.args.rows.now item (c.if-is_at.ensures.0 refl)) (c.if-not-contains_day.ensures.days.0 refl, refl)

use Rattle.std.proofs.Common.{ℕ, take}
use Rattle.std.specs.List.{Contains}
use Rattle.period_keys.specs.declared.placed_period.PlacedPeriod.{PlacedPeriod}
use Rattle.period_keys.specs.Between.{Meets}
use Rattle.period_keys.proofs.near_rows.push_each.Given as goal

abbrev pub invariant-loop-item : goal.invariant-loop-item
invariant-loop-item l = record {
  kept : (place : ℕ) → Contains l.fn.places.items place → Contains l.places.items place;
  all : (item : PlacedPeriod) → Contains (take l.item-index l.items) item → Meets item.period l.period → Contains l.places.items item.place;
}

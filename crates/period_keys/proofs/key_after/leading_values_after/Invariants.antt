use Rattle.std.proofs.Common.{◌≡◌, ◌+◌, ◌<◌, ◌^◌, length, take}
use Rattle.std.specs.List.{All}
use Rattle.period_keys.specs.FixedKeys.{FixesKeyAfter, HasValue, SaysAfter}
use Rattle.period_keys.proofs.key_after.leading_values_after.Given as goal

abbrev pub invariant-loop-position : goal.invariant-loop-position
invariant-loop-position l =
    FixesKeyAfter l.conditions l.known l.at l.start l.width (take l.position-index l.positions) l.leading.items
    × (l.start + l.width < 2 ^ 64 → All (HasValue (SaysAfter l.conditions l.known l.at l.start l.width)) (take l.position-index l.positions))
    × (length l.leading.items ≡ l.position-index)

use Rattle.std.proofs.Common.{◌≡◌, ◌+◌, ◌<◌, ◌^◌, length, take}
use Rattle.std.specs.List.{All}
use Rattle.sql_statements.specs.declared.statement.Comparison.TheVariants.{Equal}
use Rattle.period_keys.specs.FixedKeys.{FixesKeyWithin, HasValue, SaysWithin}
use Rattle.period_keys.proofs.fixed_keys.leading_values_within.Given as goal

abbrev pub invariant-loop-position : goal.invariant-loop-position
invariant-loop-position l =
    FixesKeyWithin l.conditions l.start l.width (take l.position-index l.positions) l.leading.items
    × (l.start + l.width < 2 ^ 64 → All (HasValue (SaysWithin l.conditions l.start l.width Equal)) (take l.position-index l.positions))
    × (length l.leading.items ≡ l.position-index)

use Rattle.std.proofs.Common.{◌≡◌, ℕ, ℤ, map, take}
use Rattle.std.specs.List.{All, AllByRecursion}
use Rattle.period_core.specs.Encoding.{IsColumnValue}
use Rattle.period_core.specs.Moments.{forever}
use Rattle.version_tables.specs.Represents.{new_version}
use Rattle.version_store.proofs.Leaves.{new_of}
use Rattle.version_store.proofs.written_rows.new_rows.Given as goal

abbrev pub invariant-loop-row : goal.invariant-loop-row
invariant-loop-row l =
    ((table : ℕ) (moment : ℤ) → map (new_version table moment forever) l.new.items ≡ map (new_of table moment) (take l.row-index l.rows))
    × AllByRecursion (λ row. All IsColumnValue row.values) (take l.row-index l.rows)

use Rattle.std.proofs.Common.{◌≡◌, ◌+ℤ◌, pos, take}
use Rattle.sqlite.specs.Values.{bound}
use Rattle.version_tables.specs.Adding.{given_numbered}
use Rattle.version_tables.proofs.insertion.numbered_parameters.Given as goal

abbrev pub invariant-loop-row : goal.invariant-loop-row
invariant-loop-row l =
    (bound l.all.items ≡ given_numbered l.table l.from l.to l.first (take l.row-index l.rows))
    × (l.number ≡ l.first +ℤ pos l.row-index)

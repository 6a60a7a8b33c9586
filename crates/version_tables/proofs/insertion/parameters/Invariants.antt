use Rattle.std.proofs.Common.{◌≡◌, take}
use Rattle.sqlite.specs.Values.{bound}
use Rattle.version_tables.specs.Adding.{given_rows}
use Rattle.version_tables.proofs.insertion.parameters.Given as goal

abbrev pub invariant-loop-row : goal.invariant-loop-row
invariant-loop-row l = bound l.all.items ≡ given_rows l.table l.from l.to (take l.row-index l.rows)

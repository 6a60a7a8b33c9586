use Rattle.std.proofs.Common.{◌≡◌, map, take}
use Rattle.history_model.specs.Versions.{row_of}
use Rattle.period_keys.proofs.faults.rows_of.Given as goal

abbrev pub invariant-loop-version : goal.invariant-loop-version
invariant-loop-version l = l.rows.items ≡ map row_of (take l.version-index l.versions)

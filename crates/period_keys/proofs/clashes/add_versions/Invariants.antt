use Rattle.std.proofs.Common.{◌++◌, List, map, take}
use Rattle.period_core.specs.declared.row.PeriodRow.{PeriodRow}
use Rattle.history_model.specs.Versions.{row_of}
use Rattle.period_keys.specs.Index.{IsIndexOf}
use Rattle.period_keys.proofs.clashes.add_versions.Given as goal

abbrev pub invariant-loop-version : goal.invariant-loop-version
invariant-loop-version l = (before : List PeriodRow) → IsIndexOf l.positions before l.fn.index → IsIndexOf l.positions (before ++ map row_of (take l.version-index l.versions)) l.index

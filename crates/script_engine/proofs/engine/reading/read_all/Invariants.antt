use Rattle.std.proofs.Common.{◌≡◌, ◌++◌, List}
use Rattle.period_core.specs.declared.version.VersionRow.{VersionRow}
use Rattle.period_keys.specs.Rows.{rows_of_lists}
use Rattle.script_engine.specs.engine.Reading.{AddRead}
use Rattle.script_engine.proofs.engine.reading.read_all.Given as goal

abbrev pub invariant-loop-group : goal.invariant-loop-group
invariant-loop-group g l =
    (done : List VersionRow) × (l.current.rows ≡ done ++ rows_of_lists l.group-iterator)
    × AddRead (g.S.Selection.IsTaken l.selection) (g.S.Selection.MayLack l.selection) g.S.Selection.made done l.fn.rows.items l.rows.items

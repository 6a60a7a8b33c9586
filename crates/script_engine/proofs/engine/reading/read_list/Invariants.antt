use Rattle.std.proofs.Common.{◌≡◌, ◌++◌, List, map}
use Rattle.period_core.specs.declared.version.VersionRow.{VersionRow}
use Rattle.script_engine.specs.engine.Reading.{AreTaken}
use Rattle.script_engine.proofs.engine.reading.read_list.Given as goal

abbrev pub invariant-loop-version : goal.invariant-loop-version
invariant-loop-version g l =
    (done some : List VersionRow) × (l.initial.version-iterator.rest.items ≡ done ++ l.version-iterator.rest.items)
    × AreTaken (g.S.Selection.IsTaken l.selection) (g.S.Selection.MayLack l.selection) done some
    × (l.rows.items ≡ l.fn.rows.items ++ map g.S.Selection.made some)

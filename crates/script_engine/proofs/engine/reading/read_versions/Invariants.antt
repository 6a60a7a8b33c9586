use Rattle.std.proofs.Common.{take}
use Rattle.script_engine.specs.engine.Reading.{AddRead}
use Rattle.script_engine.proofs.engine.reading.read_versions.Given as goal

abbrev pub invariant-loop-version : goal.invariant-loop-version
invariant-loop-version g l =
    AddRead (g.S.Selection.IsTaken l.selection) (g.S.Selection.MayLack l.selection) g.S.Selection.made (take l.version-index l.versions) l.fn.rows.items l.rows.items

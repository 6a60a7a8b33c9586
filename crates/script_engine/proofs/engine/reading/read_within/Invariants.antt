use Rattle.std.proofs.Common.{◌≡◌, ◌++◌, List, map}
use Rattle.std.specs.Borrow.{Bor}
use Rattle.period_core.specs.declared.version.VersionRow.{VersionRow}
use Rattle.period_keys.specs.declared.key_rows.KeyRows.{KeyRows}
use Rattle.period_keys.specs.Rows.{rows_of_lists}
use Rattle.script_engine.specs.engine.Reading.{AddRead}
use Rattle.script_engine.proofs.engine.reading.read_within.Given as goal

abbrev pub invariant-loop-group : goal.invariant-loop-group
invariant-loop-group g l =
    (done : List VersionRow)
    × (rows_of_lists (map (λ (group : Bor KeyRows). group.now) l.initial.group-iterator.rest.items) ≡ done ++ rows_of_lists (map (λ (group : Bor KeyRows). group.now) l.group-iterator.rest.items))
    × AddRead (g.S.Selection.IsTaken l.selection) (g.S.Selection.MayLack l.selection) g.S.Selection.made done l.fn.rows.items l.rows.items

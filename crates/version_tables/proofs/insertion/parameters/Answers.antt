use Rattle.std.proofs.Common.{ap, ◌∙◌}
use Rattle.std.proofs.lemmas.List.{map-append}
use Rattle.sqlite.specs.Values.{bound}
use Rattle.version_tables.proofs.Adds.{more_given}
use Rattle.version_tables.proofs.insertion.parameters.Goals as goal

pub loop-row-preserved : goal.loop-row-preserved
loop-row-preserved c =
    let row = c.row-item.result in
    ap bound c.in_ok-extend_from_slice-2.ensures.items ∙ map-append _ c.loop-row.all.items _
    ∙ rw (c.loop-row.invariant, c.cells.ensures) (more_given _ _ _ c.args.rows.now c.loop-row.row-index row c.loop-row-test.true c.row-item.is)

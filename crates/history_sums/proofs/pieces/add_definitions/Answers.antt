use Rattle.std.proofs.Common.{length, subst}
use Rattle.md5.specs.Md5.{Holds}
use Rattle.history_sums.specs.Sums.{count_bytes, definition_bytes}
use Rattle.history_sums.proofs.SumFacts.{piece-more}
use Rattle.history_sums.proofs.pieces.add_definitions.Goals as goal

pub loop-table-preserved : goal.loop-table-preserved
loop-table-preserved c bytes held =
    let tables = c.args.tables.now in
    subst (Holds c.add_definition.new.sum) (piece-more definition_bytes tables c.loop-table.table-index c.table-item.result bytes (count_bytes (length tables)) c.loop-table-test.true c.table-item.is)
    (c.in_ok-add_definition.ensures _ (c.loop-table.invariant bytes held))

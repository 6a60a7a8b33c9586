use Rattle.std.proofs.Common.{take}
use Rattle.history_model.specs.OrdinaryQuery.{IsProjection}
use Rattle.snapshot_audit.proofs.combined_rows.item_values.Given as goal

abbrev pub invariant-loop-item : goal.invariant-loop-item
invariant-loop-item l = IsProjection (take l.item-index l.items) l.values l.row.items

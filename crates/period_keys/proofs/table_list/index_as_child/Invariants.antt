use Rattle.std.proofs.Common.{take}
use Rattle.std.specs.Prelude.{Contains}
use Rattle.catalog_core.specs.declared.table.Reference.{Reference}
use Rattle.period_keys.specs.Lawful.{own_positions}
use Rattle.period_keys.specs.TableRows.{HasMoreIndexes}
use Rattle.period_keys.proofs.table_list.index_as_child.Given as goal

abbrev pub invariant-loop-reference : goal.invariant-loop-reference
invariant-loop-reference l = record {
  kept : HasMoreIndexes l.fn.table l.table;
  done : (reference : Reference) → Contains (take l.reference-index l.references) reference → Contains l.table.indexed (own_positions l.child reference);
}

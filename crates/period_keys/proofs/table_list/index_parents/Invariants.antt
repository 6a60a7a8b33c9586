use Rattle.std.proofs.Common.{take}
use Rattle.std.specs.Prelude.{Contains}
use Rattle.catalog_core.specs.declared.table.Reference.{Reference}
use Rattle.period_keys.specs.Current.{HaveMoreIndexes, IsParentIndexed}
use Rattle.period_keys.proofs.table_list.index_parents.Given as goal

abbrev pub invariant-loop-reference : goal.invariant-loop-reference
invariant-loop-reference l = record {
  kept : HaveMoreIndexes l.fn.tables l.tables;
  done : (reference : Reference) → Contains (take l.reference-index l.references) reference → IsParentIndexed l.definitions reference l.tables;
}

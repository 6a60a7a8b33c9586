use Rattle.std.proofs.Common.{◌≡◌, ◌<◌, ◌+◌, ℕ, Some}
use Rattle.std.specs.List.{slice_get}
use Rattle.catalog_core.specs.declared.table.TableDef.{TableDef}
use Rattle.period_keys.specs.Current.{AreReferencesIndexed, HaveMoreIndexes}
use Rattle.period_keys.proofs.table_list.index_all.Given as goal

abbrev pub invariant-loop-place : goal.invariant-loop-place
invariant-loop-place l = record {
  kept : HaveMoreIndexes l.fn.tables l.tables;
  done : (k : ℕ) (child : TableDef) → k < l.place → slice_get l.definitions k ≡ Some child → AreReferencesIndexed l.definitions l.tables (k + 1) child;
}

use Rattle.std.specs.Prelude.{◌≡◌, take, false, ◌||◌}
use Rattle.std.specs.List.{list_any}
use Rattle.sql_statements.specs.declared.create.ColumnElement.{ColumnElement}
use Rattle.sql_statements.specs.declared.create.PeriodElement.{PeriodElement}
use Rattle.sql_statements.specs.declared.create.KeyElement.{KeyElement}
use Rattle.sql_statements.specs.declared.create.ReferenceElement.{ReferenceElement}
use Rattle.catalog_core.specs.create.Creation.{is_shared}
use Rattle.catalog_core.specs.table.Naming.{repeats}
use Rattle.catalog_core.proofs.create.names.repeats_name.Given as goal

abbrev pub invariant-loop-column : goal.invariant-loop-column
invariant-loop-column l = list_any (λ (column : ColumnElement). is_shared l.create column.name) (take l.column-index l.column-items) ≡ false

abbrev pub invariant-loop-period : goal.invariant-loop-period
invariant-loop-period l = list_any (λ (period : PeriodElement). is_shared l.create period.name) (take l.period-index l.period-items) ≡ false

abbrev pub invariant-loop-key : goal.invariant-loop-key
invariant-loop-key l = list_any (λ (key : KeyElement). repeats key.columns) (take l.key-index l.key-items) ≡ false

abbrev pub invariant-loop-reference : goal.invariant-loop-reference
invariant-loop-reference l = list_any (λ (reference : ReferenceElement). repeats reference.columns || repeats reference.parent_columns) (take l.reference-index l.reference-items) ≡ false

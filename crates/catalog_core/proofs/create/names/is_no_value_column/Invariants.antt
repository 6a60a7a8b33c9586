use Rattle.std.specs.Prelude.{◌≡◌, take, false, ◌||◌, bytes_eq}
use Rattle.std.specs.List.{list_any}
use Rattle.sql_statements.specs.declared.create.PeriodElement.{PeriodElement}
use Rattle.sql_statements.specs.declared.create.SystemElement.{SystemElement}
use Rattle.catalog_core.proofs.create.names.is_no_value_column.Given as goal

abbrev pub invariant-loop-period : goal.invariant-loop-period
invariant-loop-period l = list_any (λ (period : PeriodElement). bytes_eq l.column.name period.start || bytes_eq l.column.name period.end) (take l.period-index l.period-items) ≡ false

abbrev pub invariant-loop-system : goal.invariant-loop-system
invariant-loop-system l = list_any (λ (system : SystemElement). bytes_eq l.column.name system.start || bytes_eq l.column.name system.end) (take l.system-index l.system-items) ≡ false

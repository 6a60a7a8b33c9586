use Rattle.std.specs.Prelude.{◌≡◌, bytes_eq, count_by, take}
use Rattle.sql_statements.specs.declared.create.PeriodElement.{PeriodElement}
use Rattle.catalog_core.specs.table.Naming.{Name}
use Rattle.catalog_core.specs.create.PeriodCounts.{count_of}
use Rattle.catalog_core.proofs.create.period_counts.period_counts.Given as goal

abbrev pub invariant-loop-period : goal.invariant-loop-period
invariant-loop-period l = (name : Name) → count_of l.counts name ≡ count_by (λ (x : PeriodElement). bytes_eq name x.name) (take l.period-index l.period-items)

use Rattle.std.specs.Prelude.{◌≡◌, false, not, take}
use Rattle.std.specs.List.{list_any}
use Rattle.sql_statements.specs.declared.create.PeriodElement.{PeriodElement}
use Rattle.catalog_core.specs.create.Definition.{columns_of, own_place}
use Rattle.catalog_core.specs.create.Places.{are_dates}
use Rattle.catalog_core.proofs.create.shape.has_bad_period.Given as goal

abbrev pub invariant-loop-x : goal.invariant-loop-x
invariant-loop-x l = list_any (λ (x : PeriodElement). not (are_dates (columns_of l.create) (own_place l.create x.start) (own_place l.create x.end))) (take l.x-index l.x-items) ≡ false

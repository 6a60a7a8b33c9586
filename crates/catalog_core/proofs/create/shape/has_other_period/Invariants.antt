use Rattle.std.specs.Prelude.{◌≡◌, take, false}
use Rattle.std.specs.List.{list_any}
use Rattle.sql_statements.specs.declared.create.PeriodElement.{PeriodElement}
use Rattle.sql_statements.specs.declared.create.ReferenceElement.{ReferenceElement}
use Rattle.catalog_core.specs.create.Creation.{is_used_otherwise, names_other_period}
use Rattle.catalog_core.proofs.create.shape.has_other_period.Given as goal

abbrev pub invariant-loop-x : goal.invariant-loop-x
invariant-loop-x l = list_any (λ (x : PeriodElement). is_used_otherwise l.create x.name) (take l.x-index l.x-items) ≡ false

abbrev pub invariant-loop-reference : goal.invariant-loop-reference
invariant-loop-reference l = list_any (λ (reference : ReferenceElement). names_other_period l.catalog.tables reference) (take l.reference-index l.reference-items) ≡ false

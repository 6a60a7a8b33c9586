use Rattle.std.specs.Prelude.{◌≡◌, ◌||◌, false, take}
use Rattle.std.specs.List.{list_any}
use Rattle.sql_statements.specs.declared.create.SystemElement.{SystemElement}
use Rattle.catalog_core.specs.create.Creation.{is_other}
use Rattle.catalog_core.specs.create.Places.{is_row_end, is_row_start}
use Rattle.catalog_core.proofs.create.shape.has_bad_system_period.Given as goal

abbrev pub invariant-loop-x : goal.invariant-loop-x
invariant-loop-x l = list_any (λ (x : SystemElement). is_other is_row_start l.create x.start || is_other is_row_end l.create x.end) (take l.x-index l.x-items) ≡ false

use Rattle.std.specs.Prelude.{◌≡◌, take, false, bytes_eq, not}
use Rattle.std.specs.List.{list_any}
use Rattle.sql_statements.specs.declared.create.KeyElement.{KeyElement}
use Rattle.sql_statements.specs.declared.create.ReferenceElement.{ReferenceElement}
use Rattle.catalog_core.proofs.create.shape.is_used_otherwise.Given as goal

abbrev pub invariant-loop-key : goal.invariant-loop-key
invariant-loop-key l = list_any (λ (key : KeyElement). not (bytes_eq key.period l.period)) (take l.key-index l.key-items) ≡ false

abbrev pub invariant-loop-reference : goal.invariant-loop-reference
invariant-loop-reference l = list_any (λ (reference : ReferenceElement). not (bytes_eq reference.period l.period)) (take l.reference-index l.reference-items) ≡ false

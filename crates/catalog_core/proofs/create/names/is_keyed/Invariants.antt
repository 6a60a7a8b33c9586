use Rattle.std.specs.Prelude.{◌≡◌, bytes_eq, false, take}
use Rattle.std.specs.List.{list_any}
use Rattle.sql_statements.specs.declared.create.KeyElement.{KeyElement}
use Rattle.sql_statements.specs.declared.create.ReferenceElement.{ReferenceElement}
use Rattle.catalog_core.proofs.create.names.is_keyed.Given as goal

abbrev pub invariant-loop-key : goal.invariant-loop-key
invariant-loop-key l = list_any (λ (key : KeyElement). list_any (bytes_eq l.name) key.columns) (take l.key-index l.key-items) ≡ false

abbrev pub invariant-loop-reference : goal.invariant-loop-reference
invariant-loop-reference l = list_any (λ (reference : ReferenceElement). list_any (bytes_eq l.name) reference.columns) (take l.reference-index l.reference-items) ≡ false

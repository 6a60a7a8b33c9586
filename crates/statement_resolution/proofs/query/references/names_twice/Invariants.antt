use Rattle.std.proofs.Common.{◌≡◌, take, false}
use Rattle.std.specs.List.{list_any}
use Rattle.statement_resolution.proofs.lemmas.query.ReferenceLists.{known_to}
use Rattle.statement_resolution.proofs.query.references.names_twice.Given as goal

abbrev pub invariant-loop-reference : goal.invariant-loop-reference
invariant-loop-reference l = list_any (known_to l.references) (take l.reference-index l.references) ≡ false

use Rattle.std.proofs.Common.{◌≡◌, ◌+◌, map, take, true}
use Rattle.statement_resolution.proofs.lemmas.query.ReferenceLists.{Borrowed}
use Rattle.catalog_core.specs.query.Fitting.{are_in_place}
use Rattle.statement_resolution.specs.Faults.{either, faults_among}
use Rattle.statement_resolution.specs.query.Faults.{lacks_one, missing_fault}
use Rattle.statement_resolution.specs.query.Places.{placed_reference}
use Rattle.statement_resolution.specs.query.Resolving.{reference_parts}
use Rattle.statement_resolution.proofs.query.conversion.convert_references.Given as goal

abbrev pub invariant-loop-reference : goal.invariant-loop-reference
invariant-loop-reference l = record {
  parts : map (λ (r : Borrowed). placed_reference l.catalog.tables r.now) (take l.reference-index l.references) ≡ map reference_parts l.numbered.items;
  placed : are_in_place l.place l.numbered.items ≡ true;
  faults : l.faults ≡ either l.fn.faults (faults_among (λ (r : Borrowed). missing_fault (lacks_one l.catalog.tables r.now)) (take l.reference-index l.references));
  next : l.next ≡ l.place + l.reference-index;
}

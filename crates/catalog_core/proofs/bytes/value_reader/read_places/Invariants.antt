use Rattle.catalog_core.proofs.lemmas.bytes.Fronts.{SoFar}
use Rattle.catalog_core.specs.bytes.DefinitionReading.{is_below}
use Rattle.catalog_core.specs.bytes.DefinitionValues.{place_values}
use Rattle.catalog_core.proofs.bytes.value_reader.read_places.Given as goal

abbrev pub invariant-places : goal.invariant-places
invariant-places l = SoFar (is_below l.limit) place_values l.values l._turn l.places.items l.rest

use Rattle.catalog_core.proofs.lemmas.bytes.Fronts.{SoFar}
use Rattle.catalog_core.specs.bytes.DefinitionReading.{is_small_reference}
use Rattle.catalog_core.specs.bytes.DefinitionValues.{reference_values}
use Rattle.catalog_core.proofs.bytes.definition_reader.read_each_reference.Given as goal

abbrev pub invariant-references : goal.invariant-references
invariant-references l = SoFar (is_small_reference l.count) reference_values l.values l._turn l.references.items l.rest

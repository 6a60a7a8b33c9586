use Rattle.catalog_core.proofs.lemmas.bytes.Fronts.{SoFar}
use Rattle.catalog_core.specs.bytes.DefinitionReading.{is_column}
use Rattle.catalog_core.specs.bytes.DefinitionValues.{column_values}
use Rattle.catalog_core.proofs.bytes.definition_reader.read_each_column.Given as goal

abbrev pub invariant-columns : goal.invariant-columns
invariant-columns l = SoFar (is_column) column_values l.values l._turn l.columns.items l.rest

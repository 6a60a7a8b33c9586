use Rattle.catalog_core.proofs.lemmas.bytes.DefinitionSame.{reads_back}
use Rattle.catalog_core.proofs.bytes.laws.definition_reads_back.Goals as goal

pub returns : goal.returns
returns c = reads_back

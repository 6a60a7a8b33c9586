use Rattle.period_keys.proofs.LawfulFacts.{faults_of_clashes}
use Rattle.period_keys.proofs.lawful_laws.key_faults_are_clashes.Goals as goal

pub returns : goal.returns
returns c = faults_of_clashes

use Rattle.period_keys.proofs.LawfulFacts.{lacking_of_uncovered}
use Rattle.period_keys.proofs.lawful_laws.lacking_parents_are_uncovered.Goals as goal

pub returns : goal.returns
returns c = lacking_of_uncovered

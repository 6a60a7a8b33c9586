use Rattle.period_keys.proofs.LawfulFacts.{stays_lawful}
use Rattle.period_keys.proofs.lawful_laws.states_stay_lawful.Goals as goal

pub returns : goal.returns
returns c = stays_lawful

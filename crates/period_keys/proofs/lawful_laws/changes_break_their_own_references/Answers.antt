use Rattle.period_keys.proofs.LawfulFacts.{own_references}
use Rattle.period_keys.proofs.lawful_laws.changes_break_their_own_references.Goals as goal

pub returns : goal.returns
returns c = own_references

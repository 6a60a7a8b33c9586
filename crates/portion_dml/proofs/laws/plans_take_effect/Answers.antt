use Rattle.portion_dml.proofs.Applied.{applied_earlier, applied_later}
use Rattle.portion_dml.proofs.laws.plans_take_effect.Goals as goal

pub returns : goal.returns
returns c = λ moment action old new applied sound at day before.
    (λ late. applied_later moment action old new applied sound at day late before, λ early. applied_earlier moment action old new applied at day early before)

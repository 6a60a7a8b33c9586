use Rattle.history_model.proofs.VersionFacts.{current_hold}
use Rattle.history_model.proofs.current_versions_hold.Goals as goal

pub returns : goal.returns
returns c = λ clock versions sound moment day late before. current_hold clock moment day late before versions sound

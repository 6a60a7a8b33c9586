use Rattle.history_model.proofs.Parts as parts
use Rattle.history_model.proofs.slices_make_the_whole.Goals as goal

pub returns : goal.returns
returns c = parts.slices_make_the_whole

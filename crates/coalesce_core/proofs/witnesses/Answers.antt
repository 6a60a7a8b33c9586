use Rattle.std.proofs.Common.{◌≡◌, map, arith}
use Rattle.std.proofs.lemmas.Grind.{common_steps}
use Rattle.temporal_model.specs.Witness.{witness_of}
use Rattle.temporal_model.proofs.Witnesses.{witnessed}
use Rattle.coalesce_core.proofs.witnesses.Goals as goal

pub returns-clause-shows : goal.returns-clause-shows
returns-clause-shows c = λ certified.
    let all : c.loop-row.witnesses.items ≡ map witness_of c.args.rows.now = grind (arith, common_steps) in
    rw all (witnessed c.args.rows.now certified)

use Rattle.std.proofs.Common.{refl}
use Rattle.snapshot_audit.proofs.Neighbours.{anew_from_gaps}
use Rattle.snapshot_audit.proofs.witness_check.is_sound.Goals as goal

pub returns-then-apart : goal.returns-then-apart
returns-then-apart c = (
  λ _. record {
    witness = c.if-not-has_its_witness.ensures.0 refl;
    anew = anew_from_gaps c.args.rows.now c.args.place c.args.row.now c.requires.there (c.requires.apart c.if-apart.true);
  },
  λ _. c.if-apart.true,
)

use Rattle.std.proofs.Common.{arith}
use Rattle.period_keys.specs.Versions.{recorded}
use Rattle.period_keys.proofs.key_rows.place_among.Goals as goal

pub returns : goal.returns
returns c = λ (k, below, same). c.loop-place.invariant k (recorded c.args.values.now c.args.period.now c.args.from c.args.to) (omega (arith, below)) same

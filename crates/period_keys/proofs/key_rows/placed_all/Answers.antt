use Rattle.std.proofs.Common.{subst, sym}
use Rattle.period_keys.specs.Placed.{ArePlaced}
use Rattle.period_keys.proofs.key_rows.placed_all.Goals as goal

pub returns : goal.returns
returns c = subst (ArePlaced c.args.rows.now) (sym c.in_ok-boxed.ensures.ok) c.in_ok-blocks.ensures

use Rattle.std.proofs.Common.{arith}
use Rattle.period_keys.proofs.NearRows.{at_place}
use Rattle.period_keys.proofs.near_rows.is_at.Goals as goal

pub returns-then-item-rows : goal.returns-then-item-rows
returns-then-item-rows c = at_place c.args.rows.now c.args.item.now c.index-rows-item.result c.is_same_period.result (omega arith) c.is_same_period.ensures

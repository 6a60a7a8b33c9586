use Rattle.std.proofs.Common.{◌++◌, length, arith}
use Rattle.period_keys.proofs.Partly.{partly_each}
use Rattle.period_keys.proofs.period_indexes.take_from_each.Goals as goal

pub returns-clause-rows : goal.returns-clause-rows
returns-clause-rows c = λ rest each.
    c.take_from_first.ensures.rows rest (partly_each (c.args.rows.now ++ rest) rest c.args.indexes.now (length c.args.indexes.now) (omega arith) each)

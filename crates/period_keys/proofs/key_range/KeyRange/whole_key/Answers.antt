use Rattle.std.proofs.Common.{◌∙◌, arith, sym}
use Rattle.period_keys.proofs.RangeKeys.{whole_key}
use Rattle.period_keys.proofs.key_range.KeyRange.whole_key.Goals as goal

pub returns-clause-whole : goal.returns-clause-whole
returns-clause-whole c = λ values is.
    whole_key c.args.self.now c.args.positions.now values (omega (arith, c.if-len-positions.false, c.len.ensures)) is ∙ sym c.as_slice.ensures.value

use Rattle.std.proofs.Common.{arith}
use Rattle.sql_front.proofs.DigitFacts.{few_fit}
use Rattle.sql_front.proofs.digits.number_of_few.Goals as goal

pub overflow_mul-value : goal.overflow_mul-value
overflow_mul-value c = omega (arith, few_fit c.loop-byte.value c.loop-byte.byte-index _ c.loop-byte.invariant.below c.loop-byte-test.true c.requires)

pub overflow_add-value : goal.overflow_add-value
overflow_add-value c = omega (arith, few_fit c.loop-byte.value c.loop-byte.byte-index _ c.loop-byte.invariant.below c.loop-byte-test.true c.requires)

use Rattle.std.proofs.Common.{◌≡◌, ◌+◌, ◌*◌, ◌≤◌, ◌^◌, drop}
use Rattle.sql_front.specs.LiteralValues.{number_of_digits_after}
use Rattle.sql_front.proofs.digits.number_of_few.Given as goal

abbrev pub invariant-loop-byte : goal.invariant-loop-byte
invariant-loop-byte l = record {
  rest : number_of_digits_after 0 l.digits ≡ number_of_digits_after l.value (drop l.byte-index l.digits);
  below : l.value + 23 ≤ 23 * 10 ^ l.byte-index;
}

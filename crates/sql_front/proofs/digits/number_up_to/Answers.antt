use Rattle.std.proofs.Common.{◌≡◌, ℕ, ◌<◌, ◌+◌, ◌*◌, drop, sym, ap, ◌∙◌, arith}
use Rattle.std.proofs.lemmas.Bool.Decides.{nat_tests}
use Rattle.std.proofs.lemmas.List.{at_drop_more}
use Rattle.sql_front.specs.LiteralValues.{number_of_digits_after}
use Rattle.sql_front.proofs.DigitFacts.{digits_in_two, front_above, stays_above}
use Rattle.sql_front.proofs.digits.number_up_to.Goals as goal

pub returns-then-value-limit : goal.returns-then-value-limit
returns-then-value-limit c =
    let value = c.number_of_few-value.result in
    let whole : number_of_digits_after 0 c.args.digits.now ≡ number_of_digits_after value c.split_at.result.1.now = ap (number_of_digits_after 0) (sym c.as_bytes-bytes.ensures.value) ∙ digits_in_two c.min.result 0 value c.as_bytes-bytes.result.now _ _ c.split_at.ensures.front c.split_at.ensures.back c.number_of_few-value.ensures in
    let above : c.args.limit < number_of_digits_after 0 c.args.digits.now = front_above c.args.limit value _ c.split_at.result.1.now c.if-value-limit.true whole in
    grind (arith, nat_tests, above)

pub returns-then-next-limit : goal.returns-then-next-limit
returns-then-next-limit c =
    let above : c.args.limit < number_of_digits_after 0 c.args.digits.now = stays_above c.args.limit c.loop-byte.value c.loop-byte.byte-index 0 (number_of_digits_after 0 c.args.digits.now) c.split_at.result.1.now c.loop-byte-test.true (omega arith) c.loop-byte.invariant.rest in
    grind (arith, nat_tests, above)

pub loop-byte-preserved : goal.loop-byte-preserved
loop-byte-preserved c = record {
  rest = c.loop-byte.invariant.rest ∙ at_drop_more (number_of_digits_after c.loop-byte.value) c.split_at.result.1.now c.loop-byte.byte-index 0 c.loop-byte-test.true ∙ ap (λ (n : ℕ). number_of_digits_after (c.loop-byte.value * 10 + n) (drop (c.loop-byte.byte-index + 1) c.split_at.result.1.now)) (sym c.digit_value.ensures);
  below = omega arith;
}

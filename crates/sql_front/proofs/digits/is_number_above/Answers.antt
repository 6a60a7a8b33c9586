use Rattle.std.proofs.Common.{◌<◌, arith}
use Rattle.std.proofs.lemmas.Bool.Decides.{nat_tests}
use Rattle.sql_front.specs.LiteralValues.{number_of_digits}
use Rattle.sql_front.proofs.DigitFacts.{few_within}
use Rattle.sql_front.proofs.digits.is_number_above.Goals as goal

pub returns-else-digits-gt-FEW : goal.returns-else-digits-gt-FEW
returns-else-digits-gt-FEW c =
    let below : number_of_digits c.args.digits.now < c.args.limit = omega (arith, c.requires, few_within c.args.digits.now (λ j. omega (arith, c.type_inv.digits j)) (omega arith)) in
    grind (arith, nat_tests, below)

use Rattle.std.proofs.Common.{◌≡◌, length, sym, subst, take}
use Rattle.std.specs.Global.{Vec}
use Rattle.period_core.specs.declared.value.Value.{Value}
use Rattle.period_keys.specs.Keys.{values_at}
use Rattle.period_keys.proofs.RangeKeys.{led_in_range}
use Rattle.period_keys.proofs.key_after.range_of_key_after.Goals as goal

pub returns-clause-within : goal.returns-clause-within
returns-clause-within c first values rest long wide has met =
    let positions = c.args.positions.now in
    led_in_range c.led_by.result positions values
    (subst (λ (l : Vec Value). values_at (take (length l.items) positions) values ≡ l.items) (sym c.led_by.ensures.leading) (c.in_ok-leading.ensures.fixed first values rest long wide has met))
    c.led_by.ensures.lower c.led_by.ensures.upper

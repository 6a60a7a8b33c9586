use Rattle.std.proofs.Common.{◌≡◌, ◌∙◌, List, ap, drop, take}
use Rattle.period_core.specs.declared.period.Period.{Period}
use Rattle.period_keys.proofs.InOrder.{found_early, found_late}
use Rattle.period_keys.proofs.ordered_periods.OrderedPeriods.place_of.Goals as goal

pub returns-then-is_some : goal.returns-then-is_some
returns-then-is_some c =
    let items : List Period = c.args.self.now.items.items in
    let early : c.split_at.result.0.now ≡ take c.args.self.now.settled items = c.split_at.ensures.front ∙ ap (take c.args.self.now.settled) c.as_slice.ensures.value in
    found_early items c.split_at.result.0.now c.args.self.now.settled c.args.period.now c.place_of-place.result early c.if-is_some.ensures c.place_of-place.ensures

pub returns : goal.returns
returns c =
    let items : List Period = c.args.self.now.items.items in
    let late : c.split_at.result.1.now ≡ drop c.args.self.now.settled items = c.split_at.ensures.back ∙ ap (drop c.args.self.now.settled) c.as_slice.ensures.value in
    found_late items c.split_at.result.1.now c.args.self.now.settled c.in_ok-place.place c.args.period.now late c.in_ok-place.ensures

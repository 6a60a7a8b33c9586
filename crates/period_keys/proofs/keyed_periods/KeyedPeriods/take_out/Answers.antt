use Rattle.std.proofs.Common.{◌≡◌, List, Bool, true, false, Some, refl, sym, subst, ◌∙◌}
use Rattle.std.specs.Prelude.{IsSome}
use Rattle.std.specs.Bool.{OnFalse}
use Rattle.std.specs.BTreeMap.{get, Updates}
use Rattle.std.specs.Ordering.{eq_by_cmp}
use Rattle.period_core.specs.Order.{values_cmp}
use Rattle.period_core.specs.declared.period.Period.{Period}
use Rattle.period_core.specs.declared.value.Value.{Value as ColumnValue}
use Rattle.period_keys.specs.declared.ordered_periods.OrderedPeriods.{OrderedPeriods}
use Rattle.period_keys.proofs.Periods.{read, read_changed, read_there, read_apart, cond_same}
use Rattle.period_keys.proofs.keyed_periods.KeyedPeriods.take_out.Goals as goal

-- the periods of an entry of the index
abbrev items_of : OrderedPeriods → List Period
items_of periods = periods.items.items

on_false : (b : Bool) (P Q : Type 0) → (P → Q) → OnFalse b P → OnFalse b Q
on_false true P Q f p = tt
on_false false P Q f p = f p

pub returns-clause-kept : goal.returns-clause-kept
returns-clause-kept c =
    on_false c.take_one.result (c.take_one.new.self.items.items ≡ c.in-Some.periods.now.items.items) _ (λ items other.
    let key : List ColumnValue = c.args.key.now in
    let there : Some c.in-Some.periods.now ≡ get values_cmp c.args.self.now.entries key = c.in-Some.ensures.value in
    let updates : Updates values_cmp c.args.self.now.entries (c.get_mut.follows.lender c.take_one.new.self) key (Some c.take_one.new.self) = (c.get_mut.follows.holds c.take_one.new.self).3 (subst IsSome there refl) in
    let old : read items_of c.args.self.now.entries key ≡ c.in-Some.periods.now.items.items = read_there items_of c.args.self.now.entries key c.in-Some.periods.now there in
    read_changed items_of c.args.self.now.entries (c.get_mut.follows.lender c.take_one.new.self) key c.take_one.new.self (λ list. list) updates (items ∙ sym old) other
    ∙ cond_same (eq_by_cmp values_cmp key other) (read items_of c.args.self.now.entries other))
    c.take_one.ensures.kept

pub returns-clause-others : goal.returns-clause-others
returns-clause-others c = λ other apart.
    let key : List ColumnValue = c.args.key.now in
    let there : Some c.in-Some.periods.now ≡ get values_cmp c.args.self.now.entries key = c.in-Some.ensures.value in
    let updates : Updates values_cmp c.args.self.now.entries (c.get_mut.follows.lender c.take_one.new.self) key (Some c.take_one.new.self) = (c.get_mut.follows.holds c.take_one.new.self).3 (subst IsSome there refl) in
    read_apart items_of c.args.self.now.entries (c.get_mut.follows.lender c.take_one.new.self) key c.take_one.new.self updates other apart

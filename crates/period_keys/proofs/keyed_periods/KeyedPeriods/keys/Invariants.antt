use Rattle.std.proofs.Common.{◌≡◌, ◌++◌, List, map, filter}
use Rattle.std.specs.Borrow.{Bor}
use Rattle.std.specs.BTreeMap.{keys}
use Rattle.period_core.specs.declared.value.Value.{Value}
use Rattle.period_keys.proofs.Periods.{has_period}
use Rattle.period_keys.proofs.keyed_periods.KeyedPeriods.keys.Given as goal

abbrev pub invariant-loop-key : goal.invariant-loop-key
invariant-loop-key l =
    (done : List (List Value)) × (done ++ l.key-iterator ≡ keys l.self.entries)
    × (map (λ (k : Bor (List Value)). k.now) l.keys.items ≡ filter (has_period l.self) done)

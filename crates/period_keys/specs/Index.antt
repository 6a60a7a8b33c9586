-- Periods by their keys, and of which rows they are.
use Rattle.std.specs.Prelude.{◌⊎◌, Contains, [], ℕ, ℤ, Bool, Option, Some, None, List, int_lt}
use Rattle.std.specs.Prelude.{if◌then◌else◌, map, filter, Any, IsPermutation}
use Rattle.std.specs.Ordering.{eq_by_cmp}
use Rattle.std.specs.Option.{option_map_or}
use Rattle.std.specs.BTreeMap.{get}
use Rattle.period_core.specs.Order.{values_cmp}
use Rattle.period_core.specs.declared.value.Value.{Value}
use Rattle.period_core.specs.declared.period.Period.{Period}
use Rattle.period_core.specs.declared.row.PeriodRow.{PeriodRow}
use Rattle.period_keys.specs.declared.keyed_periods.KeyedPeriods.{KeyedPeriods}
use Rattle.period_keys.specs.Keys.{BothHold, IsKeyClash, key_values}

-- the periods of a key
abbrev pub periods_at : KeyedPeriods → List Value → List Period
periods_at index key =
    option_map_or (λ periods. periods.items.items) (get values_cmp index.entries key) []

-- the row has this key
abbrev pub has_key : List ℕ → List Value → PeriodRow → Bool
has_key positions key row = eq_by_cmp values_cmp key (key_values positions row)

-- the periods of the rows with this key, row by row
abbrev pub periods_of_key : List ℕ → List PeriodRow → List Value → List Period
periods_of_key positions rows key =
    map (λ (row : PeriodRow). row.period) (filter (has_key positions key) rows)

-- for each key the periods at it are its rows' periods, in some order
abbrev pub AreAtKeys : List ℕ → List PeriodRow → (List Value → List Period) → Type 0
AreAtKeys positions rows at =
    (key : List Value) → IsPermutation (at key) (periods_of_key positions rows key)

-- an index has the periods of the rows at their keys
abbrev pub IsIndexOf : List ℕ → List PeriodRow → KeyedPeriods → Type 0
IsIndexOf positions rows index = AreAtKeys positions rows (periods_at index)

-- the earlier of two days, either of which may be absent
abbrev pub earlier : Option ℤ → Option ℤ → Option ℤ
earlier None other = other
earlier (Some day) None = Some day
earlier (Some day) (Some next) = Some (if int_lt next day then next else day)

-- the day is in the period and in a period of the list that is not among the removed ones
abbrev pub SharesDayOfKept : List Period → List Period → Period → ℤ → Type 0
SharesDayOfKept periods gone period day =
    Any (λ other. BothHold day period other × (Contains gone other → ⊥)) periods

-- the added row and a row of its key that is not removed both hold on the day
abbrev pub MeetsKept : List ℕ → (List Value → List Period) → List PeriodRow → ℤ → PeriodRow
    → Type 0
MeetsKept positions at ended day row =
    SharesDayOfKept (at (key_values positions row))
    (periods_of_key positions ended (key_values positions row)) row.period day

-- an added row clashes with a row that is not removed, or with another added one
abbrev pub AddsClash : List ℕ → (List Value → List Period) → List PeriodRow → List PeriodRow
    → ℤ → Type 0
AddsClash positions at ended added day =
    Any (MeetsKept positions at ended day) added ⊎ IsKeyClash positions added day

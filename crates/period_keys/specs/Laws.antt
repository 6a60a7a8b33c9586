-- The laws of keys and references. Each is the contract of a function of this crate.
use Rattle.std.specs.Prelude.{◌↔◌, ◌++◌, ℕ, ℤ, List, IsPermutation}
use Rattle.period_core.specs.declared.period.Period.{Period}
use Rattle.period_core.specs.declared.value.Value.{Value}
use Rattle.period_core.specs.declared.row.PeriodRow.{PeriodRow}
use Rattle.temporal_model.specs.Snapshot.{values_on}
use Rattle.period_keys.specs.Keys.{HasNoClash, IsKeyClash, IsUncovered}
use Rattle.period_keys.specs.Days.{LacksParent, ShareKey}
use Rattle.period_keys.specs.Index.{AddsClash, AreAtKeys}

-- period rows clash on a day if two of the rows that hold on it have equal keys
abbrev pub ClashesAreOfDays : Type 0
ClashesAreOfDays =
    (positions : List ℕ) (rows : List PeriodRow) (day : ℤ)
    → (IsKeyClash positions rows day ↔ ShareKey positions (values_on rows day))

-- a child is uncovered on a day if one that holds on it has no parent among those that do
abbrev pub UncoveredAreOfDays : Type 0
UncoveredAreOfDays =
    (own : List ℕ) (children : List PeriodRow) (keys : List ℕ) (parents : List PeriodRow)
    (day : ℤ)
    → (IsUncovered own children keys parents day
    ↔ LacksParent own (values_on children day) keys (values_on parents day))

-- given no clash before, the clashes after a change are those that its added rows make
abbrev pub ClashesAfterChange : Type 0
ClashesAfterChange =
    (positions : List ℕ) (at : List Value → List Period) (before ended stay added : List PeriodRow)
    → AreAtKeys positions before at
    → HasNoClash positions before
    → IsPermutation before (ended ++ stay)
    → (day : ℤ)
    → (AddsClash positions at ended added day ↔ IsKeyClash positions (stay ++ added) day)

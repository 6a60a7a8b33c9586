-- Sets of rows as lists.
use Rattle.std.specs.Prelude.{◌≡◌, ◌↔◌, List, AllPairs, Contains}
use Rattle.std.specs.declared.cmp.Ordering.{Ordering}
use Rattle.std.specs.declared.cmp.Ordering.TheVariants.{Less}
use Rattle.std.specs.FinMap.{IsAntisymmetric}
use Rattle.period_core.specs.Order.{values_cmp}
use Rattle.period_core.specs.declared.value.Value.{Value}

-- each list of values is less than all later ones
abbrev pub IsAscending : List (List Value) → Type 0
IsAscending = AllPairs (λ a b. values_cmp a b ≡ Less)

-- the list has exactly the members of the set, in ascending order, each once
pub record ListsSet (InSet : List Value → Type 0) (list : List (List Value)) : Type 0 where
  pub ascending : IsAscending list
  pub members : (values : List Value) → (Contains list values ↔ InSet values)

-- no values of the list are less than the values
abbrev pub NoneBelow : List Value → List (List Value) → Type 0
NoneBelow values others =
    (other : List Value) → Contains others other → values_cmp other values ≡ Less → ⊥

-- the elements of a list in ascending order, each once, if only equal elements tie
pub record IsSortedOnce {X : Type 0} (cmp : X → X → Ordering) (items once : List X) : Type 0 where
  pub ascending : AllPairs (λ a b. cmp a b ≡ Less) once
  pub members : IsAntisymmetric cmp → (x : X) → (Contains once x ↔ Contains items x)

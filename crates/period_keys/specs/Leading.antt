-- The integer that a key holds before its other values.
use Rattle.std.specs.Prelude.{ℤ, List, ◌∷◌, Option, Some, None}
use Rattle.period_core.specs.declared.value.Value.{Value}
use Rattle.period_core.specs.declared.value.Value.TheVariants.{Int}

-- the values of a key: an integer before the rest, if there is one, and the rest
abbrev pub values_after : Option ℤ → List Value → List Value
values_after None rest = rest
values_after (Some number) rest = Int number ∷ rest

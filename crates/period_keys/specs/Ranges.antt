-- The keys that conditions leave: those that begin with given values, and have the value after
-- these within limits.
use Rattle.std.specs.Prelude.{◌&&◌, ◌++◌, ◌∷◌, [], Bool, List, None, Option}
use Rattle.std.specs.Prelude.{Some, false, length, slice_get, take, true}
use Rattle.std.specs.Ordering.{eq_by_cmp}
use Rattle.sql_statements.specs.declared.statement.Comparison.TheVariants.{Equal, Less, LessOrEqual}
use Rattle.sql_statements.specs.declared.statement.Comparison.TheVariants.{Greater}
use Rattle.sql_statements.specs.declared.statement.Comparison.TheVariants.{GreaterOrEqual}
use Rattle.period_core.specs.Order.{values_cmp}
use Rattle.period_core.specs.declared.value.Value.{Value}
use Rattle.catalog_core.specs.Conditions.{compared}
use Rattle.period_keys.specs.declared.key_range.KeyRange.{KeyRange}
use Rattle.period_keys.specs.declared.key_range.Limit.{Limit}
use Rattle.period_keys.specs.declared.key_range.Limit.TheVariants.{Included, Excluded, Unbounded}

-- the value is within the lower limit. If there is a limit, no value is not.
abbrev pub is_above : Limit → Option Value → Bool
is_above (Included limit) value = compared GreaterOrEqual value (Some limit)
is_above (Excluded limit) value = compared Greater value (Some limit)
is_above Unbounded value = true

-- the value is within the upper limit
abbrev pub is_below : Limit → Option Value → Bool
is_below (Included limit) value = compared LessOrEqual value (Some limit)
is_below (Excluded limit) value = compared Less value (Some limit)
is_below Unbounded value = true

-- the key begins with these values
abbrev pub begins_with : List Value → List Value → Bool
begins_with leading key = eq_by_cmp values_cmp leading (take (length leading) key)

-- the key begins with the leading values, and has the next one within both limits
abbrev pub is_in_range : KeyRange → List Value → Bool
is_in_range range key =
    begins_with range.leading.items key
    && (is_above range.lower (slice_get key (length range.leading.items))
    && is_below range.upper (slice_get key (length range.leading.items)))

-- ---- the keys that are looked at

-- the value of a limit, as a list
abbrev pub limit_values : Limit → List Value
limit_values (Included limit) = limit ∷ []
limit_values (Excluded limit) = limit ∷ []
limit_values Unbounded = []

-- no key in the range is before these values
abbrev pub first_values : KeyRange → List Value
first_values range = range.leading.items ++ limit_values range.lower

-- there is no value, or the one that a lower limit itself leaves out
abbrev pub is_at_lower : Limit → Option Value → Bool
is_at_lower limit None = true
is_at_lower (Included limit) (Some value) = false
is_at_lower (Excluded limit) (Some value) = compared Equal (Some value) (Some limit)
is_at_lower Unbounded (Some value) = false

-- the key begins with the leading values, and the range may begin after it
abbrev pub is_passed_over : KeyRange → List Value → Bool
is_passed_over range key =
    begins_with range.leading.items key
    && is_at_lower range.lower (slice_get key (length range.leading.items))

-- ---- a key, column by column

-- the limit that one of two values sets: the first is within itself, the second is not
abbrev pub limit_of : Option Value → Option Value → Limit
limit_of (Some included) excluded = Included included
limit_of None (Some excluded) = Excluded excluded
limit_of None None = Unbounded

-- the limit's value, if it has one, is so: if it is within itself, and if it is not
abbrev pub IfLimited : (Value → Type 0) → (Value → Type 0) → Limit → Type 0
IfLimited With Without (Included limit) = With limit
IfLimited With Without (Excluded limit) = Without limit
IfLimited With Without Unbounded = Unit {0}

-- a limit is what is said with its own value or without it, and there is none only if none is said
abbrev pub IsLimitOf : (Value → Type 0) → (Value → Type 0) → Limit → Type 0
IsLimitOf With Without (Included limit) = With limit
IsLimitOf With Without (Excluded limit) = Without limit
IsLimitOf With Without Unbounded = (value : Value) → (With value → ⊥) × (Without value → ⊥)

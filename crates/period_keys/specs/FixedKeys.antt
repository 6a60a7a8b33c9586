-- Values of which a condition says, in each row that meets it, that they are equal to literals, or
-- within limits.
use Rattle.std.specs.Prelude.{◌≡◌, ◌≤◌, ◌<◌, ◌+◌, ◌==◌, ◌&&◌, ◌⊎◌, ◌++◌, ℕ, All, Bool, IsTrue}
use Rattle.std.specs.Prelude.{List, MatchOption, Some, count_by, false, length, slice_get, take}
use Rattle.std.specs.Prelude.{true}
use Rattle.std.specs.List.{Any, list_any}
use Rattle.period_core.specs.declared.value.Value.{Value}
use Rattle.sql_statements.specs.Plain.{plain_condition}
use Rattle.sql_statements.specs.Trees.{Condition, Conditions, any, all, negated, test, none, more}
use Rattle.sql_statements.specs.declared.statement.Comparison.{Comparison}
use Rattle.sql_statements.specs.declared.statement.Comparison.TheVariants.{Equal, NotEqual, Less}
use Rattle.sql_statements.specs.declared.statement.Comparison.TheVariants.{LessOrEqual, Greater}
use Rattle.sql_statements.specs.declared.statement.Comparison.TheVariants.{GreaterOrEqual}
use Rattle.sql_statements.specs.declared.tree.Tree.{Tree}
use Rattle.sql_statements.specs.declared.tree.Tree.TheVariants.{Test}
use Rattle.catalog_core.specs.Conditions.{compared, is_satisfied}
use Rattle.catalog_core.specs.declared.condition.Comparand.{Comparand}
use Rattle.catalog_core.specs.declared.condition.Comparand.TheVariants.{Literal, Position}
use Rattle.catalog_core.specs.declared.condition.CompareValues.{CompareValues}
use Rattle.catalog_core.specs.declared.stored.VersionTest.{VersionTest}
use Rattle.catalog_core.specs.declared.stored.VersionTest.TheVariants.{ContainsDay, Periods, Values}
use Rattle.history_model.specs.OrdinaryQuery.{meets_all}
use Rattle.period_keys.specs.declared.key_range.KeyRange.{KeyRange}
use Rattle.period_keys.specs.declared.key_range.Limit.TheVariants.{Unbounded}
use Rattle.period_keys.specs.Keys.{values_at}
use Rattle.period_keys.specs.Ranges.{IsLimitOf, is_in_range}

-- the comparison with its sides exchanged
abbrev pub turned : Comparison → Comparison
turned Equal = Equal
turned NotEqual = NotEqual
turned Less = Greater
turned LessOrEqual = GreaterOrEqual
turned Greater = Less
turned GreaterOrEqual = LessOrEqual

-- a test says that the value at the position compares so with a literal, in either order
abbrev pub IsComparison : Comparison → CompareValues → ℕ → Value → Type 0
IsComparison comparison c position value =
    ((c.comparison ≡ comparison) × (c.left ≡ Position position) × (c.right ≡ Literal value))
    ⊎ ((c.comparison ≡ turned comparison)
    × (c.right ≡ Position position) × (c.left ≡ Literal value))

-- a test of a version says it if it compares values; a predicate of periods does not
abbrev pub IsVersionComparison : Comparison → VersionTest → ℕ → Value → Type 0
IsVersionComparison comparison (Values c) position value =
    IsComparison comparison c position value
IsVersionComparison comparison (Periods left predicate right) position value = ⊥
IsVersionComparison comparison (ContainsDay side day) position value = ⊥

-- a condition says it, if a test of it does: as a whole, or in a part of an AND. An OR of one
-- part is that part.
abbrev mutual
  pub States : {T : Type 0} → (T → ℕ → Value → Type 0) → Condition T → ℕ → Value → Type 0
  States Says (any parts) position value = OnlyPartStates Says parts position value
  States Says (all parts) position value = SomePartStates Says parts position value
  States Says (negated part) position value = ⊥
  States Says (test leaf) position value = Says leaf position value

  pub OnlyPartStates
      : {T : Type 0} → (T → ℕ → Value → Type 0) → Conditions T → ℕ → Value → Type 0
  OnlyPartStates Says none position value = ⊥
  OnlyPartStates Says (more part none) position value = States Says part position value
  OnlyPartStates Says (more part (more other parts)) position value = ⊥

  pub SomePartStates
      : {T : Type 0} → (T → ℕ → Value → Type 0) → Conditions T → ℕ → Value → Type 0
  SomePartStates Says none position value = ⊥
  SomePartStates Says (more part parts) position value =
      States Says part position value ⊎ SomePartStates Says parts position value

-- some value is said of the position
abbrev pub HasValue : (ℕ → Value → Type 0) → ℕ → Type 0
HasValue Says position = (value : Value) × Says position value

-- the property holds of the first `count` elements, and not of the one after them
pub record HoldsOfFirst {X : Type 0} (Has : X → Type 0) (xs : List X) (count : ℕ) : Type 0 where
  pub within : count ≤ length xs
  pub first : All Has (take count xs)
  pub next : (x : X) → slice_get xs count ≡ Some x → Has x → ⊥

-- each row that meets the condition has this key
abbrev pub FixesKey
    : {Row T : Type 0} → (Row → List Value) → (Row → T → Bool) → Tree T → List ℕ → List Value
    → Type 0
FixesKey {Row} values passes condition positions key =
    (row : Row) → is_satisfied (passes row) (plain_condition condition) ≡ true
    → values_at positions (values row) ≡ key

-- each row that meets the condition has its key in the range
abbrev pub IsRangeOf
    : {Row T : Type 0} → (Row → List Value) → (Row → T → Bool) → Tree T → List ℕ → KeyRange
    → Type 0
IsRangeOf {Row} values passes condition positions range =
    (row : Row) → is_satisfied (passes row) (plain_condition condition) ≡ true
    → is_in_range range (values_at positions (values row)) ≡ true

-- the range of a key that is said of its positions: as many leading values as there are
-- positions before the first that is not said to be equal to a value, and the limits of that one
pub record IsSaidRange (Says : Comparison → ℕ → Value → Type 0) (positions : List ℕ)
    (range : KeyRange) : Type 0 where
  pub leading : HoldsOfFirst (HasValue (Says Equal)) positions (length range.leading.items)
  pub lower : MatchOption (slice_get positions (length range.leading.items))
      (range.lower ≡ Unbounded)
      (λ next. IsLimitOf (Says GreaterOrEqual next) (Says Greater next) range.lower)
  pub upper : MatchOption (slice_get positions (length range.leading.items))
      (range.upper ≡ Unbounded)
      (λ next. IsLimitOf (Says LessOrEqual next) (Says Less next) range.upper)

-- the range of a key that is led by what is said of its positions, and has no limits
pub record IsLedRange (Says : ℕ → Value → Type 0) (positions : List ℕ) (range : KeyRange)
    : Type 0 where
  pub leading : HoldsOfFirst (HasValue Says) positions (length range.leading.items)
  pub lower : range.lower ≡ Unbounded
  pub upper : range.upper ≡ Unbounded

-- ---- rows that are part of a combined row, whose values begin at a position of it

-- in each combined row that meets the conditions, the row, which has `width` values, has a value at
-- the position that compares so with this one
abbrev pub ComparesWithin
    : List (Tree CompareValues) → ℕ → ℕ → Comparison → ℕ → Value → Type 0
ComparesWithin conditions start width comparison position value =
    (first values rest : List Value) → length first ≡ start → length values ≡ width
    → IsTrue (meets_all conditions (first ++ (values ++ rest)))
    → compared comparison (slice_get values position) (Some value) ≡ true

-- the conditions fix this key within a combined row
abbrev pub FixesKeyWithin : List (Tree CompareValues) → ℕ → ℕ → List ℕ → List Value → Type 0
FixesKeyWithin conditions start width positions key =
    (first values rest : List Value) → length first ≡ start → length values ≡ width
    → IsTrue (meets_all conditions (first ++ (values ++ rest)))
    → values_at positions values ≡ key

-- in each combined row that meets the conditions the row has its key in the range
abbrev pub IsRangeWithin : List (Tree CompareValues) → ℕ → ℕ → List ℕ → KeyRange → Type 0
IsRangeWithin conditions start width positions range =
    (first values rest : List Value) → length first ≡ start → length values ≡ width
    → IsTrue (meets_all conditions (first ++ (values ++ rest)))
    → is_in_range range (values_at positions values) ≡ true

-- ---- combined rows that have known values

-- the row has the known values from a place on
abbrev pub HasFrom : List Value → ℕ → List Value → Type 0
HasFrom known at row =
    (before after : List Value) × (length before ≡ at) × (before ++ (known ++ after) ≡ row)

-- in each combined row that meets the conditions and has the known values from a place on, the row
-- has this value at the position
abbrev pub IsValueAfter
    : List (Tree CompareValues) → List Value → ℕ → ℕ → ℕ → ℕ → Value → Type 0
IsValueAfter conditions known at start width position value =
    (first values rest : List Value) → length first ≡ start → length values ≡ width
    → HasFrom known at (first ++ (values ++ rest))
    → IsTrue (meets_all conditions (first ++ (values ++ rest)))
    → slice_get values position ≡ Some value

-- the conditions fix this key in each such combined row
abbrev pub FixesKeyAfter
    : List (Tree CompareValues) → List Value → ℕ → ℕ → ℕ → List ℕ → List Value → Type 0
FixesKeyAfter conditions known at start width positions key =
    (first values rest : List Value) → length first ≡ start → length values ≡ width
    → HasFrom known at (first ++ (values ++ rest))
    → IsTrue (meets_all conditions (first ++ (values ++ rest)))
    → values_at positions values ≡ key

-- in each such combined row that meets the conditions the row has its key in the range
abbrev pub IsRangeAfter
    : List (Tree CompareValues) → List Value → ℕ → ℕ → ℕ → List ℕ → KeyRange → Type 0
IsRangeAfter conditions known at start width positions range =
    (first values rest : List Value) → length first ≡ start → length values ≡ width
    → HasFrom known at (first ++ (values ++ rest))
    → IsTrue (meets_all conditions (first ++ (values ++ rest)))
    → is_in_range range (values_at positions values) ≡ true

-- ---- conditions on the places of a combined row

-- a condition compares the values at two places, in either order, and says that they are equal
abbrev pub SaysEqual : Tree CompareValues → ℕ → ℕ → Type 0
SaysEqual condition place other =
    (c : CompareValues)
    × (condition ≡ Test c)
    × (c.comparison ≡ Equal)
    × (((c.left ≡ Position place) × (c.right ≡ Position other))
    ⊎ ((c.right ≡ Position place) × (c.left ≡ Position other)))

-- one of the conditions says that the values at two places are equal
abbrev pub SomeSaysEqual : List (Tree CompareValues) → ℕ → ℕ → Type 0
SomeSaysEqual conditions place other =
    Any (λ condition. SaysEqual condition place other) conditions

-- the conditions say that the value at a place equals that at another: it is the same place, or one
-- of them says that it equals the value at a place of which they say it
pub data AreSaidEqual : List (Tree CompareValues) → ℕ → ℕ → Type 0 where
  itself : {conditions : List (Tree CompareValues)} {place : ℕ}
      → AreSaidEqual conditions place place
  further : {conditions : List (Tree CompareValues)} {place known other : ℕ}
      → AreSaidEqual conditions place known → SomeSaysEqual conditions known other
      → AreSaidEqual conditions place other

-- one of the conditions says that the value at a place compares so with a literal
abbrev pub SomeStates : Comparison → List (Tree CompareValues) → ℕ → Value → Type 0
SomeStates comparison conditions place value =
    Any (λ condition. States (IsComparison comparison) (plain_condition condition) place value)
    conditions

-- conditions say it of a position of the row: of its place in the combined row, or of one whose
-- value is equal, as they say
abbrev pub SaysWithin : List (Tree CompareValues) → ℕ → ℕ → Comparison → ℕ → Value → Type 0
SaysWithin conditions start width comparison position value =
    (position < width) × ((other : ℕ) × AreSaidEqual conditions (start + position) other
    × SomeStates comparison conditions other value)

-- conditions say that the value at a position of the row equals a known one
abbrev pub SaysKnown
    : List (Tree CompareValues) → List Value → ℕ → ℕ → ℕ → ℕ → Value → Type 0
SaysKnown conditions known at start width position value =
    (position < width) × ((index : ℕ)
    × AreSaidEqual conditions (start + position) (at + index)
    × (slice_get known index ≡ Some value))

-- conditions say that the value at a position equals a literal, or a known one
abbrev pub SaysAfter
    : List (Tree CompareValues) → List Value → ℕ → ℕ → ℕ → ℕ → Value → Type 0
SaysAfter conditions known at start width position value =
    SaysWithin conditions start width Equal position value
    ⊎ SaysKnown conditions known at start width position value

-- ---- places, each but the first by a condition of its own

-- a side is one of the places
abbrev pub has_side : List ℕ → Comparand → Bool
has_side places (Position place) = list_any (λ other. other == place) places
has_side places (Literal value) = false

-- both sides of a comparison are among the places
abbrev pub has_sides : List ℕ → Condition CompareValues → Bool
has_sides places (any parts) = false
has_sides places (all parts) = false
has_sides places (negated part) = false
has_sides places (test c) = has_side places c.left && has_side places c.right

-- the number of places is at most one more than the number of such conditions
abbrev pub AreFew : List (Tree CompareValues) → List ℕ → Type 0
AreFew conditions places =
    length places
    ≤ count_by (λ condition. has_sides places (plain_condition condition)) conditions + 1

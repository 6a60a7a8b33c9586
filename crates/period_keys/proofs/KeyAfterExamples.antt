-- Worked rows: a condition `1 = 3` gives the second value of a row from place 2 on, if the values before it are known, and not the first.
use Rattle.std.proofs.Common.{◌≡◌, ◌∙◌, ◌+◌, zero, suc, ℕ, pos, List, [], ◌∷◌, ap, arith, inl, inr, refl, subst, sym}
use Rattle.std.specs.Prelude.{slice_get}
use Rattle.period_core.specs.declared.value.Value.{Value}
use Rattle.period_core.specs.declared.value.Value.TheVariants.{Int}
use Rattle.sql_statements.specs.declared.statement.Comparison.TheVariants.{Equal}
use Rattle.sql_statements.specs.declared.tree.Tree as code
use Rattle.catalog_core.specs.declared.condition.Comparand.{Comparand}
use Rattle.catalog_core.specs.declared.condition.Comparand.TheVariants.{Position}
use Rattle.catalog_core.specs.declared.condition.CompareValues.{CompareValues}
use Rattle.period_keys.specs.FixedKeys.{AreSaidEqual, HasFrom, SaysAfter, SaysKnown, SomeSaysEqual}
use Rattle.period_keys.proofs.EqualPlaces.{same_test}

abbrev equal_to_fourth : CompareValues
equal_to_fourth = record { left = Position 1; comparison = Equal; right = Position 3 }

abbrev conditions : List (code.Tree CompareValues)
conditions = code.Test equal_to_fourth ∷ []

abbrev five_and_nine : List Value
five_and_nine = Int (pos 5) ∷ Int (pos 9) ∷ []

fourth_equals_second : AreSaidEqual conditions 3 1
fourth_equals_second = AreSaidEqual.further AreSaidEqual.itself (0, code.Test equal_to_fourth, omega arith, refl, (equal_to_fourth, refl, refl, inr (refl, refl)))

-- the second value of the row is said to be 9, if the known values begin at place 0
second-is_nine : SaysAfter conditions five_and_nine 0 2 2 1 (Int (pos 9))
second-is_nine = inr (omega arith, (1, fourth_equals_second, refl))

-- and to be 5, if they begin at place 1
second-is_five : SaysAfter conditions five_and_nine 1 2 2 1 (Int (pos 5))
second-is_five = inr (omega arith, (0, fourth_equals_second, refl))

abbrev place_of : Comparand → ℕ
place_of (Position place) = place
place_of side = 0

-- place 2 is equated with itself alone
equated_alone : (other : ℕ) → SomeSaysEqual conditions 2 other → ⊥
equated_alone other (zero, condition, below, at, says) =
    elim (same_test condition equal_to_fourth 2 other (sym at) says) [
      | inl sides ↦ (let wrong : 1 ≡ 2 = ap place_of sides.0 in omega (arith, wrong))
      | inr sides ↦ (let wrong : 3 ≡ 2 = ap place_of sides.0 in omega (arith, wrong))
    ]
equated_alone other (suc k, condition, below, at, says) = omega (arith, below)

itself_alone : (place other : ℕ) → place ≡ 2 → AreSaidEqual conditions place other → other ≡ 2
itself_alone place other is AreSaidEqual.itself = is
itself_alone place other is (AreSaidEqual.further {known = known} before says) =
    absurd (equated_alone other (subst (λ (p : ℕ). SomeSaysEqual conditions p other) (itself_alone place known is before) says))

-- the first value of the row is not said to equal a known one
first-is_not_known : (value : Value) → SaysKnown conditions five_and_nine 0 2 2 0 value → ⊥
first-is_not_known value (inside, (index, said, at)) =
    let there : 0 + index ≡ 2 = itself_alone 2 (0 + index) refl said in
    let third : index ≡ 2 = omega (arith, there) in
    (let wrong = sym (ap (slice_get five_and_nine) third) ∙ at in absurd cc)

abbrev of_three_references : List Value
of_three_references = Int (pos 7) ∷ Int (pos 5) ∷ Int (pos 9) ∷ Int (pos 8) ∷ []

-- 7, 5, 9, 8 has 5 and 9 from place 1 on
has_from_second : HasFrom five_and_nine 1 of_three_references
has_from_second = (Int (pos 7) ∷ [], Int (pos 8) ∷ [], refl, refl)

-- and not from the first place on
not_from_first : HasFrom five_and_nine 0 of_three_references → ⊥
not_from_first ([], after, none, whole) = (let wrong = whole in absurd cc)
not_from_first (v ∷ before, after, none, whole) = (let wrong = none in omega (arith, wrong))

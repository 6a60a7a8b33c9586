-- Values of rows of combined rows that have known values.
use Rattle.std.proofs.Common.{◌≡◌, ◌∙◌, ◌<◌, ◌+◌, ◌++◌, ℕ, List, None, Option, Some, inl, inr, length, refl, sym, ap}
use Rattle.std.specs.Borrow.{Bor}
use Rattle.std.specs.Prelude.{MatchOption, slice_get}
use Rattle.std.proofs.lemmas.Option.{slice_get_within}
use Rattle.sql_statements.specs.declared.statement.Comparison.TheVariants.{Equal}
use Rattle.sql_statements.specs.declared.tree.Tree as code
use Rattle.catalog_core.specs.declared.condition.CompareValues.{CompareValues}
use Rattle.period_core.specs.declared.value.Value.{Value}
use Rattle.period_keys.specs.Equations.{both_equal}
use Rattle.period_keys.specs.FixedKeys.{AreSaidEqual, ComparesWithin, IsValueAfter, SaysAfter, SaysKnown, SaysWithin}
use Rattle.period_keys.proofs.EqualPlaces.{said_same}
use Rattle.period_keys.proofs.Fixed.{at_place}

module _ (conditions : List (code.Tree CompareValues)) (known : List Value) (at start width position : ℕ) (value : Value) where
  -- a literal that the value equals in each combined row
  pub literal_holds : ComparesWithin conditions start width Equal position value → IsValueAfter conditions known at start width position value
  literal_holds compares first values rest long wide has met =
      both_equal (slice_get values position) (Some value) (compares first values rest long wide met)

  -- a known value at a place that the conditions equate with the position's
  pub known_holds : (index place other : ℕ) → position < width → place ≡ start + position → AreSaidEqual conditions place other → at + index ≡ other → slice_get known index ≡ Some value → IsValueAfter conditions known at start width position value
  known_holds index place other inside is said there its first values rest long wide (before, after, begins, whole) met =
      let row : List Value = first ++ (values ++ rest) in
      let own : slice_get row place ≡ slice_get values position = at_place first values rest start width position place long wide inside is in
      let given : slice_get row other ≡ slice_get known index =
      ap (λ (r : List Value). slice_get r other) (sym whole) ∙ at_place before known after at (length known) index other begins refl (slice_get_within known index value its) (sym there) in
      sym own ∙ sym (said_same conditions place other said row met) ∙ given ∙ its

-- a position of which no literal is said: all that is said of it is a known value
pub or_known : (conditions : List (code.Tree CompareValues)) (known : List Value) (at start width position : ℕ) → ((value : Value) → SaysWithin conditions start width Equal position value → ⊥)
    → (found : Option (Bor Value)) → MatchOption found ((value : Value) → SaysKnown conditions known at start width position value → ⊥) (λ value. SaysKnown conditions known at start width position value.now)
    → MatchOption found ((value : Value) → SaysAfter conditions known at start width position value → ⊥) (λ value. SaysAfter conditions known at start width position value.now)
or_known conditions known at start width position none None given = λ value says. elim says [ inl literal ↦ none value literal | inr its ↦ given value its ]
or_known conditions known at start width position none (Some value) given = inr given

-- Tests that compare a column with a literal: each row that meets one has a value that does.
use Rattle.std.proofs.Common.{◌≡◌, ◌∙◌, ℕ, true, Some, None, List, inl, inr, refl, sym, ap}
use Rattle.std.proofs.Common.{subst}
use Rattle.std.specs.Prelude.{Option, slice_get}
use Rattle.std.specs.Ordering.{is_eq, ordering_reverse}
use Rattle.std.specs.declared.cmp.Ordering.{Ordering}
use Rattle.std.specs.declared.cmp.Ordering.TheVariants as ordering
use Rattle.period_core.specs.Order.{value_cmp}
use Rattle.period_core.specs.OrderLaws.{value_cmp-same, value_cmp_total}
use Rattle.period_core.specs.declared.value.Value.{Value}
use Rattle.period_core.specs.declared.version.VersionRow.{VersionRow}
use Rattle.sql_statements.specs.declared.statement.Comparison.{Comparison}
use Rattle.sql_statements.specs.declared.statement.Comparison.TheVariants.{Equal, NotEqual, Less}
use Rattle.sql_statements.specs.declared.statement.Comparison.TheVariants.{LessOrEqual, Greater}
use Rattle.sql_statements.specs.declared.statement.Comparison.TheVariants.{GreaterOrEqual}
use Rattle.catalog_core.specs.Conditions.{allows, compared, compares, side_value}
use Rattle.catalog_core.specs.declared.condition.Comparand.{Comparand}
use Rattle.catalog_core.specs.declared.condition.Comparand.TheVariants.{Literal, Position}
use Rattle.catalog_core.specs.declared.condition.CompareValues.{CompareValues}
use Rattle.catalog_core.specs.declared.stored.VersionTest.{VersionTest}
use Rattle.catalog_core.specs.declared.stored.VersionTest.TheVariants.{ContainsDay, Periods, Values}
use Rattle.catalog_core.specs.stored.StoredAnswers.{passes_test}
use Rattle.period_keys.specs.FixedKeys.{IsComparison, IsVersionComparison, turned}

is_equal : (r : Ordering) → is_eq r ≡ true → r ≡ ordering.Equal
is_equal ordering.Less h = absurd cc
is_equal ordering.Equal h = refl
is_equal ordering.Greater h = absurd cc

-- two sides that are equal
pub both_equal : (left right : Option Value) → compared Equal left right ≡ true → left ≡ right
both_equal None right h = absurd cc
both_equal (Some x) None h = absurd cc
both_equal (Some x) (Some y) h = ap Some (value_cmp-same x y (is_equal (value_cmp x y) h))

-- a comparison with its sides exchanged holds of the other order
turned_allows
    : (comparison : Comparison) (order : Ordering)
    → allows (turned comparison) (ordering_reverse order) ≡ allows comparison order
turned_allows Equal ordering.Less = refl
turned_allows Equal ordering.Equal = refl
turned_allows Equal ordering.Greater = refl
turned_allows NotEqual ordering.Less = refl
turned_allows NotEqual ordering.Equal = refl
turned_allows NotEqual ordering.Greater = refl
turned_allows Less ordering.Less = refl
turned_allows Less ordering.Equal = refl
turned_allows Less ordering.Greater = refl
turned_allows LessOrEqual ordering.Less = refl
turned_allows LessOrEqual ordering.Equal = refl
turned_allows LessOrEqual ordering.Greater = refl
turned_allows Greater ordering.Less = refl
turned_allows Greater ordering.Equal = refl
turned_allows Greater ordering.Greater = refl
turned_allows GreaterOrEqual ordering.Less = refl
turned_allows GreaterOrEqual ordering.Equal = refl
turned_allows GreaterOrEqual ordering.Greater = refl

exchanged
    : (comparison : Comparison) (side : Option Value) (value : Value)
    → compared (turned comparison) (Some value) side ≡ true
    → compared comparison side (Some value) ≡ true
exchanged comparison None value h = absurd cc
exchanged comparison (Some x) value h =
    sym (turned_allows comparison (value_cmp x value))
    ∙ ap (allows (turned comparison)) (sym (value_cmp_total.antisymm value x)) ∙ h

-- one side is the position and the other the literal
module _ (comparison : Comparison) (c : CompareValues) (row : List Value) (position : ℕ)
    (value : Value) where
  holds_left
      : c.comparison ≡ comparison → c.left ≡ Position position → c.right ≡ Literal value
      → compares row c ≡ true → compared comparison (slice_get row position) (Some value) ≡ true
  holds_left is left right h =
      subst (λ (r : Comparand).
      compared comparison (slice_get row position) (side_value r row) ≡ true) right
      (subst (λ (l : Comparand).
      compared comparison (side_value l row) (side_value c.right row) ≡ true) left
      (subst (λ o. compared o (side_value c.left row) (side_value c.right row) ≡ true) is h))

  holds_right
      : c.comparison ≡ turned comparison → c.right ≡ Position position → c.left ≡ Literal value
      → compares row c ≡ true → compared comparison (slice_get row position) (Some value) ≡ true
  holds_right is right left h =
      exchanged comparison (slice_get row position) value
      (subst (λ (r : Comparand).
      compared (turned comparison) (Some value) (side_value r row) ≡ true) right
      (subst (λ (l : Comparand).
      compared (turned comparison) (side_value l row) (side_value c.right row) ≡ true) left
      (subst (λ o. compared o (side_value c.left row) (side_value c.right row) ≡ true) is h)))

-- a test says of the value at a position how it compares
pub comparison_holds
    : (comparison : Comparison) (c : CompareValues) (row : List Value) (position : ℕ)
    (value : Value)
    → IsComparison comparison c position value → compares row c ≡ true
    → compared comparison (slice_get row position) (Some value) ≡ true
comparison_holds comparison c row position value says h =
    elim says [
      | inl sides ↦ holds_left comparison c row position value sides.0 sides.1 sides.2 h
      | inr sides ↦ holds_right comparison c row position value sides.0 sides.1 sides.2 h
    ]

-- a test of a version holds as the comparison of its column with the literal
pub version_comparison_holds
    : (comparison : Comparison) (test : VersionTest) (version : VersionRow) (position : ℕ)
    (value : Value)
    → IsVersionComparison comparison test position value → passes_test version test ≡ true
    → compared comparison (slice_get version.values position) (Some value) ≡ true
version_comparison_holds comparison (Values c) version position value says h =
    comparison_holds comparison c version.values position value says h
version_comparison_holds comparison (Periods left predicate right) version position value says h =
    absurd says
version_comparison_holds comparison (ContainsDay side day) version position value says h =
    absurd says

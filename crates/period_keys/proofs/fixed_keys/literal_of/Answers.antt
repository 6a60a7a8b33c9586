use Rattle.std.proofs.Common.{◌≡◌, ℕ, Some, None, inl, inr, subst}
use Rattle.std.specs.Prelude.{MatchOption, Option}
use Rattle.std.specs.Borrow.{Bor}
use Rattle.period_core.specs.declared.value.Value.{Value}
use Rattle.catalog_core.specs.declared.condition.Comparand.TheVariants.{Literal, Position}
use Rattle.catalog_core.specs.declared.condition.CompareValues.{CompareValues}
use Rattle.sql_statements.specs.declared.statement.Comparison.{Comparison}
use Rattle.period_keys.specs.FixedKeys.{IsComparison, turned}
use Rattle.period_keys.proofs.fixed_keys.literal_of.Goals as goal

pub returns-in-Some : goal.returns-in-Some
returns-in-Some c = inl c.in-Some.ensures

-- the sides in one order give no literal, and the other order is tried
beside : (comparison : Comparison) (test : CompareValues) (position : ℕ) (found : Option (Bor Value))
    → ((value : Value) → (test.comparison ≡ comparison) × (test.left ≡ Position position) × (test.right ≡ Literal value) → ⊥)
    → MatchOption found ((value : Value) → (test.comparison ≡ turned comparison) × (test.right ≡ Position position) × (test.left ≡ Literal value) → ⊥)
    (λ value. (test.comparison ≡ turned comparison) × (test.right ≡ Position position) × (test.left ≡ Literal value.now))
    → MatchOption found ((value : Value) → IsComparison comparison test position value → ⊥) (λ value. IsComparison comparison test position value.now)
beside comparison test position None first second = λ value says. elim says [ inl sides ↦ first value sides | inr sides ↦ second value sides ]
beside comparison test position (Some value) first second = inr second

pub returns-in-None : goal.returns-in-None
returns-in-None c =
    beside c.args.comparison c.args.test.now c.args.position c.literal_beside-in-None.result c.in-None.ensures
    (subst (λ (sought : Comparison). MatchOption c.literal_beside-in-None.result ((value : Value) → (c.args.test.now.comparison ≡ sought) × (c.args.test.now.right ≡ Position c.args.position) × (c.args.test.now.left ≡ Literal value) → ⊥)
    (λ value. (c.args.test.now.comparison ≡ sought) × (c.args.test.now.right ≡ Position c.args.position) × (c.args.test.now.left ≡ Literal value.now))) c.turned.ensures c.literal_beside-in-None.ensures)

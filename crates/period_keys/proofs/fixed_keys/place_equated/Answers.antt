use Rattle.std.proofs.Common.{◌≡◌, ℕ, Some, None, inl, inr}
use Rattle.std.specs.Prelude.{MatchOption, Option}
use Rattle.catalog_core.specs.declared.condition.Comparand.TheVariants.{Position}
use Rattle.catalog_core.specs.declared.condition.CompareValues.{CompareValues}
use Rattle.sql_statements.specs.declared.statement.Comparison.TheVariants.{Equal}
use Rattle.sql_statements.specs.declared.tree.Tree as code
use Rattle.period_keys.specs.FixedKeys.{SaysEqual}
use Rattle.period_keys.proofs.EqualPlaces.{same_test}
use Rattle.period_keys.proofs.fixed_keys.place_equated.Goals as goal

pub returns-in-Some : goal.returns-in-Some
returns-in-Some c = (c.in-Test.test, c.in-Test.is, c.in-Equal.is, inl c.in-Some.ensures)

-- the sides in one order give no place, and the other order is tried
beside : (condition : code.Tree CompareValues) (c : CompareValues) (place : ℕ) (found : Option ℕ) → condition ≡ code.Test c → c.comparison ≡ Equal
    → ((other : ℕ) → (c.left ≡ Position place) × (c.right ≡ Position other) → ⊥)
    → MatchOption found ((other : ℕ) → (c.right ≡ Position place) × (c.left ≡ Position other) → ⊥) (λ other. (c.right ≡ Position place) × (c.left ≡ Position other))
    → MatchOption found ((other : ℕ) → SaysEqual condition place other → ⊥) (λ other. SaysEqual condition place other)
beside condition c place None is equal first second = λ other says.
    elim (same_test condition c place other is says) [ inl sides ↦ first other sides | inr sides ↦ second other sides ]
beside condition c place (Some other) is equal first second = (c, is, equal, inr second)

pub returns-in-None : goal.returns-in-None
returns-in-None c = beside c.args.condition.now c.in-Test.test c.args.place c.place_beside-in-None.result c.in-Test.is c.in-Equal.is c.in-None.ensures c.place_beside-in-None.ensures

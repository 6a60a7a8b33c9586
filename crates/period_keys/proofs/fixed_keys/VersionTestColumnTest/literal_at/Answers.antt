use Rattle.std.proofs.Common.{sym, subst}
use Rattle.std.specs.Prelude.{MatchOption}
use Rattle.period_core.specs.declared.value.Value.{Value}
use Rattle.catalog_core.specs.declared.stored.VersionTest.{VersionTest}
use Rattle.period_keys.specs.FixedKeys.{IsVersionComparison}
use Rattle.period_keys.proofs.fixed_keys.VersionTestColumnTest.literal_at.Goals as goal

pub returns-in-Values : goal.returns-in-Values
returns-in-Values c =
    subst (λ (test : VersionTest). MatchOption c.literal_of.result ((value : Value) → IsVersionComparison c.args.comparison test c.args.position value → ⊥) (λ value. IsVersionComparison c.args.comparison test c.args.position value.now))
    (sym c.in-Values.is) c.literal_of.ensures

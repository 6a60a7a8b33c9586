-- Four of Allen's thirteen relations, each between the days 10 to 19 and another period, and what
-- the predicates say of it.
use Rattle.std.proofs.Common.{◌≡◌, pos, Bool, true, false, List, [], ◌∷◌, refl}
use Rattle.period_core.specs.PeriodPredicates.{contains, equals, immediately_precedes, immediately_succeeds, overlaps, precedes, succeeds}
use Rattle.period_core.specs.declared.period.Period.{Period}
use Rattle.period_core.proofs.Periods.{period_over}

abbrev x : Period
x = period_over (pos 10) (pos 20) refl

-- overlaps, equals, contains, precedes, succeeds, immediately precedes, immediately succeeds
abbrev said : Period → List Bool
said y = overlaps x y ∷ equals x y ∷ contains x y ∷ precedes x y ∷ succeeds x y ∷ immediately_precedes x y ∷ immediately_succeeds x y ∷ []

meets : said (period_over (pos 20) (pos 30) refl) ≡ false ∷ false ∷ false ∷ true ∷ false ∷ true ∷ false ∷ []
meets = refl

starting : said (period_over (pos 10) (pos 30) refl) ≡ true ∷ false ∷ false ∷ false ∷ false ∷ false ∷ false ∷ []
starting = refl

-- The tokens that name days and moments.
use Rattle.std.proofs.Common.{List, ◌↔◌, ℕ}
use Rattle.std.specs.Prelude.{◌<ℤ◌, IsSome}
use Rattle.period_core.specs.Calendar.{IsDayText}
use Rattle.period_core.specs.Moments.{IsMomentText, forever}
use Rattle.period_core.proofs.TextReadings.{there}
use Rattle.sql_front.specs.LiteralValues.{IsClockToken, IsDateToken, IsMomentToken, between_quotes}
use Rattle.sql_front.specs.reading.LeafValues.{clock_of_token, day_of_token, moment_of_token}
use Rattle.sql_front.proofs.LeafFacts.{clock_found, clock_shown, day_found, day_shown, moment_found, moment_shown}

pub day_there : (t : List ℕ) → IsSome (day_of_token t) ↔ IsDateToken t
day_there t = there (day_of_token t) (λ n. IsDayText n (between_quotes t)) (day_shown t) (day_found t)

pub moment_there : (t : List ℕ) → IsSome (moment_of_token t) ↔ IsMomentToken t
moment_there t = there (moment_of_token t) (λ n. IsMomentText n (between_quotes t)) (moment_shown t) (moment_found t)

pub clock_there : (t : List ℕ) → IsSome (clock_of_token t) ↔ IsClockToken t
clock_there t = there (clock_of_token t) (λ n. IsMomentText n (between_quotes t) × (n <ℤ forever)) (clock_shown t) (clock_found t)

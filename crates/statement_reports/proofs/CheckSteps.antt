-- The text of refusals, one after the other.
use Rattle.std.proofs.Common.{◌≡◌, ◌+◌, ◌++◌, ◌∷◌, ℕ, List, [], length, Result, refl, arith, append_assoc}
use Rattle.std.proofs.lemmas.List.{append-nil}
use Rattle.period_core.specs.declared.refusal.Refusal.{Refusal}
use Rattle.statement_reports.specs.CheckReport.{refusal_text, refusals_from}

-- the text of a list that ends in one more result
pub refusals-more : (n k : ℕ) (results : List (Result (Unit {0}) Refusal)) (result : Result (Unit {0}) Refusal) → n + length results ≡ k → refusals_from n (results ++ result ∷ []) ≡ refusals_from n results ++ refusal_text k result
refusals-more n k [] result e =
    let same : n ≡ k = omega arith in
    rw (same, append-nil (refusal_text k result)) refl
refusals-more n k (first ∷ rest) result e =
    let next : (n + 1) + length rest ≡ k = omega arith in
    rw (refusals-more (n + 1) k rest result next, append_assoc (refusal_text n first) (refusals_from (n + 1) rest) (refusal_text k result)) refl

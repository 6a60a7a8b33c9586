-- The rows that a cursor gives, and those that are left then.
use Rattle.std.proofs.Common.{◌≡◌, ◌≢◌, ◌⊎◌, ◌≤◌, ◌<◌, ◌+◌, ◌-◌, ◌∙◌, List, [], ◌∷◌, ◌++◌, ap, arith, drop, length, min, reverse, sym, take, ℕ, inl, inr}
use Rattle.std.proofs.Math.Seq.{take-add}
use Rattle.std.proofs.lemmas.Bool.{cases_lt}
use Rattle.std.proofs.lemmas.List.{reverse-append, take_all}
use Rattle.sqlite_value.specs.Order.{Row}
use Rattle.ordered_rows.specs.Forks.{most}

take_rest : (rows : List Row) (at rest : ℕ) → at ≤ most → rest ≡ min at (min (length rows) most) → take at rows ≡ take rest rows
take_rest rows at rest low is = go (cases_lt (length rows) at)
  where
    go : (length rows < at) ⊎ (at ≤ length rows) → take at rows ≡ take rest rows
    go (inl long) = take_all at rows (omega (arith, long)) ∙ sym (take_all rest rows (omega (arith, is, low, long)))
    go (inr short) = let same : at ≡ rest = omega (arith, is, low, short) in ap (λ n. take n rows) same

-- backward, the row before the rest
pub given_backward : (rows : List Row) (at rest : ℕ) (row : Row) → at ≤ most → rest ≡ min at (min (length rows) most) → rest ≢ 0
    → drop (rest - 1) rows ≡ row ∷ drop (rest - 1 + 1) rows → reverse (take at rows) ≡ row ∷ reverse (take (rest - 1) rows)
given_backward rows at rest row low is some found =
    let last : rest ≡ rest - 1 + 1 = omega (arith, some) in
    let front : take at rows ≡ take (rest - 1) rows ++ row ∷ [] =
    take_rest rows at rest low is ∙ ap (λ n. take n rows) last ∙ take-add (rest - 1) 1 rows ∙ ap (λ l. take (rest - 1) rows ++ take 1 l) found in
    ap reverse front ∙ reverse-append (take (rest - 1) rows) (row ∷ [])

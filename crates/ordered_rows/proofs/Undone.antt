-- The tree after an edit is undone.
use Rattle.std.proofs.Common.{◌≡◌, ◌≤◌, ◌<◌, ◌⊎◌, ◌+◌, ◌∙◌, [], ◌∷◌, ◌++◌, List, ap, arith, drop, inl, inr, length, refl, set, suc, sym, take, ℕ}
use Rattle.std.proofs.lemmas.Bool.{cases_lt}
use Rattle.std.proofs.Math.ListN.{drop_of_length-le}
use Rattle.std.proofs.lemmas.List.{length-take-le, set_at, take-append-drop, take_at}
use Rattle.sqlite_value.specs.Order.{Row}
use Rattle.ordered_rows.specs.Edits.{inserted, removed}
use Rattle.ordered_rows.proofs.Numbers.{drop_right}

-- a row that was put in is taken out
pub inserted_removed : (rows : List Row) (at : ℕ) (new : Row) → at ≤ length rows → removed at (inserted at new rows) ≡ rows
inserted_removed rows at new low =
    let front : length (take at rows) ≡ at = length-take-le at rows low in
    (λ i. take_at (take at rows) (new ∷ drop at rows) at front i
    ++ drop_right (inserted at new rows) (take at rows) new (drop at rows) refl (at + 1) 0 (omega (arith, front)) i)
    ∙ take-append-drop at rows

none_left : (row : Row) (rest : List Row) → [] ≡ row ∷ rest → ⊥
none_left row rest h = let lengths : 0 ≡ suc (length rest) = ap length h in omega (arith, lengths)

-- a row that was written over is written back
pub written_back : (rows : List Row) (at : ℕ) (new row : Row) → drop at rows ≡ row ∷ drop (at + 1) rows → set (set rows at new) at row ≡ rows
written_back rows at new row found = go (cases_lt at (length rows))
  where
    go : (at < length rows) ⊎ (length rows ≤ at) → set (set rows at new) at row ≡ rows
    go (inl within) =
        let front : length (take at rows) ≡ at = length-take-le at rows (omega (arith, within)) in
        let whole : rows ≡ take at rows ++ row ∷ drop (at + 1) rows = sym (take-append-drop at rows) ∙ ap (λ l. take at rows ++ l) found in
        let written : set rows at new ≡ take at rows ++ new ∷ drop (at + 1) rows = ap (λ l. set l at new) whole ∙ set_at (take at rows) row (drop (at + 1) rows) new at front in
        ap (λ l. set l at row) written ∙ set_at (take at rows) new (drop (at + 1) rows) row at front ∙ sym whole
    go (inr high) = absurd (none_left row (drop (at + 1) rows) (sym (drop_of_length-le rows high) ∙ found))

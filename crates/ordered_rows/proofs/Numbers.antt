-- Edits by number on either side of a row, and at it.
use Rattle.std.proofs.Common.{◌≡◌, ◌<◌, ◌≤◌, ◌+◌, ◌-◌, ℕ, suc, List, ◌∷◌, ◌++◌, drop, take, set, length, min, None, Option, Some, refl, sym, ap, ◌∙◌, arith, append_assoc}
use Rattle.std.specs.Option.{MatchOption}
use Rattle.std.proofs.Math.Seq.{take-append-add, drop-append-add}
use Rattle.std.proofs.lemmas.List.{take-append-le, drop-append-le, take_at, drop_at, set-append_left, set-append_right, set_at, length-append}
use Rattle.sqlite_value.specs.Order.{Row}
use Rattle.ordered_rows.specs.Edits.{inserted, removed}
use Rattle.ordered_rows.specs.Forks.{most}

module _ (rows xs : List Row) (r : Row) (ys : List Row) (is : rows ≡ xs ++ r ∷ ys) where
  pub take_left : (at : ℕ) → at ≤ length xs → take at rows ≡ take at xs
  take_left at low = ap (take at) is ∙ take-append-le at xs (r ∷ ys) low

  pub drop_left : (at : ℕ) → at ≤ length xs → drop at rows ≡ drop at xs ++ r ∷ ys
  drop_left at low = ap (drop at) is ∙ drop-append-le at xs (r ∷ ys) low

  pub take_right : (at k : ℕ) → at ≡ length xs + suc k → take at rows ≡ xs ++ r ∷ take k ys
  take_right at k past = (λ i. take (past i) (is i)) ∙ take-append-add xs (r ∷ ys) (suc k)

  pub drop_right : (at k : ℕ) → at ≡ length xs + suc k → drop at rows ≡ drop k ys
  drop_right at k past = (λ i. drop (past i) (is i)) ∙ drop-append-add xs (r ∷ ys) (suc k)

  pub inserted_right : (at k : ℕ) (new : Row) → at ≡ length xs + suc k → xs ++ r ∷ inserted k new ys ≡ inserted at new rows
  inserted_right at k new past =
      sym (append_assoc xs (r ∷ take k ys) (new ∷ drop k ys)) ∙ sym (λ i. take_right at k past i ++ new ∷ drop_right at k past i)

  pub removed_here : (at : ℕ) → length xs ≡ at → xs ++ ys ≡ removed at rows
  removed_here at here =
      sym (λ i. (ap (take at) is ∙ take_at xs (r ∷ ys) at here) i ++ drop_right (at + 1) 0 (omega (arith, here)) i)

  pub removed_right : (at k : ℕ) → at ≡ length xs + suc k → xs ++ r ∷ removed k ys ≡ removed at rows
  removed_right at k past =
      sym (append_assoc xs (r ∷ take k ys) (drop (k + 1) ys)) ∙ sym (λ i. take_right at k past i ++ drop_right (at + 1) (k + 1) (omega (arith, past)) i)

  pub set_left : (at : ℕ) (new : Row) → at < length xs → set xs at new ++ r ∷ ys ≡ set rows at new
  set_left at new low = sym (ap (λ l. set l at new) is ∙ set-append_left xs (r ∷ ys) at new low)

  pub set_here : (at : ℕ) (new : Row) → length xs ≡ at → xs ++ new ∷ ys ≡ set rows at new
  set_here at new here = sym (ap (λ l. set l at new) is ∙ set_at xs r ys new at here)

  pub set_right : (at k : ℕ) (new : Row) → at ≡ length xs + suc k → xs ++ r ∷ set ys k new ≡ set rows at new
  set_right at k new past =
      let left : at - length xs ≡ suc k = omega (arith, past) in
      sym (ap (λ l. set l at new) is ∙ set-append_right xs (r ∷ ys) (length xs) at new refl (omega (arith, past)) ∙ ap (λ n. xs ++ set (r ∷ ys) n new) left)

  -- the row with this number is followed by the rows after it
  pub nth_here : (at : ℕ) → length xs ≡ at → drop at rows ≡ r ∷ drop (at + 1) rows
  nth_here at here = ap (drop at) is ∙ drop_at xs (r ∷ ys) at here ∙ ap (λ l. r ∷ l) (sym (drop_right (at + 1) 0 (omega (arith, here))))

  pub nth_right : (at k : ℕ) (row : Row) → at ≡ length xs + suc k → drop k ys ≡ row ∷ drop (k + 1) ys → drop at rows ≡ row ∷ drop (at + 1) rows
  nth_right at k row past h = drop_right at k past ∙ h ∙ ap (λ l. row ∷ l) (sym (drop_right (at + 1) (k + 1) (omega (arith, past))))

  pub beyond : (at k : ℕ) → at ≡ length xs + suc k → length ys ≤ k → length rows ≤ at
  beyond at k past high = rw is (omega (arith, length-append xs (r ∷ ys), past, high))

-- a number on the right that is known
pub told : (at left k : ℕ) → at ≡ min (left + 1 + k) most → at < most → (at ≡ left + suc k) × (k < most)
told at left k is low = (omega (arith, is, low), omega (arith, is, low))

-- the number of a left side, if it is not the greatest
pub counted : (count left : ℕ) → count ≡ min left most → count < most → left ≡ count
counted count left is low = omega (arith, is, low)

pub counted_above : (count left at : ℕ) → count ≡ min left most → at < count → at < left
counted_above count left at is low = omega (arith, is, low)

-- a row after the fork's row is found on the right
pub past : (count left at : ℕ) → count ≡ min left most → count < at → at < most → (at ≡ left + suc (at - count - 1)) × (at - count - 1 < most)
past count left at is over low = (omega (arith, is, over, low), omega (arith, low))

pub option_weaker : {A : Type 0} (o : Option A) (P P' : Type 0) (Q Q' : A → Type 0) → (P → P') → ((x : A) → Q x → Q' x) → MatchOption o P Q → MatchOption o P' Q'
option_weaker None P P' Q Q' f g h = f h
option_weaker (Some x) P P' Q Q' f g h = g x h

-- The values of a row from a position on, and the truth of a condition that they decide.
use Rattle.std.proofs.Common.{◌≡◌, ◌<◌, ◌≤◌, ◌-◌, ◌++◌, ◌∷◌, [], ℕ, zero, suc, Bool, List}
use Rattle.std.proofs.Common.{true, false, length, get_or, refl, sym, ◌∙◌, ap}
use Rattle.std.proofs.Common.{arith}
use Rattle.std.specs.Prelude.{◌||◌, ◌&&◌, slice_get}
use Rattle.std.specs.Global.{Box, Vec}
use Rattle.std.specs.List.{All, list_any, list_all}
use Rattle.std.proofs.lemmas.List.Elements.{All-head, All-tail}
use Rattle.std.proofs.lemmas.List.Folds.{list_any_at, list_all_at}
use Rattle.period_core.specs.declared.value.Value.{Value}
use Rattle.sql_statements.specs.declared.tree.Tree as code
use Rattle.catalog_core.specs.Conditions.{compares, meets}
use Rattle.catalog_core.specs.declared.condition.CompareValues.{CompareValues}
use Rattle.catalog_core.proofs.lemmas.conditions.Truth.{and_both, and_truth, or_none}
use Rattle.catalog_core.proofs.lemmas.conditions.Truth.{or_truth, test_truth}
use Rattle.history_model.specs.OrdinaryQuery.{meets_all}
use Rattle.sequenced_ops.specs.Operations.{Cond}
use Rattle.sequenced_ops.specs.Planning.{IsTestTruth, IsTruth, RulesOut}

-- ---- the place of a value in a row

pub get-left
    : (xs ys : List Value) (p : ℕ) → p < length xs → slice_get (xs ++ ys) p ≡ slice_get xs p
get-left [] ys p h = absurd (omega arith)
get-left (x ∷ xs) ys zero h = refl
get-left (x ∷ xs) ys (suc p) h = get-left xs ys p (omega arith)

pub get-right
    : (xs ys : List Value) (p q : ℕ) → length xs ≤ p → q ≡ p - length xs
    → slice_get (xs ++ ys) p ≡ slice_get ys q
get-right [] ys p q h e = ap (slice_get ys) (omega arith)
get-right (x ∷ xs) ys zero q h e = absurd (omega arith)
get-right (x ∷ xs) ys (suc p) q h e = get-right xs ys p q (omega arith) (omega arith)

-- ---- conditions by their parts

module _ (start : ℕ) (values : List Value) where
  -- the condition in a whole row
  abbrev pub at : List Value → List Value → Cond → Bool
  at first rest condition = meets condition (first ++ (values ++ rest))

  pub test_is
      : (leaf : CompareValues) (truth : Bool) → IsTestTruth start values leaf truth
      → IsTruth start values (code.Test leaf) truth
  test_is leaf truth h first rest e =
      test_truth (compares (first ++ (values ++ rest))) leaf ∙ h first rest e

  or_here : (a b : Bool) → a ≡ true → (a || b) ≡ true
  or_here true b e = refl
  or_here false b e = cc

  or_there : (a b : Bool) → b ≡ true → (a || b) ≡ true
  or_there true b e = refl
  or_there false b e = e

  and_here : (a b : Bool) → a ≡ false → (a && b) ≡ false
  and_here true b e = cc
  and_here false b e = refl

  and_there : (a b : Bool) → b ≡ false → (a && b) ≡ false
  and_there true b e = e
  and_there false b e = refl

  pub or_first
      : (first_part : Box Cond) (others : Vec Cond) → IsTruth start values first_part.value true
      → IsTruth start values (code.Or first_part others) true
  or_first first_part others h first rest e =
      or_truth (compares (first ++ (values ++ rest))) first_part others
      ∙ or_here (at first rest first_part.value) (list_any (at first rest) others.items)
      (h first rest e)

  pub or_part
      : (first_part : Box Cond) (others : Vec Cond) (parts : List Cond)
      → parts ≡ others.items → (i : ℕ) (part : Cond) → i < length parts
      → part ≡ get_or parts i part
      → IsTruth start values part true → IsTruth start values (code.Or first_part others) true
  or_part first_part others parts same i part here is h first rest e =
      or_truth (compares (first ++ (values ++ rest))) first_part others
      ∙ or_there (at first rest first_part.value) (list_any (at first rest) others.items)
      (ap (list_any (at first rest)) (sym same)
      ∙ list_any_at (at first rest) parts i part here
      (ap (at first rest) (sym is) ∙ h first rest e))

  none_holds
      : (parts : List Cond) → All (λ part. IsTruth start values part false) parts
      → (first rest : List Value) → length first ≡ start
      → list_any (at first rest) parts ≡ false
  none_holds [] all first rest e = refl
  none_holds (part ∷ parts) all first rest e =
      or_none (at first rest part) (list_any (at first rest) parts)
      (All-head (λ p. IsTruth start values p false) part parts all first rest e)
      (none_holds parts (All-tail (λ p. IsTruth start values p false) part parts all) first rest e)

  pub or_nowhere
      : (first_part : Box Cond) (others : Vec Cond) → IsTruth start values first_part.value false
      → All (λ part. IsTruth start values part false) others.items
      → IsTruth start values (code.Or first_part others) false
  or_nowhere first_part others h all first rest e =
      or_truth (compares (first ++ (values ++ rest))) first_part others
      ∙ or_none (at first rest first_part.value) (list_any (at first rest) others.items)
      (h first rest e) (none_holds others.items all first rest e)

  pub and_first
      : (first_part : Box Cond) (others : Vec Cond)
      → IsTruth start values first_part.value false
      → IsTruth start values (code.And first_part others) false
  and_first first_part others h first rest e =
      and_truth (compares (first ++ (values ++ rest))) first_part others
      ∙ and_here (at first rest first_part.value) (list_all (at first rest) others.items)
      (h first rest e)

  pub and_part
      : (first_part : Box Cond) (others : Vec Cond) (parts : List Cond)
      → parts ≡ others.items → (i : ℕ) (part : Cond) → i < length parts
      → part ≡ get_or parts i part
      → IsTruth start values part false → IsTruth start values (code.And first_part others) false
  and_part first_part others parts same i part here is h first rest e =
      and_truth (compares (first ++ (values ++ rest))) first_part others
      ∙ and_there (at first rest first_part.value) (list_all (at first rest) others.items)
      (ap (list_all (at first rest)) (sym same)
      ∙ list_all_at (at first rest) parts i part here
      (ap (at first rest) (sym is) ∙ h first rest e))

  each_holds
      : (parts : List Cond) → All (λ part. IsTruth start values part true) parts
      → (first rest : List Value) → length first ≡ start
      → list_all (at first rest) parts ≡ true
  each_holds [] all first rest e = refl
  each_holds (part ∷ parts) all first rest e =
      and_both (at first rest part) (list_all (at first rest) parts)
      (All-head (λ p. IsTruth start values p true) part parts all first rest e)
      (each_holds parts (All-tail (λ p. IsTruth start values p true) part parts all) first rest e)

  pub and_everywhere
      : (first_part : Box Cond) (others : Vec Cond) → IsTruth start values first_part.value true
      → All (λ part. IsTruth start values part true) others.items
      → IsTruth start values (code.And first_part others) true
  and_everywhere first_part others h all first rest e =
      and_truth (compares (first ++ (values ++ rest))) first_part others
      ∙ and_both (at first rest first_part.value) (list_all (at first rest) others.items)
      (h first rest e) (each_holds others.items all first rest e)

  -- one condition that is refuted rules the values out
  pub refuted_at
      : (conjuncts : List Cond) (i : ℕ) (condition : Cond) → i < length conjuncts
      → condition ≡ get_or conjuncts i condition → IsTruth start values condition false
      → RulesOut conjuncts start values
  refuted_at conjuncts i condition here is h first rest e met =
      let none : meets_all conjuncts (first ++ (values ++ rest)) ≡ false =
      list_all_at (at first rest) conjuncts i condition here
      (ap (at first rest) (sym is) ∙ h first rest e) in
      cc

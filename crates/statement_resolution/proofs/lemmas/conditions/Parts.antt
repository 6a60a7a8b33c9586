-- The faults of a condition, by the condition's parts, and which operator a chain has.
use Rattle.std.proofs.Common.{◌≡◌, ◌≤◌, ◌⊎◌, inl, inr, ℕ, List, [], ◌∷◌, length, map, refl, sym, take, ◌∙◌, ap}
use Rattle.std.specs.Global.{Box, Vec}
use Rattle.sql_statements.specs.declared.tree.Tree as code
use Rattle.sql_statements.specs.Plain.{plain_condition}
use Rattle.sql_statements.specs.Trees.{conditions_of}
use Rattle.catalog_core.proofs.lemmas.conditions.Truth.{and_view, or_view, test_view}
use Rattle.statement_resolution.proofs.lemmas.judged.FaultSums.{among_append, among_end, either_none, either_turned}
use Rattle.catalog_core.specs.Conditions.{tests_among, tests_of}
use Rattle.statement_resolution.specs.Faults.{condition_faults, either, faults_among}
use Rattle.statement_resolution.specs.declared.faults.Faults.{Faults}

module _ {T : Type 0} (f : T → Faults) where
  -- the faults of a condition of the program
  abbrev pub faults_in : code.Tree T → Faults
  faults_in part = condition_faults f (plain_condition part)

  of_parts : (parts : List (code.Tree T)) → faults_among f (tests_among (conditions_of (map plain_condition parts))) ≡ faults_among faults_in parts
  of_parts [] = refl
  of_parts (part ∷ parts) =
      among_append f (tests_of (plain_condition part)) (tests_among (conditions_of (map plain_condition parts)))
      ∙ ap (either (faults_in part)) (of_parts parts)

  -- the parts of a chain of either operator
  chain_parts : (condition : code.Tree T) (first : Box (code.Tree T)) (others : Vec (code.Tree T))
      → (condition ≡ code.Or first others) ⊎ (condition ≡ code.And first others)
      → faults_in condition ≡ either (faults_in first.value) (faults_among faults_in others.items)
  chain_parts condition first others chain =
      elim chain [
        | inl is_or ↦ ap faults_in is_or ∙ ap (condition_faults f) (or_view first others) ∙ of_parts (first.value ∷ others.items)
        | inr is_and ↦ ap faults_in is_and ∙ ap (condition_faults f) (and_view first others) ∙ of_parts (first.value ∷ others.items)
      ]

  -- of the other parts, then of the first
  pub chain_faults : (condition : code.Tree T) (first : Box (code.Tree T)) (others : Vec (code.Tree T)) (items : List (code.Tree T)) (i : ℕ) (part : code.Tree T) (old before after : Faults)
      → (condition ≡ code.Or first others) ⊎ (condition ≡ code.And first others) → length items ≤ i → items ≡ others.items → part ≡ first.value
      → before ≡ either old (faults_among faults_in (take i items)) → after ≡ either before (faults_in part) → after ≡ either old (faults_in condition)
  chain_faults condition first others items i part old before after chain done same at so_far next =
      let sum : Faults = faults_among faults_in others.items in
      next ∙ ap (λ (g : Faults). either g (faults_in part)) (so_far ∙ ap (either old) (among_end faults_in items others.items i done same))
      ∙ ap (λ (p : code.Tree T). either (either old sum) (faults_in p)) at
      ∙ either_turned old sum (faults_in first.value)
      ∙ ap (either old) (sym (chain_parts condition first others chain))

  pub test_part : (leaf : T) → faults_in (code.Test leaf) ≡ f leaf
  test_part leaf = ap (condition_faults f) (test_view leaf) ∙ either_none (f leaf)

-- the operator of a chain
module _ {T : Type 0} (condition : code.Tree T) (first : Box (code.Tree T)) (others : Vec (code.Tree T)) where
  pub is_and : (condition ≡ code.Or first others) ⊎ (condition ≡ code.And first others) → (a : Box (code.Tree T)) (b : Vec (code.Tree T)) → condition ≡ code.And a b → condition ≡ code.And first others
  is_and (inl left) a b same = absurd (let no : code.Or first others ≡ code.And a b = sym left ∙ same in cc)
  is_and (inr right) a b same = right

  pub is_or : (condition ≡ code.Or first others) ⊎ (condition ≡ code.And first others) → ((a : Box (code.Tree T)) (b : Vec (code.Tree T)) → condition ≡ code.And a b → ⊥) → condition ≡ code.Or first others
  is_or (inl left) other = left
  is_or (inr right) other = absurd (other first others right)

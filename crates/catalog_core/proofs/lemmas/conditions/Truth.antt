-- Conditions of the program by their parts: what they are as plain trees, and their truth.
use Rattle.std.proofs.Common.{◌≡◌, Bool, true, false, List, [], ◌∷◌, map, not, refl, sym, ◌∙◌, ap}
use Rattle.std.specs.Prelude.{◌||◌, ◌&&◌}
use Rattle.std.specs.Global.{Box, Vec}
use Rattle.std.specs.List.{list_any, list_all}
use Rattle.sql_statements.specs.declared.tree.Tree as code
use Rattle.sql_statements.specs.declared.tree.Tree.TheVariants as rolls
use Rattle.sql_statements.specs.declared.tree.Tree.TheOpen as layer
use Rattle.sql_statements.specs.declared.tree.Tree.TheFolds.{fold-roll-Tree}
use Rattle.sql_statements.specs.Plain.{condition_layer, plain_condition}
use Rattle.sql_statements.specs.Trees.{Condition, any, all, more, negated, test, conditions_of}
use Rattle.catalog_core.specs.Conditions.{each_satisfied, is_satisfied, some_satisfied}

module _ {T : Type 0} where
  -- an OR of the program, as a plain tree
  pub or_view : (first : Box (code.Tree T)) (others : Vec (code.Tree T))
      → plain_condition (code.Or first others) ≡ any (more (plain_condition first.value) (conditions_of (map plain_condition others.items)))
  or_view first others =
      ap plain_condition (sym (rolls.rolls-Or first others))
      ∙ fold-roll-Tree T (Condition T) condition_layer (layer.Or first others)

  -- an AND of the program, as a plain tree
  pub and_view : (first : Box (code.Tree T)) (others : Vec (code.Tree T))
      → plain_condition (code.And first others) ≡ all (more (plain_condition first.value) (conditions_of (map plain_condition others.items)))
  and_view first others =
      ap plain_condition (sym (rolls.rolls-And first others))
      ∙ fold-roll-Tree T (Condition T) condition_layer (layer.And first others)

  pub not_view : (part : Box (code.Tree T)) → plain_condition (code.Not part) ≡ negated (plain_condition part.value)
  not_view part =
      ap plain_condition (sym (rolls.rolls-Not part))
      ∙ fold-roll-Tree T (Condition T) condition_layer (layer.Not part)

  -- a test of the program, as a plain tree
  pub test_view : (leaf : T) → plain_condition (code.Test leaf) ≡ test leaf
  test_view leaf = ap plain_condition (sym (rolls.rolls-Test leaf)) ∙ fold-roll-Tree T (Condition T) condition_layer (layer.Test leaf)

-- the truth of a condition, by the truth of its tests
abbrev pub truth : {T : Type 0} → (T → Bool) → code.Tree T → Bool
truth p part = is_satisfied p (plain_condition part)

module _ {T : Type 0} (p : T → Bool) where
  some_of : (parts : List (code.Tree T)) → some_satisfied p (conditions_of (map plain_condition parts)) ≡ list_any (truth p) parts
  some_of [] = refl
  some_of (part ∷ parts) = ap (λ b. truth p part || b) (some_of parts)

  each_of : (parts : List (code.Tree T)) → each_satisfied p (conditions_of (map plain_condition parts)) ≡ list_all (truth p) parts
  each_of [] = refl
  each_of (part ∷ parts) = ap (λ b. truth p part && b) (each_of parts)

  -- an OR is true if one of its parts is
  pub or_truth : (first : Box (code.Tree T)) (others : Vec (code.Tree T))
      → truth p (code.Or first others) ≡ (truth p first.value || list_any (truth p) others.items)
  or_truth first others = ap (is_satisfied p) (or_view first others) ∙ some_of (first.value ∷ others.items)

  -- an AND is true if all of its parts are
  pub and_truth : (first : Box (code.Tree T)) (others : Vec (code.Tree T))
      → truth p (code.And first others) ≡ (truth p first.value && list_all (truth p) others.items)
  and_truth first others = ap (is_satisfied p) (and_view first others) ∙ each_of (first.value ∷ others.items)

  pub not_truth : (part : Box (code.Tree T)) → truth p (code.Not part) ≡ not (truth p part.value)
  not_truth part = ap (is_satisfied p) (not_view part)

  -- a test alone has its own truth
  pub test_truth : (leaf : T) → truth p (code.Test leaf) ≡ p leaf
  test_truth leaf = ap (is_satisfied p) (test_view leaf)

pub or_right : (a b : Bool) → a ≡ false → b ≡ true → (a || b) ≡ true
or_right true b e f = cc
or_right false b e f = f

-- an OR of two false values is false
pub or_none : (a b : Bool) → a ≡ false → b ≡ false → (a || b) ≡ false
or_none true b e f = cc
or_none false b e f = f

pub and_right : (a b : Bool) → a ≡ true → b ≡ false → (a && b) ≡ false
and_right true b e f = f
and_right false b e f = cc

-- an AND of two true values is true
pub and_both : (a b : Bool) → a ≡ true → b ≡ true → (a && b) ≡ true
and_both true b e f = f
and_both false b e f = cc

-- Conditions in parentheses, and the program's conditions as the model has them.
use Rattle.std.proofs.Common.{◌≡◌, ℕ, suc, ◌-◌, ◌<◌, List, ◌∷◌, map, None, refl, sym, ap, ◌∙◌, arith}
use Rattle.std.specs.Global.{Box, Vec}
use Rattle.sql_statements.specs.declared.tree.Tree as code
use Rattle.sql_statements.specs.declared.tree.Tree.TheVariants as rolls
use Rattle.sql_statements.specs.declared.tree.Tree.TheOpen as layer
use Rattle.sql_statements.specs.declared.tree.Tree.TheFolds.{fold-roll-Tree}
use Rattle.sql_statements.specs.Lexemes.{Lexeme}
use Rattle.sql_statements.specs.Trees.{Condition, test}
use Rattle.sql_front.specs.Builders.{all_of, any_of}
use Rattle.sql_statements.specs.Plain.{condition_layer, plain_condition}
use Rattle.sql_front.specs.reading.Reading.{Reader}
use Rattle.sql_front.specs.reading.ConditionReaders.{inner_read, condition_read, conjunction_read, factor_read, test_read}

module _ {T : Type 0} (p : Reader T) where
  pub inner_none : (n : ℕ) (ts : List Lexeme) → n ≡ 0 → inner_read p n ts ≡ None
  unfolding inner_read
  inner_none n ts e = rw e refl

  below : (n : ℕ) (ts : List Lexeme) → inner_read p (suc n) ts ≡ condition_read p n ts
  unfolding inner_read condition_read conjunction_read factor_read test_read
  below n ts = refl

  pub inner_below : (n : ℕ) (ts : List Lexeme) → 0 < n → inner_read p n ts ≡ condition_read p (n - 1) ts
  inner_below n ts h =
      let e : n ≡ suc (n - 1) = omega arith in
      ap (λ (k : ℕ). inner_read p k ts) e ∙ below (n - 1) ts

module _ {T : Type 0} where
  pub or_view : (first : Box (code.Tree T)) (others : Vec (code.Tree T))
      → plain_condition (code.Or first others) ≡ any_of (plain_condition first.value ∷ map plain_condition others.items)
  or_view first others =
      ap plain_condition (sym (rolls.rolls-Or first others))
      ∙ fold-roll-Tree T (Condition T) condition_layer (layer.Or first others)

  pub and_view : (first : Box (code.Tree T)) (others : Vec (code.Tree T))
      → plain_condition (code.And first others) ≡ all_of (plain_condition first.value ∷ map plain_condition others.items)
  and_view first others =
      ap plain_condition (sym (rolls.rolls-And first others))
      ∙ fold-roll-Tree T (Condition T) condition_layer (layer.And first others)

  pub test_view : (leaf : T) → plain_condition (code.Test leaf) ≡ test leaf
  test_view leaf = ap plain_condition (sym (rolls.rolls-Test leaf)) ∙ fold-roll-Tree T (Condition T) condition_layer (layer.Test leaf)

pub ruleset inner_views = (inner_none, inner_below)

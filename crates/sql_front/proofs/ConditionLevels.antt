-- Conditions and their tests, by the room that is left for parentheses.
use Rattle.std.proofs.Common.{◌≡◌, ℕ, zero, suc, false, List, refl, codes}
use Rattle.sql_statements.specs.declared.statement.Comparison.{Comparison}
use Rattle.sql_statements.specs.declared.statement.Comparison.TheVariants.{Equal, NotEqual, Less, LessOrEqual, Greater, GreaterOrEqual}
use Rattle.sql_statements.specs.declared.statement.Operand.TheVariants.{Column, Literal}
use Rattle.sql_statements.specs.declared.statement.PeriodOperand.TheVariants.{Named}
use Rattle.sql_statements.specs.declared.statement.PeriodPredicate.{PeriodPredicate}
use Rattle.sql_statements.specs.declared.statement.PeriodPredicate.TheVariants.{Overlaps, Equals, Contains, Precedes, Succeeds, ImmediatelyPrecedes, ImmediatelySucceeds}
use Rattle.sql_statements.specs.declared.statement.StoredTest.TheVariants.{Values}
use Rattle.sql_front.specs.Language.{Language, keyword, symbol, Enclosed, Denotes}
use Rattle.sql_statements.specs.Trees.{Condition, negated, test}
use Rattle.sql_front.specs.Builders.{all_of, any_of, column_reference_of, compare_of, contains_day_of, dates_of, periods_of}
use Rattle.sql_front.specs.Grammar.{ConditionBelow, IsCondition, IsConjunction, IsFactor, IsTest, IsWhere}
use Rattle.sql_front.proofs.ReadGrammar.{IsColumn, IsCompare, IsComparison, IsOperand, IsPeriodOperand, IsPredicate, IsRelation, IsStoredTest}
use Rattle.std.specs.Str.{bytes_eq}
use Rattle.sql_front.proofs.Levels.{Level, level_built, level_choice, level_closed, level_enclosed, level_enclosed_same, level_of_token, level_optional, level_preceded, level_separated, level_sequence, plain_keyword, plain_symbol}
use Rattle.sql_front.proofs.LeavesRead.{level_date, level_literal}
use Rattle.sql_front.proofs.NamesRead.{level_name, plain_comma}

-- ---- comparisons

pub level_column : (k : ℕ) → Level k IsColumn IsColumn
level_column k = level_built column_reference_of (level_sequence (level_name k) (level_optional (level_preceded (plain_symbol (codes ".") refl refl) (level_name k))))

level_operand : (k : ℕ) → Level k IsOperand IsOperand
level_operand k = level_choice (level_built Column (level_column k)) (level_built Literal (level_literal k))

level_sign : (k : ℕ) (c : Comparison) (s : List ℕ) → bytes_eq s (codes "(") ≡ false → bytes_eq s (codes ")") ≡ false → Level k (Denotes c (symbol s)) (Denotes c (symbol s))
level_sign k c s e f = level_of_token k c (plain_symbol s e f)

level_comparison : (k : ℕ) → Level k IsComparison IsComparison
level_comparison k =
    level_choice (level_sign k Equal (codes "=") refl refl)
    (level_choice (level_sign k NotEqual (codes "<>") refl refl)
    (level_choice (level_sign k Less (codes "<") refl refl)
    (level_choice (level_sign k LessOrEqual (codes "<=") refl refl)
    (level_choice (level_sign k Greater (codes ">") refl refl)
    (level_sign k GreaterOrEqual (codes ">=") refl refl)))))

pub level_compare : (k : ℕ) → Level k IsCompare IsCompare
level_compare k = level_built compare_of (level_sequence (level_operand k) (level_sequence (level_comparison k) (level_operand k)))

-- ---- the tests of stored queries

level_period_operand : (k : ℕ) → Level k IsPeriodOperand IsPeriodOperand
level_period_operand k =
    level_choice (level_built dates_of (level_preceded (plain_keyword (codes "PERIOD")) (level_enclosed_same k (λ j. level_sequence (level_date j) (level_preceded plain_comma (level_date j))))))
    (level_built Named (level_column k))

level_word : (k : ℕ) (r : PeriodPredicate) (w : List ℕ) → Level k (Denotes r (keyword w)) (Denotes r (keyword w))
level_word k r w = level_of_token k r (plain_keyword w)

level_relation : (k : ℕ) → Level k IsRelation IsRelation
level_relation k =
    level_choice (level_word k Overlaps (codes "OVERLAPS"))
    (level_choice (level_word k Equals (codes "EQUALS"))
    (level_choice (level_word k Contains (codes "CONTAINS"))
    (level_choice (level_preceded (plain_keyword (codes "IMMEDIATELY")) (level_choice (level_word k ImmediatelyPrecedes (codes "PRECEDES")) (level_word k ImmediatelySucceeds (codes "SUCCEEDS"))))
    (level_choice (level_word k Precedes (codes "PRECEDES")) (level_word k Succeeds (codes "SUCCEEDS"))))))

level_predicate : (k : ℕ) → Level k IsPredicate IsPredicate
level_predicate k =
    level_choice (level_built periods_of (level_sequence (level_period_operand k) (level_sequence (level_relation k) (level_period_operand k))))
    (level_built contains_day_of (level_sequence (level_period_operand k) (level_preceded (plain_keyword (codes "CONTAINS")) (level_date k))))

pub level_stored_test : (k : ℕ) → Level k IsStoredTest IsStoredTest
level_stored_test k = level_choice (level_predicate k) (level_built Values (level_compare k))

-- ---- conditions

module _ {T : Type 0} {Test : Language T} (tests : (k : ℕ) → Level k Test Test) where
  level_over : {k : ℕ} (L M : Language (Condition T)) → Level k (Enclosed L) (Enclosed M) → Level k (IsCondition Test L) (IsCondition Test M)
  level_over {k} L M r =
      let one : Level k (IsTest Test L) (IsTest Test M) = level_choice r (level_built test (tests k)) in
      let factor : Level k (IsFactor Test L) (IsFactor Test M) = level_choice (level_built negated (level_preceded (plain_keyword (codes "NOT")) one)) one in
      let conjunction : Level k (IsConjunction Test L) (IsConjunction Test M) = level_built all_of (level_separated (plain_keyword (codes "AND")) factor) in
      level_built any_of (level_separated (plain_keyword (codes "OR")) conjunction)

  -- a condition within the room for parentheses is a condition of that depth
  pub level_condition : (n k : ℕ) → Level k (ConditionBelow Test n) (ConditionBelow Test (suc k))
  unfolding ConditionBelow
  level_condition zero k = record { keeps = λ x a j h e. absurd h }
  level_condition (suc n) zero = level_over (ConditionBelow Test n) (ConditionBelow Test zero) (level_closed (ConditionBelow Test n) (Enclosed (ConditionBelow Test zero)))
  level_condition (suc n) (suc k) = level_over (ConditionBelow Test n) (ConditionBelow Test (suc k)) (level_enclosed (level_condition n k))

  pub level_where : (n k : ℕ) → Level k (IsWhere Test n) (IsWhere Test (suc k))
  level_where n k = level_optional (level_preceded (plain_keyword (codes "WHERE")) (level_condition n k))

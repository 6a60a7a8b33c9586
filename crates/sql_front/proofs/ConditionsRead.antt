-- Columns, comparisons and conditions are read.
use Rattle.std.proofs.Common.{◌≡◌, ℕ, zero, suc, Bool, true, List, [], ◌∷◌, ◌++◌, refl, codes}
use Rattle.sql_statements.specs.declared.statement.Comparison.{Comparison}
use Rattle.sql_statements.specs.declared.statement.Comparison.TheVariants.{Equal, NotEqual, Less, LessOrEqual, Greater, GreaterOrEqual}
use Rattle.sql_statements.specs.declared.statement.Operand.TheVariants.{Column, Literal}
use Rattle.sql_statements.specs.Lexemes.{Lexeme}
use Rattle.sql_front.specs.Language.{Language, keyword, symbol, Built, Choice, Enclosed, Fixed, Optional, Preceded, Sequence, Denotes}
use Rattle.sql_statements.specs.Trees.{Condition, negated, test}
use Rattle.sql_front.specs.Builders.{all_of, column_reference_of, compare_of}
use Rattle.sql_front.specs.Grammar.{ConditionBelow, IsCondition, IsConjunction, IsFactor, IsTest, IsWhere}
use Rattle.sql_front.proofs.ReadGrammar.{IsColumn, IsCompare, IsComparison, IsName, IsOperand}
use Rattle.sql_front.specs.Builders as builders
use Rattle.sql_front.specs.reading.Reading.{Reader, denotes_read}
use Rattle.sql_front.specs.reading.ConditionReaders.{column_read, compare_read, comparison_read, condition_read, condition_with, conjunction_read, conjunction_with, factor_read, factor_with, inner_read, operand_read, test_read, test_with, where_read}
use Rattle.sql_front.proofs.First.{Starts, begins_apart, or_apart, starts_built, starts_choice, starts_preceded, starts_sequence, starts_denotes}
use Rattle.period_core.proofs.OptionFacts.{none_some}
use Rattle.sql_front.proofs.Laws.{Any, Not, Reads, reads_both, reads_built, reads_choice, reads_optional, reads_preceded, reads_sequence, reads_denotes, reads_weaken}
use Rattle.sql_front.proofs.LeavesRead.{reads_literal, starts_literal}
use Rattle.sql_front.proofs.NamesRead.{reads_name, starts_name}
use Rattle.sql_front.proofs.Sorts.{Next, Sort, a_name, a_number, a_text, all_differ, any_of, apart_lists, next_not, reads_choice_next, reads_enclosed_next, reads_less, reads_next, reads_optional_next, reads_separated_next, sign, word}

-- ---- columns and operands

abbrev pub dot : Lexeme → Bool
dot = symbol (codes ".")

pub reads_column : Reads IsColumn (Not dot Any) column_read
unfolding column_read
reads_column = reads_built column_reference_of (reads_both reads_name (reads_optional (starts_preceded dot IsName) (reads_preceded dot reads_name)))

-- a column is read before tokens of some sorts, none of which is a period
pub reads_column_next : (ss : List Sort) → all_differ ss (sign (codes ".") ∷ []) ≡ true → Reads IsColumn (Next ss) column_read
reads_column_next ss e = reads_weaken (Next ss) (λ rest n. (tt, next_not ss (sign (codes ".") ∷ []) e rest n)) reads_column

pub starts_column : Starts (any_of (a_name ∷ [])) IsColumn
starts_column = starts_built column_reference_of (starts_sequence (Optional (Preceded dot IsName)) starts_name)

abbrev pub literal_firsts : List Sort
literal_firsts = sign (codes "+") ∷ a_number ∷ sign (codes "-") ∷ a_text ∷ word (codes "DATE") ∷ []

abbrev pub operand_firsts : List Sort
operand_firsts = a_name ∷ literal_firsts

pub starts_operand : Starts (any_of operand_firsts) IsOperand
starts_operand = starts_choice (starts_built Column starts_column) (starts_built Literal starts_literal)

pub reads_operand : Reads IsOperand (Not dot Any) operand_read
unfolding operand_read
reads_operand =
    reads_choice_next (a_name ∷ []) literal_firsts refl (starts_built Column starts_column) (starts_built Literal starts_literal)
    (reads_built Column reads_column) (reads_built Literal (reads_weaken (Not dot Any) (λ rest f. tt) reads_literal))

-- ---- comparisons

abbrev greater_firsts : List Sort
greater_firsts = sign (codes ">") ∷ sign (codes ">=") ∷ []

abbrev less_or_equal_firsts : List Sort
less_or_equal_firsts = sign (codes "<=") ∷ greater_firsts

abbrev less_firsts : List Sort
less_firsts = sign (codes "<") ∷ less_or_equal_firsts

abbrev not_equal_firsts : List Sort
not_equal_firsts = sign (codes "<>") ∷ less_firsts

abbrev pub comparison_firsts : List Sort
comparison_firsts = sign (codes "=") ∷ not_equal_firsts

abbrev Stands : Comparison → List ℕ → Language Comparison
Stands c s = Denotes c (symbol s)

starts_sign : (c : Comparison) (s : List ℕ) → Starts (any_of (sign s ∷ [])) (Stands c s)
starts_sign c s = starts_denotes c (symbol s)

reads_sign : (c : Comparison) (s : List ℕ) → Reads (Stands c s) Any (denotes_read c (symbol s))
reads_sign c s = reads_denotes c (symbol s)

abbrev IsGreater : Language Comparison
IsGreater = Choice (Stands Greater (codes ">")) (Stands GreaterOrEqual (codes ">="))

abbrev IsLessOrEqual : Language Comparison
IsLessOrEqual = Choice (Stands LessOrEqual (codes "<=")) IsGreater

abbrev IsLess : Language Comparison
IsLess = Choice (Stands Less (codes "<")) IsLessOrEqual

abbrev IsNotEqual : Language Comparison
IsNotEqual = Choice (Stands NotEqual (codes "<>")) IsLess

starts_greater : Starts (any_of greater_firsts) IsGreater
starts_greater = starts_choice (starts_sign Greater (codes ">")) (starts_sign GreaterOrEqual (codes ">="))

starts_less_or_equal : Starts (any_of less_or_equal_firsts) IsLessOrEqual
starts_less_or_equal = starts_choice (starts_sign LessOrEqual (codes "<=")) starts_greater

starts_less : Starts (any_of less_firsts) IsLess
starts_less = starts_choice (starts_sign Less (codes "<")) starts_less_or_equal

starts_not_equal : Starts (any_of not_equal_firsts) IsNotEqual
starts_not_equal = starts_choice (starts_sign NotEqual (codes "<>")) starts_less

pub starts_comparison : Starts (any_of comparison_firsts) IsComparison
starts_comparison = starts_choice (starts_sign Equal (codes "=")) starts_not_equal

pub reads_comparison : Reads IsComparison Any comparison_read
unfolding comparison_read
reads_comparison =
    reads_choice_next (sign (codes "=") ∷ []) not_equal_firsts refl (starts_sign Equal (codes "=")) starts_not_equal (reads_sign Equal (codes "="))
    (reads_choice_next (sign (codes "<>") ∷ []) less_firsts refl (starts_sign NotEqual (codes "<>")) starts_less (reads_sign NotEqual (codes "<>"))
    (reads_choice_next (sign (codes "<") ∷ []) less_or_equal_firsts refl (starts_sign Less (codes "<")) starts_less_or_equal (reads_sign Less (codes "<"))
    (reads_choice_next (sign (codes "<=") ∷ []) greater_firsts refl (starts_sign LessOrEqual (codes "<=")) starts_greater (reads_sign LessOrEqual (codes "<="))
    (reads_choice_next (sign (codes ">") ∷ []) (sign (codes ">=") ∷ []) refl (starts_sign Greater (codes ">")) (starts_sign GreaterOrEqual (codes ">="))
    (reads_sign Greater (codes ">")) (reads_sign GreaterOrEqual (codes ">="))))))

-- ---- operand cmp operand

pub reads_compare : Reads IsCompare (Not dot Any) compare_read
unfolding compare_read
reads_compare =
    reads_built compare_of
    (reads_sequence reads_operand (reads_both reads_comparison reads_operand)
    (λ y b rest h follow. (tt, begins_apart (apart_lists comparison_firsts (sign (codes ".") ∷ []) refl) (y ++ rest) ((starts_sequence IsOperand starts_comparison).at y b rest h))))

-- a comparison is read before tokens of some sorts, none of which is a period
pub reads_compare_next : (ss : List Sort) → all_differ ss (sign (codes ".") ∷ []) ≡ true → Reads IsCompare (Next ss) compare_read
reads_compare_next ss e = reads_weaken (Next ss) (λ rest n. (tt, next_not ss (sign (codes ".") ∷ []) e rest n)) reads_compare

pub starts_compare : Starts (any_of operand_firsts) IsCompare
starts_compare = starts_built compare_of (starts_sequence (Sequence IsComparison IsOperand) starts_operand)

-- ---- the tokens that may follow

abbrev pub condition_ends : List Sort
condition_ends = sign (codes ")") ∷ sign (codes ",") ∷ word (codes "JOIN") ∷ word (codes "INNER") ∷ word (codes "WHERE") ∷ word (codes "INTERSECT") ∷ word (codes "UNION") ∷ word (codes "EXCEPT") ∷ []

abbrev pub conjunction_ends : List Sort
conjunction_ends = word (codes "OR") ∷ condition_ends

abbrev pub test_ends : List Sort
test_ends = word (codes "AND") ∷ conjunction_ends

abbrev pub where_ends : List Sort
where_ends = sign (codes ")") ∷ word (codes "INTERSECT") ∷ word (codes "UNION") ∷ word (codes "EXCEPT") ∷ []

-- ---- conditions over tests that are read

abbrev parenthesis : Lexeme → Bool
parenthesis = symbol (codes "(")

module _ {T : Type 0} {Test : Language T} {p : Reader T} (firsts : List Sort) (no_parenthesis : all_differ firsts (sign (codes "(") ∷ []) ≡ true) (no_not : all_differ firsts (word (codes "NOT") ∷ []) ≡ true) (starts : Starts (any_of firsts) Test) (reads : Reads Test (Next test_ends) p) where
  module _ {Inner : Language (Condition T)} {inner : Reader (Condition T)} (r : Reads Inner (Next condition_ends) inner) where
    starts_enclosed : Starts parenthesis (Enclosed Inner)
    starts_enclosed = starts_preceded parenthesis (Built (λ (v : Condition T × Unit {0}). v.0) (Sequence Inner (Fixed (symbol (codes ")")))))

    reads_test : Reads (IsTest Test Inner) (Next test_ends) (test_with p inner)
    reads_test =
        reads_choice starts_enclosed (starts_built test starts) (apart_lists firsts (sign (codes "(") ∷ []) no_parenthesis)
        (reads_next test_ends (reads_enclosed_next condition_ends refl r)) (reads_built test reads)

    reads_factor : Reads (IsFactor Test Inner) (Next test_ends) (factor_with (test_with p inner))
    reads_factor =
        reads_choice (starts_built negated (starts_preceded (keyword (codes "NOT")) (IsTest Test Inner)))
        (starts_choice starts_enclosed (starts_built test starts))
        (or_apart (apart_lists (sign (codes "(") ∷ []) (word (codes "NOT") ∷ []) refl) (apart_lists firsts (word (codes "NOT") ∷ []) no_not))
        (reads_built negated (reads_preceded (keyword (codes "NOT")) reads_test)) reads_test

    reads_conjunction : Reads (IsConjunction Test Inner) (Next conjunction_ends) (conjunction_with (factor_with (test_with p inner)))
    reads_conjunction = reads_built all_of (reads_separated_next (word (codes "AND")) conjunction_ends test_ends refl refl refl reads_factor)

    reads_condition : Reads (IsCondition Test Inner) (Next condition_ends) (condition_with (conjunction_with (factor_with (test_with p inner))))
    reads_condition = reads_built builders.any_of (reads_separated_next (word (codes "OR")) condition_ends conjunction_ends refl refl refl reads_conjunction)

  -- conditions are read at any depth
  reads_inner : (n : ℕ) → Reads (ConditionBelow Test n) (Next condition_ends) (inner_read p n)
  unfolding ConditionBelow inner_read
  reads_inner zero = record { found = λ ts x e. absurd (none_some x e); again = λ front a rest h follow. absurd h }
  reads_inner (suc n) = reads_condition (reads_inner n)

  pub reads_condition_at : (n : ℕ) → Reads (ConditionBelow Test (suc n)) (Next condition_ends) (condition_read p n)
  unfolding ConditionBelow condition_read conjunction_read factor_read test_read
  reads_condition_at n = reads_condition (reads_inner n)

  pub reads_where : (n : ℕ) → Reads (IsWhere Test (suc n)) (Next where_ends) (where_read p n)
  unfolding where_read
  reads_where n =
      reads_optional_next (word (codes "WHERE") ∷ []) where_ends refl (starts_preceded (keyword (codes "WHERE")) (ConditionBelow Test (suc n)))
      (reads_preceded (keyword (codes "WHERE")) (reads_less where_ends condition_ends refl (reads_condition_at n)))

pub starts_where : {T : Type 0} (Test : Language T) (n : ℕ) → Starts (any_of (word (codes "WHERE") ∷ [])) (Preceded (keyword (codes "WHERE")) (ConditionBelow Test n))
starts_where Test n = starts_preceded (keyword (codes "WHERE")) (ConditionBelow Test n)

-- ---- conditions over comparisons

pub reads_compare_condition : (n : ℕ) → Reads (ConditionBelow IsCompare (suc n)) (Next condition_ends) (condition_read compare_read n)
reads_compare_condition = reads_condition_at operand_firsts refl refl starts_compare (reads_compare_next test_ends refl)

pub reads_compare_where : (n : ℕ) → Reads (IsWhere IsCompare (suc n)) (Next where_ends) (where_read compare_read n)
reads_compare_where = reads_where operand_firsts refl refl starts_compare (reads_compare_next test_ends refl)

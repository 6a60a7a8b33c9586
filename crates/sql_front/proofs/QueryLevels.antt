-- A query whose parentheses are not too deep is read at that depth.
use Rattle.std.proofs.Common.{ℕ, zero, suc, List, codes}
use Rattle.sql_statements.specs.declared.tree.SetOperator.TheVariants.{Union, Except, Intersect}
use Rattle.sql_statements.specs.Lexemes.{Lexeme}
use Rattle.sql_front.specs.Language.{Enclosed}
use Rattle.sql_statements.specs.Trees.{Query, simple}
use Rattle.sql_front.specs.Builders.{chain_of, combined_of, item_of, join_of, select_of, table_reference_of, term_of}
use Rattle.sql_front.specs.Grammar.{QueryBelow}
use Rattle.sql_front.specs.Placeholders.{placeholders}
use Rattle.sql_front.proofs.ReadGrammar.{IsChain, IsItem, IsJoin, IsNewName, IsPrimary, IsQuery, IsReference, IsSelect, IsSequenced, IsTerm}
use Rattle.sql_front.proofs.Levels.{Level, level_built, level_choice, level_closed, level_enclosed, level_of_token, level_optional, level_preceded, level_preceded_or_not, level_repetition, level_separated, level_sequence, plain_keyword}
use Rattle.sql_front.proofs.NamesRead.{level_name, plain_comma}
use Rattle.sql_front.proofs.ConditionLevels.{level_column, level_compare, level_condition, level_where}
use Rattle.sql_front.proofs.WindowsRead.{level_for_window}

pub level_new_name : (k : ℕ) → Level k IsNewName IsNewName
level_new_name k = level_preceded_or_not (plain_keyword (codes "AS")) (level_name k)

pub level_reference : (k : ℕ) → Level k IsReference IsReference
level_reference k = level_built table_reference_of (level_sequence (level_name k) (level_sequence (level_optional (level_for_window k)) (level_optional (level_new_name k))))

pub level_item : (k : ℕ) → Level k IsItem IsItem
level_item k = level_built item_of (level_sequence (level_column k) (level_optional (level_new_name k)))

pub level_join : (n k : ℕ) → Level k (IsJoin n) (IsJoin (suc k))
level_join n k =
    level_built join_of (level_preceded_or_not (plain_keyword (codes "INNER")) (level_preceded (plain_keyword (codes "JOIN"))
    (level_sequence (level_reference k) (level_preceded (plain_keyword (codes "ON")) (level_condition level_compare n k)))))

pub level_chain : (n k : ℕ) → Level k (IsChain n) (IsChain (suc k))
level_chain n k = level_built chain_of (level_sequence (level_reference k) (level_repetition (level_join n k)))

pub level_select : (n k : ℕ) → Level k (IsSelect n) (IsSelect (suc k))
level_select n k =
    level_preceded (plain_keyword (codes "SELECT")) (level_preceded (plain_keyword (codes "DISTINCT"))
    (level_built select_of (level_sequence (level_separated plain_comma (level_item k)) (level_preceded (plain_keyword (codes "FROM"))
    (level_sequence (level_separated plain_comma (level_chain n k)) (level_where level_compare n k))))))

level_query_of : (n k : ℕ) (L M : List Lexeme → Query → Type 0) → Level k (Enclosed L) (Enclosed M) → Level k (IsQuery n L) (IsQuery (suc k) M)
level_query_of n k L M r =
    let primary : Level k (IsPrimary n L) (IsPrimary (suc k) M) = level_choice r (level_built simple (level_select n k)) in
    let intersect = level_of_token k Intersect (plain_keyword (codes "INTERSECT")) in
    let term : Level k (IsTerm n L) (IsTerm (suc k) M) =
    level_built term_of (level_sequence primary (level_repetition (level_sequence intersect (level_preceded_or_not (plain_keyword (codes "DISTINCT")) primary)))) in
    let operator = level_choice (level_of_token k Union (plain_keyword (codes "UNION"))) (level_of_token k Except (plain_keyword (codes "EXCEPT"))) in
    level_built combined_of (level_sequence term (level_repetition (level_sequence operator (level_preceded_or_not (plain_keyword (codes "DISTINCT")) term))))

-- a query within the room for parentheses is a query of that depth
pub level_query : (n k : ℕ) → Level k (QueryBelow placeholders n) (QueryBelow placeholders (suc k))
unfolding QueryBelow
level_query zero k = record { keeps = λ x a j h e. absurd h }
level_query (suc n) zero = level_query_of (suc n) zero (QueryBelow placeholders n) (QueryBelow placeholders zero) (level_closed (QueryBelow placeholders n) (Enclosed (QueryBelow placeholders zero)))
level_query (suc n) (suc k) = level_query_of (suc n) (suc k) (QueryBelow placeholders n) (QueryBelow placeholders (suc k)) (level_enclosed (level_query n k))

pub level_sequenced : (n k : ℕ) → Level k (IsSequenced n) (IsSequenced (suc k))
level_sequenced n k = level_preceded (plain_keyword (codes "VALIDTIME")) (level_query n k)

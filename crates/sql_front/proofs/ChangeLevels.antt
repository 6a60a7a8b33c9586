-- AT, INSERT, UPDATE and DELETE at a depth.
use Rattle.std.proofs.Common.{ℕ, suc, codes, refl}
use Rattle.sql_front.specs.Builders.{assignment_of, delete_of, portion_of, rows_of, update_of}
use Rattle.sql_front.proofs.ReadGrammar.{IsAssignment, IsAt, IsDelete, IsInsert, IsPortion, IsUpdate}
use Rattle.sql_front.proofs.Levels.{Level, level_built, level_optional, level_preceded, level_separated, level_sequence, plain_keyword, plain_symbol}
use Rattle.sql_front.proofs.NamesRead.{level_name, level_names, plain_comma}
use Rattle.sql_front.proofs.LeavesRead.{level_clock_moment, level_date, level_literal, level_tuple}
use Rattle.sql_front.proofs.ConditionLevels.{level_compare, level_where}

pub level_at : (k : ℕ) → Level k IsAt IsAt
level_at k = level_preceded (plain_keyword (codes "AT")) (level_clock_moment k)

pub level_insert : (k : ℕ) → Level k IsInsert IsInsert
level_insert k =
    level_preceded (plain_keyword (codes "INSERT")) (level_preceded (plain_keyword (codes "INTO"))
    (level_built rows_of (level_sequence (level_name k) (level_sequence (level_optional (level_names k))
    (level_preceded (plain_keyword (codes "VALUES")) (level_separated plain_comma (level_tuple k)))))))

pub level_portion : (k : ℕ) → Level k IsPortion IsPortion
level_portion k =
    level_preceded (plain_keyword (codes "FOR")) (level_preceded (plain_keyword (codes "PORTION")) (level_preceded (plain_keyword (codes "OF"))
    (level_built portion_of (level_sequence (level_name k) (level_preceded (plain_keyword (codes "FROM"))
    (level_sequence (level_date k) (level_preceded (plain_keyword (codes "TO")) (level_date k))))))))

level_assignment : (k : ℕ) → Level k IsAssignment IsAssignment
level_assignment k =
    level_built assignment_of (level_sequence (level_name k) (level_preceded (plain_symbol (codes "=") refl refl) (level_literal k)))

pub level_update : (n k : ℕ) → Level k (IsUpdate n) (IsUpdate (suc k))
level_update n k =
    level_preceded (plain_keyword (codes "UPDATE"))
    (level_built update_of (level_sequence (level_name k) (level_sequence (level_optional (level_portion k))
    (level_preceded (plain_keyword (codes "SET"))
    (level_sequence (level_separated plain_comma (level_assignment k)) (level_where level_compare n k))))))

pub level_delete : (n k : ℕ) → Level k (IsDelete n) (IsDelete (suc k))
level_delete n k =
    level_preceded (plain_keyword (codes "DELETE")) (level_preceded (plain_keyword (codes "FROM"))
    (level_built delete_of (level_sequence (level_name k) (level_sequence (level_optional (level_portion k)) (level_where level_compare n k)))))

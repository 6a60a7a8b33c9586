-- AT, INSERT, UPDATE and DELETE are read.
use Rattle.std.proofs.Common.{◌≡◌, ℕ, suc, true, List, [], ◌∷◌, codes, refl}
use Rattle.sql_front.specs.Language.{keyword, symbol, Optional, Separated, Sequence}
use Rattle.sql_front.specs.Builders.{assignment_of, delete_of, portion_of, rows_of, update_of}
use Rattle.sql_front.specs.Grammar.{comma, IsWhere}
use Rattle.sql_front.proofs.ReadGrammar.{IsAssignment, IsAt, IsClockMoment, IsCompare, IsDelete, IsInsert, IsNames, IsPortion, IsTuple, IsUpdate}
use Rattle.sql_front.specs.reading.ConditionReaders.{compare_read, where_read}
use Rattle.sql_front.specs.reading.ChangeReaders.{assignment_read, at_read, columns_read, delete_read, in_portion_read, insert_read, portion_read, update_read, named_portion_read, bounds_read, inserted_read, values_read, deleted_read, set_read}
use Rattle.sql_front.proofs.First.{Starts, starts_preceded}
use Rattle.sql_front.proofs.Laws.{Any, Reads, reads_both, reads_built, reads_preceded}
use Rattle.sql_front.proofs.NamesRead.{reads_name, reads_names}
use Rattle.sql_front.proofs.LeavesRead.{reads_clock_moment, reads_date, reads_literal, reads_tuple}
use Rattle.sql_front.proofs.Sorts.{Sort, Next, all_differ, any_of, sign, word, leads_optional, leads_starts, reads_both_next, reads_less, reads_next, reads_optional_next, reads_separated_next}
use Rattle.sql_front.proofs.ConditionsRead.{reads_compare_where, starts_where, where_ends}

-- ---- AT

pub reads_at : Reads IsAt Any at_read
unfolding at_read
reads_at = reads_preceded (keyword (codes "AT")) reads_clock_moment

pub starts_at : Starts (any_of (word (codes "AT") ∷ [])) IsAt
starts_at = starts_preceded (keyword (codes "AT")) IsClockMoment

-- ---- INSERT

starts_names : Starts (any_of (sign (codes "(") ∷ [])) IsNames
starts_names = starts_preceded (symbol (codes "(")) _

reads_columns : (ss : List Sort) → all_differ ss (sign (codes "(") ∷ []) ≡ true → Reads (Optional IsNames) (Next ss) columns_read
unfolding columns_read
reads_columns ss e = reads_optional_next (sign (codes "(") ∷ []) ss e starts_names (reads_next ss reads_names)

pub reads_insert : Reads IsInsert (Next []) insert_read
unfolding insert_read inserted_read values_read
reads_insert =
    let values = starts_preceded (keyword (codes "VALUES")) (Separated comma IsTuple) in
    reads_preceded (keyword (codes "INSERT")) (reads_preceded (keyword (codes "INTO"))
    (reads_built rows_of (reads_both reads_name
    (reads_both_next (reads_columns (word (codes "VALUES") ∷ []) refl)
    (reads_preceded (keyword (codes "VALUES"))
    (reads_separated_next (sign (codes ",")) [] (sign (codes ",") ∷ []) refl refl refl (reads_next (sign (codes ",") ∷ []) reads_tuple)))
    (leads_starts (word (codes "VALUES") ∷ []) (word (codes "VALUES") ∷ []) [] refl values)))))

pub starts_insert : Starts (any_of (word (codes "INSERT") ∷ [])) IsInsert
starts_insert = starts_preceded (keyword (codes "INSERT")) _

-- ---- portions

pub starts_portion : Starts (any_of (word (codes "FOR") ∷ [])) IsPortion
starts_portion = starts_preceded (keyword (codes "FOR")) _

reads_in_portion : Reads IsPortion Any in_portion_read
unfolding in_portion_read named_portion_read bounds_read
reads_in_portion =
    reads_preceded (keyword (codes "FOR")) (reads_preceded (keyword (codes "PORTION")) (reads_preceded (keyword (codes "OF"))
    (reads_built portion_of (reads_both reads_name (reads_preceded (keyword (codes "FROM"))
    (reads_both reads_date (reads_preceded (keyword (codes "TO")) reads_date)))))))

pub reads_portion : (ss : List Sort) → all_differ ss (word (codes "FOR") ∷ []) ≡ true → Reads (Optional IsPortion) (Next ss) portion_read
unfolding portion_read
reads_portion ss e = reads_optional_next (word (codes "FOR") ∷ []) ss e starts_portion (reads_next ss reads_in_portion)

-- ---- UPDATE

reads_assignment : Reads IsAssignment Any assignment_read
unfolding assignment_read
reads_assignment = reads_built assignment_of (reads_both reads_name (reads_preceded (symbol (codes "=")) reads_literal))

-- WHERE is read at the end of a statement
reads_last_where : (n : ℕ) → Reads (IsWhere IsCompare (suc n)) (Next []) (where_read compare_read n)
reads_last_where n = reads_less [] where_ends refl (reads_compare_where n)

pub reads_update : (n : ℕ) → Reads (IsUpdate (suc n)) (Next []) (update_read n)
unfolding update_read set_read
reads_update n =
    let set = starts_preceded (keyword (codes "SET")) (Sequence (Separated comma IsAssignment) (IsWhere IsCompare (suc n))) in
    let assigned = sign (codes ",") ∷ word (codes "WHERE") ∷ [] in
    reads_preceded (keyword (codes "UPDATE"))
    (reads_built update_of (reads_both reads_name
    (reads_both_next (reads_portion (word (codes "SET") ∷ []) refl)
    (reads_preceded (keyword (codes "SET"))
    (reads_both_next
    (reads_separated_next (sign (codes ",")) (word (codes "WHERE") ∷ []) assigned refl refl refl (reads_next assigned reads_assignment))
    (reads_last_where n)
    (leads_optional (word (codes "WHERE") ∷ []) (word (codes "WHERE") ∷ []) [] refl refl (starts_where IsCompare (suc n)))))
    (leads_starts (word (codes "SET") ∷ []) (word (codes "SET") ∷ []) [] refl set))))

pub starts_update : (n : ℕ) → Starts (any_of (word (codes "UPDATE") ∷ [])) (IsUpdate n)
starts_update n = starts_preceded (keyword (codes "UPDATE")) _

-- ---- DELETE

pub reads_delete : (n : ℕ) → Reads (IsDelete (suc n)) (Next []) (delete_read n)
unfolding delete_read deleted_read
reads_delete n =
    reads_preceded (keyword (codes "DELETE")) (reads_preceded (keyword (codes "FROM"))
    (reads_built delete_of (reads_both reads_name
    (reads_both_next (reads_portion (word (codes "WHERE") ∷ []) refl) (reads_last_where n)
    (leads_optional (word (codes "WHERE") ∷ []) (word (codes "WHERE") ∷ []) [] refl refl (starts_where IsCompare (suc n)))))))

pub starts_delete : (n : ℕ) → Starts (any_of (word (codes "DELETE") ∷ [])) (IsDelete n)
starts_delete n = starts_preceded (keyword (codes "DELETE")) _

-- Statements are read, and no tokens spell two.
use Rattle.std.proofs.Common.{◌≡◌, ℕ, suc, ◌≤◌, Bool, List, [], ◌∷◌, length, Option, Some, None, codes, refl, sym, ap, ◌∙◌, arith, inl, inr, length-append}
use Rattle.std.proofs.lemmas.Bool.{cases_Bool}
use Rattle.sql_statements.specs.Lexemes.{Lexeme}
use Rattle.sql_front.specs.Language.{keyword, symbol}
use Rattle.sql_front.specs.Depth.{opens, passing_count, room, IsDeeper}
use Rattle.sql_statements.specs.Trees.{Statement, at, create, delete, insert, sequenced, stored, update}
use Rattle.sql_front.specs.Builders.{stored_of}
use Rattle.sql_front.proofs.ReadGrammar.{IsStatement, IsStored, IsStoredTest, StatementBelow}
use Rattle.sql_front.specs.reading.Reading.{whole_read}
use Rattle.sql_front.specs.reading.StatementReaders.{statement_read, stored_read, stored_table_read, later_statement_read, query_statement_read}
use Rattle.sql_front.proofs.First.{Starts, starts_built, starts_choice, starts_preceded}
use Rattle.period_core.proofs.OptionFacts.{none_some}
use Rattle.sql_front.proofs.Laws.{Reads, reads_both, reads_built, reads_preceded}
use Rattle.sql_front.proofs.Levels.{Level, level_built, level_choice, level_optional, level_preceded, level_sequence, plain_keyword, plain_symbol}
use Rattle.sql_front.proofs.DepthFacts.{none_deeper}
use Rattle.sql_front.proofs.NamesRead.{level_name, reads_name}
use Rattle.sql_front.proofs.ChangesRead.{reads_at, reads_delete, reads_insert, reads_update, starts_at, starts_delete, starts_insert, starts_update}
use Rattle.sql_front.proofs.ChangeLevels.{level_at, level_delete, level_insert, level_update}
use Rattle.sql_front.proofs.ConditionsRead.{starts_where, where_ends}
use Rattle.sql_front.proofs.ConditionLevels.{level_stored_test, level_where}
use Rattle.sql_front.proofs.PredicatesRead.{reads_stored_where}
use Rattle.sql_front.proofs.WindowsRead.{level_for_window, reads_for_window}
use Rattle.sql_front.proofs.QueriesRead.{query_ends, reads_sequenced, starts_sequenced}
use Rattle.sql_front.proofs.QueryLevels.{level_sequenced}
use Rattle.sql_front.proofs.ElementLevels.{level_create}
use Rattle.sql_front.proofs.ElementsRead.{reads_create, starts_create}
use Rattle.sql_front.proofs.Sorts.{Next, any_of, word, leads_optional, next_end, reads_both_next, reads_choice_next, reads_less, reads_next}
use Rattle.sql_front.proofs.Whole.{whole_again, whole_found, whole_unique}

-- ---- stored queries

pub reads_stored : (n : ℕ) → Reads (IsStored (suc n)) (Next []) (stored_read n)
unfolding stored_read stored_table_read
reads_stored n =
    reads_preceded (keyword (codes "SELECT")) (reads_preceded (symbol (codes "*")) (reads_preceded (keyword (codes "FROM"))
    (reads_built stored_of (reads_both reads_name
    (reads_both_next (reads_for_window (word (codes "WHERE") ∷ []) refl) (reads_less [] where_ends refl (reads_stored_where n))
    (leads_optional (word (codes "WHERE") ∷ []) (word (codes "WHERE") ∷ []) [] refl refl (starts_where IsStoredTest (suc n))))))))

starts_stored : (n : ℕ) → Starts (any_of (word (codes "SELECT") ∷ [])) (IsStored n)
starts_stored n = starts_preceded (keyword (codes "SELECT")) _

pub level_stored : (n k : ℕ) → Level k (IsStored n) (IsStored (suc k))
level_stored n k =
    level_preceded (plain_keyword (codes "SELECT")) (level_preceded (plain_symbol (codes "*") refl refl)
    (level_preceded (plain_keyword (codes "FROM"))
    (level_built stored_of (level_sequence (level_name k) (level_sequence (level_optional (level_for_window k)) (level_where level_stored_test n k))))))

-- ---- statements

pub reads_statement : (n : ℕ) → Reads (StatementBelow (suc n)) (Next []) (statement_read n)
unfolding statement_read later_statement_read query_statement_read
reads_statement n =
    let stored_starts = starts_built stored (starts_stored (suc n)) in
    let query_starts = starts_built sequenced (starts_sequenced (suc n)) in
    let delete_starts = starts_built delete (starts_delete (suc n)) in
    let update_starts = starts_built update (starts_update (suc n)) in
    let insert_starts = starts_built insert starts_insert in
    let create_starts = starts_built create starts_create in
    let from_query = starts_choice query_starts stored_starts in
    let from_delete = starts_choice delete_starts from_query in
    let from_update = starts_choice update_starts from_delete in
    let from_insert = starts_choice insert_starts from_update in
    let from_create = starts_choice create_starts from_insert in
    reads_choice_next (word (codes "AT") ∷ [])
    (word (codes "CREATE") ∷ word (codes "INSERT") ∷ word (codes "UPDATE") ∷ word (codes "DELETE") ∷ word (codes "VALIDTIME") ∷ word (codes "SELECT") ∷ []) refl
    (starts_built at starts_at) from_create (reads_built at (reads_next [] reads_at))
    (reads_choice_next (word (codes "CREATE") ∷ [])
    (word (codes "INSERT") ∷ word (codes "UPDATE") ∷ word (codes "DELETE") ∷ word (codes "VALIDTIME") ∷ word (codes "SELECT") ∷ []) refl
    create_starts from_insert (reads_built create (reads_next [] reads_create))
    (reads_choice_next (word (codes "INSERT") ∷ [])
    (word (codes "UPDATE") ∷ word (codes "DELETE") ∷ word (codes "VALIDTIME") ∷ word (codes "SELECT") ∷ []) refl
    insert_starts from_update (reads_built insert reads_insert)
    (reads_choice_next (word (codes "UPDATE") ∷ [])
    (word (codes "DELETE") ∷ word (codes "VALIDTIME") ∷ word (codes "SELECT") ∷ []) refl
    update_starts from_delete (reads_built update (reads_update n))
    (reads_choice_next (word (codes "DELETE") ∷ [])
    (word (codes "VALIDTIME") ∷ word (codes "SELECT") ∷ []) refl
    delete_starts from_query (reads_built delete (reads_delete n))
    (reads_choice_next (word (codes "VALIDTIME") ∷ [])
    (word (codes "SELECT") ∷ []) refl
    query_starts stored_starts (reads_built sequenced (reads_less [] query_ends refl (reads_sequenced n)))
    (reads_built stored (reads_stored n)))))))

-- ---- at a depth

level_statement : (n k : ℕ) → Level k (StatementBelow n) (StatementBelow (suc k))
level_statement n k =
    level_choice (level_built at (level_at k)) (level_choice (level_built create (level_create k))
    (level_choice (level_built insert (level_insert k)) (level_choice (level_built update (level_update n k))
    (level_choice (level_built delete (level_delete n k)) (level_choice (level_built sequenced (level_sequenced n k))
    (level_built stored (level_stored n k)))))))

by_room : (k : ℕ) (ts : List Lexeme) (s : Statement) → (IsDeeper k ts → ⊥) → IsStatement ts s → (o : Option ℕ) → room k ts ≡ o → StatementBelow (suc k) ts s
by_room k ts s shallow h None e = absurd (shallow (none_deeper k ts e))
by_room k ts s shallow h (Some j) e = ((level_statement h.0 k).keeps ts s j h.1 e).1

-- a statement whose tokens are not deeper than k is read at depth k
pub at_depth : (k : ℕ) (ts : List Lexeme) (s : Statement) → (IsDeeper k ts → ⊥) → IsStatement ts s → StatementBelow (suc k) ts s
at_depth k ts s shallow h = by_room k ts s shallow h (room k ts) refl

-- ---- no tokens spell two

counted_within : (test : Lexeme → Bool) (ts : List Lexeme) → passing_count test ts ≤ length ts
counted_within test [] = omega arith
counted_within test (t ∷ ts) =
    elim (cases_Bool (test t)) [
      | inl e ↦ rw e (omega (arith, counted_within test ts))
      | inr e ↦ rw e (omega (arith, counted_within test ts))
    ]

-- a list of tokens is never deeper than its length
within_length : (ts : List Lexeme) → IsDeeper (length ts) ts → ⊥
within_length ts d = absurd (omega (arith, d.3, counted_within opens d.0, ap length d.2, length-append d.0 d.1))

pub read_one : (ts : List Lexeme) (a b : Statement) → IsStatement ts a → IsStatement ts b → a ≡ b
read_one ts a b h k =
    whole_unique (reads_statement (length ts)) (next_end []) ts a b
    (at_depth (length ts) ts a (within_length ts) h) (at_depth (length ts) ts b (within_length ts) k)

-- ---- by reading

-- a statement that is read of all of the tokens is spelled by them
pub read_spelled : (n : ℕ) (ts : List Lexeme) (s : Statement) → whole_read (statement_read n) ts ≡ Some s → IsStatement ts s
read_spelled n ts s e = (suc n, whole_found (reads_statement n) ts s e)

-- if nothing is read at a depth that the tokens cannot reach, they spell none
pub read_none : (ts : List Lexeme) → whole_read (statement_read (length ts)) ts ≡ None → (s : Statement) → IsStatement ts s → ⊥
read_none ts e s h =
    none_some s (sym e ∙ whole_again (reads_statement (length ts)) (next_end []) ts s (at_depth (length ts) ts s (within_length ts) h))

-- The tests of stored queries are read.
use Rattle.std.proofs.Common.{◌≡◌, ℕ, suc, Bool, true, false, List, [], ◌∷◌, ◌++◌, Option, Some, None, refl, ap, ◌∙◌, append_assoc, codes, inl, inr}
use Rattle.std.proofs.lemmas.Bool.{and_right}
use Rattle.sql_statements.specs.declared.statement.ColumnReference.{ColumnReference}
use Rattle.sql_statements.specs.declared.statement.Operand.{Operand}
use Rattle.sql_statements.specs.declared.statement.PeriodOperand.{PeriodOperand}
use Rattle.sql_statements.specs.declared.statement.PeriodPredicate.{PeriodPredicate}
use Rattle.sql_statements.specs.declared.statement.PeriodPredicate.TheVariants.{Overlaps, Equals}
use Rattle.sql_statements.specs.declared.statement.StoredTest.{StoredTest}
use Rattle.sql_statements.specs.declared.statement.StoredTest.TheVariants.{Values}
use Rattle.sql_statements.specs.Lexemes.{Lexeme}
use Rattle.sql_front.specs.Language.{Language, keyword, Built, Choice, Optional, Preceded, Sequence}
use Rattle.sql_front.specs.Grammar.{name, IsWhere}
use Rattle.sql_front.proofs.ReadGrammar.{IsColumn, IsCompare, IsDate, IsName, IsOperand, IsPeriodOperand, IsPredicate, IsRelation, IsStoredTest}
use Rattle.sql_front.specs.reading.Reading.{begins}
use Rattle.sql_front.specs.reading.ConditionReaders.{where_read}
use Rattle.sql_front.specs.reading.PredicateReaders.{PredicateTail, begins_contains_date, contains_day, predicate_ahead, predicate_read, related, relation_after_column, relation_word, predicate_of, tail_read, stored_test_read}
use Rattle.sql_front.proofs.First.{Starts, begins_apart, starts_built, starts_preceded, starts_sequence}
use Rattle.sql_front.proofs.Laws.{Reads, reads_both, reads_built, reads_decided, reads_preceded, reads_weaken}
use Rattle.sql_front.proofs.LeavesRead.{reads_date, starts_date, starts_literal}
use Rattle.sql_front.proofs.Sorts.{Next, Sort, a_name, all_differ, any_of, apart_lists, included, leads_starts, next_begins, reads_both_next, reads_next, sign, word}
use Rattle.sql_front.proofs.ConditionsRead.{comparison_firsts, dot, literal_firsts, operand_firsts, reads_compare_next, reads_where, starts_column, starts_compare, starts_comparison, test_ends, where_ends}
use Rattle.sql_front.proofs.PeriodsRead.{next_to_firsts, period_firsts, reads_period_operand, reads_relation, relation_firsts, starts_dates, starts_next_to, starts_period_operand, starts_relation, starts_word}

-- ---- the predicates of a period

abbrev IsContainsDay : Language PredicateTail
IsContainsDay = Built contains_day (Preceded (keyword (codes "CONTAINS")) IsDate)

abbrev IsRelated : Language PredicateTail
IsRelated = Built related (Sequence IsRelation IsPeriodOperand)

abbrev IsPredicateTail : Language PredicateTail
IsPredicateTail = Choice IsContainsDay IsRelated

contains_date_first : (t : Lexeme) (z : List Lexeme) → keyword (codes "CONTAINS") t ≡ true → begins (keyword (codes "DATE")) z ≡ true → begins_contains_date (t ∷ z) ≡ true
unfolding begins_contains_date
contains_date_first t z e f = rw (e, f) refl

contains_other : (t : Lexeme) (z : List Lexeme) → begins (keyword (codes "DATE")) z ≡ false → begins_contains_date (t ∷ z) ≡ false
unfolding begins_contains_date
contains_other t z f = and_right (keyword (codes "CONTAINS") t) (begins (keyword (codes "DATE")) z) f

no_contains : (z : List Lexeme) → begins (keyword (codes "CONTAINS")) z ≡ false → begins_contains_date z ≡ false
unfolding begins_contains_date
no_contains [] e = refl
no_contains (t ∷ z) e = rw e refl

day_decides : (x : List Lexeme) (s : PredicateTail) (rest : List Lexeme) → IsContainsDay x s → begins_contains_date (x ++ rest) ≡ true
day_decides x s rest h =
    let p = h.2.2 in
    let split : x ++ rest ≡ p.3.0 ∷ (p.1 ++ rest) = ap (λ (z : List Lexeme). z ++ rest) p.2 ∙ append_assoc p.0 p.1 rest ∙ ap (λ (z : List Lexeme). z ++ (p.1 ++ rest)) p.3.2 in
    ap begins_contains_date split ∙ contains_date_first p.3.0 (p.1 ++ rest) p.3.1 (starts_date.at p.1 h.2.0.1 rest p.4)

-- a relation that begins with no CONTAINS
begins_other : (firsts : List Sort) → all_differ firsts (word (codes "CONTAINS") ∷ []) ≡ true → (z : List Lexeme) → begins (any_of firsts) z ≡ true → begins_contains_date z ≡ false
begins_other firsts e z h = no_contains z (begins_apart (apart_lists firsts (word (codes "CONTAINS") ∷ []) e) z h)

related_by : (x : List Lexeme) (r : PeriodPredicate) (z : List Lexeme) → IsRelation x r → begins (keyword (codes "DATE")) z ≡ false → begins_contains_date (x ++ z) ≡ false
related_by x r z (inl h) f = begins_other (word (codes "OVERLAPS") ∷ []) refl (x ++ z) ((starts_word Overlaps (codes "OVERLAPS")).at x r z h)
related_by x r z (inr (inl h)) f = begins_other (word (codes "EQUALS") ∷ []) refl (x ++ z) ((starts_word Equals (codes "EQUALS")).at x r z h)
related_by x r z (inr (inr (inl h))) f =
    let t = h.2 in
    ap (λ (y : List Lexeme). begins_contains_date (y ++ z)) t.2 ∙ contains_other t.0 z f
related_by x r z (inr (inr (inr h))) f = begins_other next_to_firsts refl (x ++ z) (starts_next_to.at x r z h)

related_decides : (x : List Lexeme) (s : PredicateTail) (rest : List Lexeme) → IsRelated x s → begins_contains_date (x ++ rest) ≡ false
related_decides x s rest h =
    let p = h.2 in
    let split : x ++ rest ≡ p.0 ++ (p.1 ++ rest) = ap (λ (z : List Lexeme). z ++ rest) p.2 ∙ append_assoc p.0 p.1 rest in
    let no_date = begins_apart (apart_lists period_firsts (word (codes "DATE") ∷ []) refl) (p.1 ++ rest) (starts_period_operand.at p.1 h.0.1 rest p.4) in
    ap begins_contains_date split ∙ related_by p.0 h.0.0 (p.1 ++ rest) p.3 no_date

reads_said : Reads IsPredicateTail (Next test_ends) tail_read
reads_said =
    reads_weaken (Next test_ends) (λ rest n. (n, n))
    (reads_decided begins_contains_date (reads_next test_ends (reads_built contains_day (reads_preceded (keyword (codes "CONTAINS")) reads_date)))
    (reads_built related (reads_both reads_relation (reads_period_operand test_ends refl)))
    (λ x s rest h n. day_decides x s rest h) (λ x s rest h n. related_decides x s rest h))

-- tokens of some sorts are of more sorts too
begins_included : (v w : List Sort) → included v w ≡ true → (z : List Lexeme) → begins (any_of v) z ≡ true → begins (any_of w) z ≡ true
begins_included v w e [] h = absurd cc
begins_included v w e (t ∷ z) h = elim (next_begins v w e (t ∷ z) h).at [ inl n ↦ absurd cc | inr b ↦ b ]

starts_said : Starts (any_of relation_firsts) IsPredicateTail
starts_said = record {
  at = λ x s z h. elim h [
    | inl k ↦ begins_included (word (codes "CONTAINS") ∷ []) relation_firsts refl (x ++ z) ((starts_built contains_day (starts_preceded (keyword (codes "CONTAINS")) IsDate)).at x s z k)
    | inr k ↦ (starts_built related (starts_sequence IsPeriodOperand starts_relation)).at x s z k
  ];
}

-- ---- predicates: the first period is before the choice

abbrev IsSaidOf : Language StoredTest
IsSaidOf = Built predicate_of (Sequence IsPeriodOperand IsPredicateTail)

split_off : (x : List Lexeme) (t : StoredTest) → IsPredicate x t → IsSaidOf x t
split_off x t (inl h) = ((h.0.0, related h.0.1), h.1, (h.2.0, h.2.1, h.2.2, h.2.3, inr (h.0.1, refl, h.2.4)))
split_off x t (inr h) = ((h.0.0, contains_day h.0.1), h.1, (h.2.0, h.2.1, h.2.2, h.2.3, inl (h.0.1, refl, h.2.4)))

put_back : (x : List Lexeme) (t : StoredTest) → IsSaidOf x t → IsPredicate x t
put_back x t h = elim h.2.4 [
  | inl k ↦ inr ((h.0.0, k.0), h.1 ∙ ap (λ (s : PredicateTail). predicate_of (h.0.0, s)) k.1, (h.2.0, h.2.1, h.2.2, h.2.3, k.2))
  | inr k ↦ inl ((h.0.0, k.0), h.1 ∙ ap (λ (s : PredicateTail). predicate_of (h.0.0, s)) k.1, (h.2.0, h.2.1, h.2.2, h.2.3, k.2))
]

reads_said_of : Reads IsSaidOf (Next test_ends) predicate_read
unfolding predicate_read
reads_said_of = reads_built predicate_of (reads_both_next (reads_period_operand relation_firsts refl) reads_said (leads_starts relation_firsts relation_firsts test_ends refl starts_said))

reads_predicate : Reads IsPredicate (Next test_ends) predicate_read
reads_predicate = record {
  found = λ ts x e. let k = reads_said_of.found ts x e in (k.0, k.1, put_back k.0 x.0 k.2);
  again = λ front t rest h n. reads_said_of.again front t rest (split_off front t h) n;
}

-- ---- a predicate or a comparison, by what is after a column

relation_after_bare : (t : Lexeme) (z : List Lexeme) → begins dot z ≡ false → relation_after_column (t ∷ z) ≡ begins relation_word z
unfolding relation_after_column
relation_after_bare t z e = rw e refl

relation_after_qualified : (t d u : Lexeme) (z : List Lexeme) → dot d ≡ true → relation_after_column (t ∷ d ∷ u ∷ z) ≡ begins relation_word z
unfolding relation_after_column
relation_after_qualified t d u z e = rw e refl

relation_after_name : (y : List Lexeme) (v : List ℕ) (o : Option (List ℕ)) (x z : List Lexeme) → IsName y v → Optional (Preceded dot IsName) x o → begins dot z ≡ false → relation_after_column (y ++ (x ++ z)) ≡ begins relation_word z
relation_after_name y v None x z h k e =
    let t = h.2 in
    ap relation_after_column (ap (λ (w : List Lexeme). w ++ (x ++ z)) t.2 ∙ ap (λ (w : List Lexeme). t.0 ∷ (w ++ z)) k) ∙ relation_after_bare t.0 z e
relation_after_name y v (Some q) x z h k e =
    let t = h.2 in
    let s = k.2 in
    let d = s.3 in
    let u = s.4.2 in
    let second : x ≡ d.0 ∷ u.0 ∷ [] = s.2 ∙ ap (λ (w : List Lexeme). w ++ s.1) d.2 ∙ ap (λ (w : List Lexeme). d.0 ∷ w) u.2 in
    ap relation_after_column (ap (λ (w : List Lexeme). w ++ (x ++ z)) t.2 ∙ ap (λ (w : List Lexeme). t.0 ∷ (w ++ z)) second) ∙ relation_after_qualified t.0 d.0 u.0 z d.1

relation_after_whole_column : (x : List Lexeme) (c : ColumnReference) (z : List Lexeme) → IsColumn x c → begins dot z ≡ false → relation_after_column (x ++ z) ≡ begins relation_word z
relation_after_whole_column x c z h e =
    let p = h.2 in
    ap relation_after_column (ap (λ (w : List Lexeme). w ++ z) p.2 ∙ append_assoc p.0 p.1 z) ∙ relation_after_name p.0 h.0.0 h.0.1 p.1 z p.3 p.4 e

ahead_period : (z : List Lexeme) → begins (keyword (codes "PERIOD")) z ≡ true → predicate_ahead z ≡ true
unfolding predicate_ahead
ahead_period z e = rw e refl

ahead_column : (z : List Lexeme) (b : Bool) → begins name z ≡ true → begins (keyword (codes "PERIOD")) z ≡ false → relation_after_column z ≡ b → predicate_ahead z ≡ b
unfolding predicate_ahead
ahead_column z b e f h = rw (e, f, h) refl

not_ahead : (z : List Lexeme) → begins name z ≡ false → begins (keyword (codes "PERIOD")) z ≡ false → predicate_ahead z ≡ false
unfolding predicate_ahead
not_ahead z e f = rw (e, f) refl

named_ahead : (x : List Lexeme) (c : ColumnReference) (z : List Lexeme) (b : Bool) → IsColumn x c → begins dot z ≡ false → begins relation_word z ≡ b → predicate_ahead (x ++ z) ≡ b
named_ahead x c z b h e f =
    let first = starts_column.at x c z h in
    ahead_column (x ++ z) b first (begins_apart (apart_lists (a_name ∷ []) (word (codes "PERIOD") ∷ []) refl) (x ++ z) first) (relation_after_whole_column x c z h e ∙ f)

begins_relation : (z : List Lexeme) → begins (any_of relation_firsts) z ≡ true → begins relation_word z ≡ true
unfolding relation_word
begins_relation z e = e

no_relation : (firsts : List Sort) → all_differ firsts relation_firsts ≡ true → (z : List Lexeme) → begins (any_of firsts) z ≡ true → begins relation_word z ≡ false
unfolding relation_word
no_relation firsts e z h = begins_apart (apart_lists firsts relation_firsts e) z h

period_ahead : (x : List Lexeme) (o : PeriodOperand) (z : List Lexeme) → IsPeriodOperand x o → begins (any_of relation_firsts) z ≡ true → predicate_ahead (x ++ z) ≡ true
period_ahead x o z (inl h) e = ahead_period (x ++ z) (starts_dates.at x o z h)
period_ahead x o z (inr h) e = named_ahead x h.0 z true h.2 (begins_apart (apart_lists relation_firsts (sign (codes ".") ∷ []) refl) z e) (begins_relation z e)

predicate_decides : (x : List Lexeme) (t : StoredTest) (rest : List Lexeme) → IsPredicate x t → predicate_ahead (x ++ rest) ≡ true
predicate_decides x t rest h =
    let k = split_off x t h in
    let p = k.2 in
    ap predicate_ahead (ap (λ (z : List Lexeme). z ++ rest) p.2 ∙ append_assoc p.0 p.1 rest) ∙ period_ahead p.0 k.0.0 (p.1 ++ rest) p.3 (starts_said.at p.1 k.0.1 rest p.4)

operand_ahead : (x : List Lexeme) (o : Operand) (z : List Lexeme) → IsOperand x o → begins (any_of comparison_firsts) z ≡ true → predicate_ahead (x ++ z) ≡ false
operand_ahead x o z (inl h) e = named_ahead x h.0 z false h.2 (begins_apart (apart_lists comparison_firsts (sign (codes ".") ∷ []) refl) z e) (no_relation comparison_firsts refl z e)
operand_ahead x o z (inr h) e =
    let first : begins (any_of literal_firsts) (x ++ z) ≡ true = starts_literal.at x h.0 z h.2 in
    not_ahead (x ++ z) (begins_apart (apart_lists literal_firsts (a_name ∷ []) refl) (x ++ z) first) (begins_apart (apart_lists literal_firsts (word (codes "PERIOD") ∷ []) refl) (x ++ z) first)

comparison_decides : (x : List Lexeme) (t : StoredTest) (rest : List Lexeme) → Built Values IsCompare x t → predicate_ahead (x ++ rest) ≡ false
comparison_decides x t rest h =
    let k = h.2 in
    let p = k.2 in
    ap predicate_ahead (ap (λ (z : List Lexeme). z ++ rest) p.2 ∙ append_assoc p.0 p.1 rest)
    ∙ operand_ahead p.0 k.0.0 (p.1 ++ rest) p.3 ((starts_sequence IsOperand starts_comparison).at p.1 k.0.1 rest p.4)

pub reads_stored_test : Reads IsStoredTest (Next test_ends) stored_test_read
unfolding stored_test_read
reads_stored_test =
    reads_weaken (Next test_ends) (λ rest n. (n, n))
    (reads_decided predicate_ahead reads_predicate (reads_built Values (reads_compare_next test_ends refl)) (λ x t rest h n. predicate_decides x t rest h) (λ x t rest h n. comparison_decides x t rest h))

abbrev pub stored_test_firsts : List Sort
stored_test_firsts = word (codes "PERIOD") ∷ operand_firsts

pub starts_stored_test : Starts (any_of stored_test_firsts) IsStoredTest
starts_stored_test = record {
  at = λ x t z h. elim h [
    | inl k ↦ let s = split_off x t k in begins_included period_firsts stored_test_firsts refl (x ++ z) ((starts_built predicate_of (starts_sequence IsPredicateTail starts_period_operand)).at x t z s)
    | inr k ↦ begins_included operand_firsts stored_test_firsts refl (x ++ z) ((starts_built Values starts_compare).at x t z k)
  ];
}

-- ---- conditions over these tests

pub reads_stored_where : (n : ℕ) → Reads (IsWhere IsStoredTest (suc n)) (Next where_ends) (where_read stored_test_read n)
reads_stored_where = reads_where stored_test_firsts refl refl starts_stored_test reads_stored_test

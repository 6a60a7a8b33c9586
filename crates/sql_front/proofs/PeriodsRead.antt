-- Periods, and the words that relate two, are read.
use Rattle.std.proofs.Common.{◌≡◌, ℕ, true, List, [], ◌∷◌, refl, codes}
use Rattle.sql_statements.specs.declared.statement.PeriodOperand.{PeriodOperand}
use Rattle.sql_statements.specs.declared.statement.PeriodOperand.TheVariants.{Named}
use Rattle.sql_statements.specs.declared.statement.PeriodPredicate.{PeriodPredicate}
use Rattle.sql_statements.specs.declared.statement.PeriodPredicate.TheVariants.{Overlaps, Equals, Contains, Precedes, Succeeds, ImmediatelyPrecedes, ImmediatelySucceeds}
use Rattle.sql_front.specs.Language.{Language, keyword, Built, Choice, Enclosed, Preceded, Sequence, Denotes}
use Rattle.sql_front.specs.Builders.{dates_of}
use Rattle.sql_front.specs.Grammar.{comma}
use Rattle.sql_front.proofs.ReadGrammar.{IsColumn, IsDate, IsPeriodOperand, IsRelation}
use Rattle.sql_front.specs.reading.Reading.{begins, choice_read, denotes_read}
use Rattle.sql_front.specs.reading.PredicateReaders.{period_operand_read, relation_read, dates_read}
use Rattle.sql_front.proofs.First.{Starts, starts_built, starts_choice, starts_preceded, starts_denotes}
use Rattle.sql_front.proofs.Laws.{Any, Reads, reads_both, reads_built, reads_preceded, reads_denotes}
use Rattle.sql_front.proofs.LeavesRead.{reads_date}
use Rattle.sql_front.proofs.Sorts.{Next, Sort, a_name, all_differ, any_of, reads_choice_next, reads_enclosed_next, reads_next, sign, word}
use Rattle.sql_front.proofs.ConditionsRead.{reads_column_next, starts_column}

-- ---- periods

abbrev pub period_firsts : List Sort
period_firsts = word (codes "PERIOD") ∷ a_name ∷ []

abbrev IsDates : Language PeriodOperand
IsDates = Built dates_of (Preceded (keyword (codes "PERIOD")) (Enclosed (Sequence IsDate (Preceded comma IsDate))))

pub starts_dates : Starts (any_of (word (codes "PERIOD") ∷ [])) IsDates
starts_dates = starts_built dates_of (starts_preceded (keyword (codes "PERIOD")) (Enclosed (Sequence IsDate (Preceded comma IsDate))))

starts_named : Starts (any_of (a_name ∷ [])) (Built Named IsColumn)
starts_named = starts_built Named starts_column

pub starts_period_operand : Starts (any_of period_firsts) IsPeriodOperand
starts_period_operand = starts_choice starts_dates starts_named

pub reads_period_operand : (ss : List Sort) → all_differ ss (sign (codes ".") ∷ []) ≡ true → Reads IsPeriodOperand (Next ss) period_operand_read
unfolding period_operand_read dates_read
reads_period_operand ss e =
    reads_choice_next (word (codes "PERIOD") ∷ []) (a_name ∷ []) refl starts_dates starts_named
    (reads_next ss (reads_built dates_of (reads_preceded (keyword (codes "PERIOD")) (reads_enclosed_next (sign (codes ")") ∷ []) refl (reads_next (sign (codes ")") ∷ []) (reads_both reads_date (reads_preceded comma reads_date)))))))
    (reads_built Named (reads_column_next ss e))

-- ---- relations

abbrev order_firsts : List Sort
order_firsts = word (codes "PRECEDES") ∷ word (codes "SUCCEEDS") ∷ []

abbrev pub next_to_firsts : List Sort
next_to_firsts = word (codes "IMMEDIATELY") ∷ order_firsts

abbrev contains_firsts : List Sort
contains_firsts = word (codes "CONTAINS") ∷ next_to_firsts

abbrev equals_firsts : List Sort
equals_firsts = word (codes "EQUALS") ∷ contains_firsts

abbrev pub relation_firsts : List Sort
relation_firsts = word (codes "OVERLAPS") ∷ equals_firsts

abbrev Stands : PeriodPredicate → List ℕ → Language PeriodPredicate
Stands r w = Denotes r (keyword w)

pub starts_word : (r : PeriodPredicate) (w : List ℕ) → Starts (any_of (word w ∷ [])) (Stands r w)
starts_word r w = starts_denotes r (keyword w)

reads_word : (r : PeriodPredicate) (w : List ℕ) → Reads (Stands r w) Any (denotes_read r (keyword w))
reads_word r w = reads_denotes r (keyword w)

abbrev Either : PeriodPredicate → PeriodPredicate → Language PeriodPredicate
Either r s = Choice (Stands r (codes "PRECEDES")) (Stands s (codes "SUCCEEDS"))

starts_either : (r s : PeriodPredicate) → Starts (any_of order_firsts) (Either r s)
starts_either r s = starts_choice (starts_word r (codes "PRECEDES")) (starts_word s (codes "SUCCEEDS"))

reads_either : (r s : PeriodPredicate) → Reads (Either r s) Any (choice_read (begins (keyword (codes "PRECEDES"))) (denotes_read r (keyword (codes "PRECEDES"))) (denotes_read s (keyword (codes "SUCCEEDS"))))
reads_either r s = reads_choice_next (word (codes "PRECEDES") ∷ []) (word (codes "SUCCEEDS") ∷ []) refl (starts_word r (codes "PRECEDES")) (starts_word s (codes "SUCCEEDS")) (reads_word r (codes "PRECEDES")) (reads_word s (codes "SUCCEEDS"))

abbrev IsImmediate : Language PeriodPredicate
IsImmediate = Preceded (keyword (codes "IMMEDIATELY")) (Either ImmediatelyPrecedes ImmediatelySucceeds)

starts_immediate : Starts (any_of (word (codes "IMMEDIATELY") ∷ [])) IsImmediate
starts_immediate = starts_preceded (keyword (codes "IMMEDIATELY")) (Either ImmediatelyPrecedes ImmediatelySucceeds)

abbrev IsNextTo : Language PeriodPredicate
IsNextTo = Choice IsImmediate (Either Precedes Succeeds)

pub starts_next_to : Starts (any_of next_to_firsts) IsNextTo
starts_next_to = starts_choice starts_immediate (starts_either Precedes Succeeds)

abbrev IsContains : Language PeriodPredicate
IsContains = Choice (Stands Contains (codes "CONTAINS")) IsNextTo

starts_contains : Starts (any_of contains_firsts) IsContains
starts_contains = starts_choice (starts_word Contains (codes "CONTAINS")) starts_next_to

abbrev IsEquals : Language PeriodPredicate
IsEquals = Choice (Stands Equals (codes "EQUALS")) IsContains

starts_equals : Starts (any_of equals_firsts) IsEquals
starts_equals = starts_choice (starts_word Equals (codes "EQUALS")) starts_contains

pub starts_relation : Starts (any_of relation_firsts) IsRelation
starts_relation = starts_choice (starts_word Overlaps (codes "OVERLAPS")) starts_equals

pub reads_relation : Reads IsRelation Any relation_read
unfolding relation_read
reads_relation =
    reads_choice_next (word (codes "OVERLAPS") ∷ []) equals_firsts refl (starts_word Overlaps (codes "OVERLAPS")) starts_equals (reads_word Overlaps (codes "OVERLAPS"))
    (reads_choice_next (word (codes "EQUALS") ∷ []) contains_firsts refl (starts_word Equals (codes "EQUALS")) starts_contains (reads_word Equals (codes "EQUALS"))
    (reads_choice_next (word (codes "CONTAINS") ∷ []) next_to_firsts refl (starts_word Contains (codes "CONTAINS")) starts_next_to (reads_word Contains (codes "CONTAINS"))
    (reads_choice_next (word (codes "IMMEDIATELY") ∷ []) order_firsts refl starts_immediate (starts_either Precedes Succeeds)
    (reads_preceded (keyword (codes "IMMEDIATELY")) (reads_either ImmediatelyPrecedes ImmediatelySucceeds)) (reads_either Precedes Succeeds))))

-- CREATE TABLE is read.
use Rattle.std.proofs.Common.{◌≡◌, ℕ, true, false, List, [], ◌∷◌, ◌++◌, refl, codes, inl, inr}
use Rattle.std.proofs.lemmas.Bool.{and_right}
use Rattle.sql_statements.specs.Lexemes.{Lexeme}
use Rattle.sql_front.specs.Language.{Language, keyword, Built, Choice, Fixed, Preceded, Separated, Sequence}
use Rattle.sql_front.specs.Builders.{Element, period_of, system_of, key_of, reference_of, table_of, column_element, period_element, system_element, key_element, reference_element}
use Rattle.sql_front.specs.Grammar.{comma, name}
use Rattle.sql_front.proofs.ReadGrammar.{IsName, IsColumnElement, IsPair, IsPeriodElement, IsSystemElement, IsWithoutOverlaps, IsKeyElement, IsReferenceList, IsReferenceElement, IsElement, IsVersioning, IsCreate}
use Rattle.sql_front.specs.reading.Reading.{Reader, begins, third_is}
use Rattle.sql_front.specs.reading.ElementReaders.{second_is, one_more_name, more_names_read, leading_names_read, pair_read, period_element_read, system_element_read, without_overlaps_read, key_names_read, key_element_read, reference_list_read, reference_element_read, some_period_read, element_read, versioning_read, elements_read, create_read, created_table_read, key_list_read, last_period_read, parent_read}
use Rattle.sql_front.proofs.First.{Starts, starts_built, starts_choice, starts_preceded, starts_sequence}
use Rattle.sql_front.proofs.Laws.{Any, Reads, reads_both, reads_built, reads_decided, reads_fixed, reads_preceded, reads_repetition, reads_sequence, reads_weaken}
use Rattle.sql_front.proofs.Sorts.{Next, Sort, a_name, any_of, apart_lists, leads_starts, next_not, reads_both_next, reads_choice_next, reads_enclosed_next, reads_next, reads_separated_next, sign, word}
use Rattle.sql_front.proofs.NamesRead.{reads_name, starts_name}
use Rattle.sql_front.proofs.ColumnElementsRead.{after_element, closing, reads_column_element, starts_column_element}
use Rattle.sql_front.proofs.NextTokens.{second_apart, second_starts, third_apart, third_starts}
use Rattle.sql_front.proofs.Regroup.{reads_all_and_last}

-- ---- periods

reads_pair : Reads IsPair Any pair_read
unfolding pair_read
reads_pair =
    reads_enclosed_next closing refl (reads_next closing (reads_both reads_name (reads_preceded comma reads_name)))

reads_period_element : Reads IsPeriodElement Any period_element_read
unfolding period_element_read
reads_period_element =
    reads_preceded (keyword (codes "PERIOD")) (reads_preceded (keyword (codes "FOR"))
    (reads_built period_of (reads_both reads_name reads_pair)))

reads_system_element : Reads IsSystemElement Any system_element_read
unfolding system_element_read
reads_system_element =
    reads_preceded (keyword (codes "PERIOD")) (reads_preceded (keyword (codes "FOR"))
    (reads_preceded (keyword (codes "SYSTEM_TIME")) (reads_built system_of reads_pair)))

-- PERIOD FOR SYSTEM_TIME .. or PERIOD FOR name ..
abbrev IsSomePeriod : Language Element
IsSomePeriod = Choice (Built system_element IsSystemElement) (Built period_element IsPeriodElement)

-- both periods begin with PERIOD FOR, and SYSTEM_TIME is no name
reads_some_period : Reads IsSomePeriod Any some_period_read
unfolding some_period_read
reads_some_period =
    let apart = apart_lists (a_name ∷ []) (word (codes "SYSTEM_TIME") ∷ []) refl in
    let system = starts_preceded (keyword (codes "SYSTEM_TIME")) (Built system_of IsPair) in
    let named = starts_built period_of (starts_sequence IsPair starts_name) in
    reads_weaken Any (λ rest n. (tt, tt))
    (reads_decided (third_is (keyword (codes "SYSTEM_TIME")))
    (reads_built system_element reads_system_element) (reads_built period_element reads_period_element)
    (λ x a rest h f. third_starts system x h.0 rest h.2)
    (λ x a rest h f. third_apart apart (x ++ rest) (third_starts named x h.0 rest h.2)))

starts_either : {A : Type 0} {L M : List Lexeme → A → Type 0} (s : Sort)
    → Starts (any_of (s ∷ [])) L → Starts (any_of (s ∷ [])) M → Starts (any_of (s ∷ [])) (Choice L M)
starts_either s l m = record { at = λ x a z h. elim h [ inl k ↦ l.at x a z k | inr k ↦ m.at x a z k ] }

starts_some_period : Starts (any_of (word (codes "PERIOD") ∷ [])) IsSomePeriod
starts_some_period =
    starts_either (word (codes "PERIOD"))
    (starts_built system_element (starts_preceded (keyword (codes "PERIOD")) _))
    (starts_built period_element (starts_preceded (keyword (codes "PERIOD")) _))

-- ---- keys

reads_without_overlaps : Reads IsWithoutOverlaps Any without_overlaps_read
unfolding without_overlaps_read
reads_without_overlaps = reads_preceded (keyword (codes "WITHOUT")) (reads_fixed (keyword (codes "OVERLAPS")))

abbrev after_key_names : List Sort
after_key_names = word (codes "WITHOUT") ∷ []

reads_key_names : Reads (Sequence (Separated comma IsName) (Preceded comma IsName)) (Next after_key_names) key_names_read
reads_key_names =
    reads_weaken (Next after_key_names) (λ rest h. (tt, next_not after_key_names (sign (codes ",") ∷ []) refl rest h))
    (reads_all_and_last comma IsName reads_name (λ z h. tt))

reads_key_element : Reads IsKeyElement Any key_element_read
unfolding key_element_read key_list_read
reads_key_element =
    let without = starts_preceded (keyword (codes "WITHOUT")) (Fixed (keyword (codes "OVERLAPS"))) in
    let before_without = leads_starts after_key_names after_key_names closing refl without in
    reads_preceded (keyword (codes "PRIMARY")) (reads_preceded (keyword (codes "KEY"))
    (reads_enclosed_next closing refl (reads_built key_of
    (reads_both_next reads_key_names (reads_next closing reads_without_overlaps) before_without))))

starts_key_element : Starts (any_of (word (codes "PRIMARY") ∷ [])) (Built key_element IsKeyElement)
starts_key_element = starts_built key_element (starts_preceded (keyword (codes "PRIMARY")) _)

-- ---- references

one_more : (x : List Lexeme) (a : List ℕ) (z : List Lexeme) → Preceded comma IsName x a → one_more_name (x ++ z) ≡ true
unfolding one_more_name
one_more x a z h = rw ((starts_preceded comma IsName).at x a z h) (second_starts starts_name x a z h)

-- PERIOD with a name, after a comma
abbrev IsLastPeriod : List Lexeme → List ℕ → Type 0
IsLastPeriod = Preceded comma (Preceded (keyword (codes "PERIOD")) IsName)

no_more : (x : List Lexeme) (a : List ℕ) (z : List Lexeme) → IsLastPeriod x a → one_more_name (x ++ z) ≡ false
unfolding one_more_name
no_more x a z h =
    let period = second_starts (starts_preceded (keyword (codes "PERIOD")) IsName) x a z h in
    let apart = apart_lists (word (codes "PERIOD") ∷ []) (a_name ∷ []) refl in
    and_right (begins comma (x ++ z)) (second_is name (x ++ z)) (second_apart apart (x ++ z) period)

reads_leading_names : Reads (Separated comma IsName) (λ rest. Any rest × (one_more_name rest ≡ false)) leading_names_read
unfolding leading_names_read more_names_read
reads_leading_names =
    reads_built (λ (v : List ℕ × List (List ℕ)). v.0 ∷ v.1)
    (reads_both reads_name
    (reads_repetition one_more_name (Preceded comma IsName) Any _ (reads_preceded comma reads_name) one_more (λ z h. tt)))

reads_reference_list : Reads IsReferenceList Any reference_list_read
unfolding reference_list_read last_period_read
reads_reference_list =
    reads_enclosed_next closing refl (reads_next closing
    (reads_sequence reads_leading_names (reads_preceded comma (reads_preceded (keyword (codes "PERIOD")) reads_name))
    (λ y a rest h n. (tt, no_more y a rest h))))

reads_reference_element : Reads IsReferenceElement Any reference_element_read
unfolding reference_element_read parent_read
reads_reference_element =
    reads_preceded (keyword (codes "FOREIGN")) (reads_preceded (keyword (codes "KEY"))
    (reads_built reference_of (reads_both reads_reference_list
    (reads_preceded (keyword (codes "REFERENCES")) (reads_both reads_name reads_reference_list)))))

starts_reference_element : Starts (any_of (word (codes "FOREIGN") ∷ [])) (Built reference_element IsReferenceElement)
starts_reference_element = starts_built reference_element (starts_preceded (keyword (codes "FOREIGN")) _)

-- ---- elements

-- four choices, the second and the third taken together
module _ {A : Type 0} (K L M N : List Lexeme → A → Type 0) where
  abbrev ByFour : List Lexeme → A → Type 0
  ByFour = Choice K (Choice L (Choice M N))

  abbrev ByPair : List Lexeme → A → Type 0
  ByPair = Choice K (Choice (Choice L M) N)

  four_of_pair : (x : List Lexeme) (a : A) → ByPair x a → ByFour x a
  four_of_pair x a (inl k) = inl k
  four_of_pair x a (inr (inl (inl l))) = inr (inl l)
  four_of_pair x a (inr (inl (inr m))) = inr (inr (inl m))
  four_of_pair x a (inr (inr n)) = inr (inr (inr n))

  pair_of_four : (x : List Lexeme) (a : A) → ByFour x a → ByPair x a
  pair_of_four x a (inl k) = inl k
  pair_of_four x a (inr (inl l)) = inr (inl (inl l))
  pair_of_four x a (inr (inr (inl m))) = inr (inl (inr m))
  pair_of_four x a (inr (inr (inr n))) = inr (inr n)

  reads_grouped : {F : List Lexeme → Type 0} {p : Reader A} → Reads ByPair F p → Reads ByFour F p
  reads_grouped r = record {
    found = λ ts x e. let k = r.found ts x e in (k.0, k.1, four_of_pair k.0 x.0 k.2);
    again = λ front a rest h follow. r.again front a rest (pair_of_four front a h) follow;
  }

abbrev key_or_reference : List Sort
key_or_reference = word (codes "PRIMARY") ∷ word (codes "FOREIGN") ∷ []

reads_element : Reads IsElement (Next after_element) element_read
unfolding element_read
reads_element =
    let keyed = starts_choice starts_key_element starts_reference_element in
    reads_grouped (Built column_element IsColumnElement) (Built system_element IsSystemElement) (Built period_element IsPeriodElement)
    (Choice (Built key_element IsKeyElement) (Built reference_element IsReferenceElement))
    (reads_choice_next (a_name ∷ []) (word (codes "PERIOD") ∷ key_or_reference) refl starts_column_element (starts_choice starts_some_period keyed)
    (reads_built column_element reads_column_element)
    (reads_choice_next (word (codes "PERIOD") ∷ []) key_or_reference refl starts_some_period keyed
    (reads_next after_element reads_some_period)
    (reads_choice_next (word (codes "PRIMARY") ∷ []) (word (codes "FOREIGN") ∷ []) refl starts_key_element starts_reference_element
    (reads_next after_element (reads_built key_element reads_key_element))
    (reads_next after_element (reads_built reference_element reads_reference_element)))))

-- ---- the table

reads_versioning : Reads IsVersioning Any versioning_read
unfolding versioning_read
reads_versioning =
    reads_preceded (keyword (codes "WITH")) (reads_preceded (keyword (codes "SYSTEM"))
    (reads_fixed (keyword (codes "VERSIONING"))))

pub reads_create : Reads IsCreate Any create_read
unfolding create_read created_table_read elements_read
reads_create =
    reads_preceded (keyword (codes "CREATE")) (reads_preceded (keyword (codes "TABLE"))
    (reads_built table_of (reads_both reads_name (reads_both
    (reads_enclosed_next closing refl (reads_separated_next (sign (codes ",")) closing after_element refl refl refl reads_element))
    reads_versioning))))

pub starts_create : Starts (any_of (word (codes "CREATE") ∷ [])) IsCreate
starts_create = starts_preceded (keyword (codes "CREATE")) _

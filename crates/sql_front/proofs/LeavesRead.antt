-- Literals, dates and moments are read.
use Rattle.std.proofs.Common.{◌≡◌, ℕ, Bool, true, false, ◌||◌, [], ◌∷◌, ◌++◌, List, codes, refl, inl, inr}
use Rattle.period_core.specs.declared.value.Value.{Value}
use Rattle.period_core.specs.declared.value.Value.TheVariants as value
use Rattle.sql_statements.specs.Lexemes.{Lexeme}
use Rattle.sql_front.specs.reading.LeafValues.{clock_value, day_value, moment_value, negative_value}
use Rattle.sql_front.specs.Language.{keyword, symbol, number, text, or_test, Built, Choice, OneToken, Preceded, PrecededOrNot}
use Rattle.sql_front.specs.Builders.{number_of, text_of}
use Rattle.sql_front.proofs.ReadGrammar.{IsClockMoment, IsDate, IsLiteral, IsMoment, IsNumber, IsTuple}
use Rattle.sql_front.specs.reading.Reading.{Reader, begins}
use Rattle.sql_front.specs.reading.Leaves.{clock_moment_read, date_read, literal_read, moment_read, tuple_read, unsigned_read}
use Rattle.sql_front.proofs.First.{Starts, starts_built, starts_choice, starts_one, starts_preceded, starts_preceded_or_not}
use Rattle.sql_front.proofs.Laws.{Any, Reads, reads_built, reads_one, reads_preceded, reads_preceded_or_not}
use Rattle.sql_front.proofs.Levels.{Level, level_built, level_choice, level_enclosed_same, level_one, level_preceded, level_preceded_or_not, level_separated, plain_keyword, plain_number, plain_symbol, plain_text}
use Rattle.sql_front.proofs.Sorts.{a_number, a_text, any_of, apart_lists, sign, word, reads_choice_next, reads_enclosed_next, reads_next, reads_separated_next}
use Rattle.sql_front.proofs.NamesRead.{level_number, plain_comma, reads_number, starts_number}

-- ---- moments and dates

pub reads_moment : Reads IsMoment Any moment_read
unfolding moment_read
reads_moment = reads_preceded (keyword (codes "TIMESTAMP")) (reads_built moment_value (reads_one text))

pub level_moment : (k : ℕ) → Level k IsMoment IsMoment
level_moment k = level_preceded (plain_keyword (codes "TIMESTAMP")) (level_built moment_value (level_one k plain_text))

pub reads_clock_moment : Reads IsClockMoment Any clock_moment_read
unfolding clock_moment_read
reads_clock_moment = reads_preceded (keyword (codes "TIMESTAMP")) (reads_built clock_value (reads_one text))

pub level_clock_moment : (k : ℕ) → Level k IsClockMoment IsClockMoment
level_clock_moment k = level_preceded (plain_keyword (codes "TIMESTAMP")) (level_built clock_value (level_one k plain_text))

pub reads_date : Reads IsDate Any date_read
unfolding date_read
reads_date = reads_preceded (keyword (codes "DATE")) (reads_built day_value (reads_one text))

pub starts_date : Starts (any_of (word (codes "DATE") ∷ [])) IsDate
starts_date = starts_preceded (keyword (codes "DATE")) (Built day_value (OneToken text))

pub level_date : (k : ℕ) → Level k IsDate IsDate
level_date k = level_preceded (plain_keyword (codes "DATE")) (level_built day_value (level_one k plain_text))

-- ---- literals

abbrev IsUnsigned : List Lexeme → Value → Type 0
IsUnsigned = Built number_of (PrecededOrNot (symbol (codes "+")) IsNumber)

abbrev IsNegative : List Lexeme → Value → Type 0
IsNegative = Built value.Int (Preceded (symbol (codes "-")) (Built negative_value (OneToken number)))

abbrev IsText : List Lexeme → Value → Type 0
IsText = Built text_of (OneToken text)

abbrev IsDay : List Lexeme → Value → Type 0
IsDay = Built value.Date IsDate

-- equal literals, in the order in which they are read
abbrev Ordered : List Lexeme → Value → Type 0
Ordered = Choice IsNegative (Choice IsText (Choice IsDay IsUnsigned))

ordered : (x : List Lexeme) (v : Value) → IsLiteral x v → Ordered x v
ordered x v (inl h) = inr (inr (inr h))
ordered x v (inr (inl h)) = inl h
ordered x v (inr (inr (inl h))) = inr (inl h)
ordered x v (inr (inr (inr h))) = inr (inr (inl h))

reordered : (x : List Lexeme) (v : Value) → Ordered x v → IsLiteral x v
reordered x v (inl h) = inr (inl h)
reordered x v (inr (inl h)) = inr (inr (inl h))
reordered x v (inr (inr (inl h))) = inr (inr (inr h))
reordered x v (inr (inr (inr h))) = inl h

starts_unsigned : Starts (any_of (sign (codes "+") ∷ a_number ∷ [])) IsUnsigned
starts_unsigned = starts_built number_of (starts_preceded_or_not (symbol (codes "+")) starts_number)

starts_negative : Starts (any_of (sign (codes "-") ∷ [])) IsNegative
starts_negative = starts_built value.Int (starts_preceded (symbol (codes "-")) (Built negative_value (OneToken number)))

starts_text : Starts (any_of (a_text ∷ [])) IsText
starts_text = starts_built text_of (starts_one text)

starts_day : Starts (any_of (word (codes "DATE") ∷ [])) IsDay
starts_day = starts_built value.Date starts_date

reads_unsigned : Reads IsUnsigned Any unsigned_read
unfolding unsigned_read
reads_unsigned = reads_built number_of (reads_preceded_or_not starts_number (apart_lists (a_number ∷ []) (sign (codes "+") ∷ []) refl) reads_number)

reads_ordered : Reads Ordered Any literal_read
unfolding literal_read
reads_ordered =
    reads_choice_next (sign (codes "-") ∷ []) (a_text ∷ word (codes "DATE") ∷ sign (codes "+") ∷ a_number ∷ []) refl starts_negative (starts_choice starts_text (starts_choice starts_day starts_unsigned))
    (reads_built value.Int (reads_preceded (symbol (codes "-")) (reads_built negative_value (reads_one number))))
    (reads_choice_next (a_text ∷ []) (word (codes "DATE") ∷ sign (codes "+") ∷ a_number ∷ []) refl starts_text (starts_choice starts_day starts_unsigned)
    (reads_built text_of (reads_one text))
    (reads_choice_next (word (codes "DATE") ∷ []) (sign (codes "+") ∷ a_number ∷ []) refl starts_day starts_unsigned (reads_built value.Date reads_date) reads_unsigned))

-- a language that has the same texts for each value
reads_alike : {A : Type 0} {L M : List Lexeme → A → Type 0} {F : List Lexeme → Type 0} {p : Reader A} → ((x : List Lexeme) (a : A) → L x a → M x a) → ((x : List Lexeme) (a : A) → M x a → L x a) → Reads L F p → Reads M F p
reads_alike there back r = record {
  found = λ ts x e. let h = r.found ts x e in (h.0, h.1, there h.0 x.0 h.2);
  again = λ front a rest h follow. r.again front a rest (back front a h) follow;
}

pub reads_literal : Reads IsLiteral Any literal_read
reads_literal = reads_alike reordered ordered reads_ordered

begins_if : (a b : Lexeme → Bool) → ((t : Lexeme) → a t ≡ true → b t ≡ true) → (z : List Lexeme) → begins a z ≡ true → begins b z ≡ true
begins_if a b h [] e = absurd cc
begins_if a b h (t ∷ z) e = h t e

or_regroup : (x y z : Bool) → ((x || y) || z) ≡ true → (x || (y || z)) ≡ true
or_regroup true y z e = refl
or_regroup false y z e = e

pub starts_literal : Starts (any_of (sign (codes "+") ∷ a_number ∷ sign (codes "-") ∷ a_text ∷ word (codes "DATE") ∷ [])) IsLiteral
starts_literal =
    let others = any_of (sign (codes "-") ∷ a_text ∷ word (codes "DATE") ∷ []) in
    let all = starts_choice starts_unsigned (starts_choice starts_negative (starts_choice starts_text starts_day)) in
    record {
      at = λ x a z h. begins_if (or_test (any_of (sign (codes "+") ∷ a_number ∷ [])) others) (any_of (sign (codes "+") ∷ a_number ∷ sign (codes "-") ∷ a_text ∷ word (codes "DATE") ∷ []))
          (λ t e. or_regroup (symbol (codes "+") t) (number t) (others t) e) (x ++ z) (all.at x a z h);
    }

pub level_literal : (k : ℕ) → Level k IsLiteral IsLiteral
level_literal k =
    level_choice (level_built number_of (level_preceded_or_not (plain_symbol (codes "+") refl refl) (level_number k)))
    (level_choice (level_built value.Int (level_preceded (plain_symbol (codes "-") refl refl) (level_built negative_value (level_one k plain_number))))
    (level_choice (level_built text_of (level_one k plain_text)) (level_built value.Date (level_date k))))

-- ---- tuples

pub reads_tuple : Reads IsTuple Any tuple_read
unfolding tuple_read
reads_tuple =
    reads_enclosed_next (sign (codes ")") ∷ []) refl
    (reads_separated_next (sign (codes ",")) (sign (codes ")") ∷ []) (sign (codes ")") ∷ sign (codes ",") ∷ []) refl refl refl (reads_next (sign (codes ")") ∷ sign (codes ",") ∷ []) reads_literal))

pub level_tuple : (k : ℕ) → Level k IsTuple IsTuple
level_tuple k = level_enclosed_same k (λ j. level_separated plain_comma (level_literal j))

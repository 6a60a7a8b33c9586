-- Each production, by the values of its literals.
use Rattle.std.proofs.Common.{◌≡◌, ℕ, zero, suc, true, false, List, refl, codes, ◌||◌, Bool}
use Rattle.std.specs.Str.{bytes_eq}
use Rattle.sql_statements.specs.Lexemes.{Lexeme}
use Rattle.sql_statements.specs.declared.create.Generated.TheVariants.{Start, End}
use Rattle.sql_statements.specs.declared.create.TypeName.TheVariants.{Integer, Date, Varchar, Timestamp}
use Rattle.sql_statements.specs.declared.statement.Comparison.TheVariants.{Equal, NotEqual, Less, LessOrEqual, Greater, GreaterOrEqual}
use Rattle.sql_statements.specs.declared.statement.Operand.TheVariants.{Column, Literal}
use Rattle.sql_statements.specs.declared.statement.PeriodOperand.TheVariants.{Named}
use Rattle.sql_statements.specs.declared.statement.PeriodPredicate.TheVariants.{Overlaps, Equals, Contains, Precedes, Succeeds, ImmediatelyPrecedes, ImmediatelySucceeds}
use Rattle.sql_statements.specs.declared.statement.StoredTest.TheVariants.{Values}
use Rattle.sql_statements.specs.declared.statement.SystemTime.TheVariants.{AsOf}
use Rattle.sql_statements.specs.declared.tree.SetOperator.TheVariants.{Union, Except, Intersect}
use Rattle.sql_front.specs.Language.{Language, keyword, symbol, or_test, Fixed, Preceded, PrecededOrNot, Separated, Denotes}
use Rattle.sql_statements.specs.Trees.{Condition, Query, Statement, negated, simple, test, at, create, delete, insert, sequenced, stored, update}
use Rattle.sql_front.specs.Literals.{any_value, exact}
use Rattle.sql_front.specs.Placeholders.{placeholders}
use Rattle.sql_statements.specs.Names.{upper}
use Rattle.sql_front.specs.Builders.{column_of, period_of, system_of, key_of, reference_of, table_of, column_reference_of, compare_of, all_of, any_of, from_to_of, between_of, table_reference_of, join_of, chain_of, item_of, select_of, term_of, combined_of, dates_of, periods_of, contains_day_of, stored_of, rows_of, portion_of, assignment_of, update_of, delete_of, column_element, period_element, system_element, key_element, reference_element}
use Rattle.sql_front.specs.Grammar.{ConditionBelow, IsCondition, IsConjunction, IsFactor, IsTest, IsWhere, IsName, IsNames, IsLength, IsType, IsGenerated, IsNotNull, IsColumnElement, IsPair, IsPeriodElement, IsSystemElement, IsWithoutOverlaps, IsKeyElement, IsReferenceList, IsReferenceElement, IsElement, IsVersioning, IsCreate, IsColumn, IsOperand, IsComparison, IsCompare, IsWindow, IsForWindow, IsNewName, IsReference, IsJoin, IsChain, IsItem, IsSelect, IsPrimary, IsIntersection, IsTerm, IsStep, QueryBelow, IsSequenced, IsPeriodOperand, IsRelation, IsPredicate, IsStoredTest, IsStored, IsInsert, IsPortion, IsAssignment, IsUpdate, IsDelete, IsAt, StatementBelow, comma, Spells}
use Rattle.sql_front.proofs.LiteralReadings.{comma_no_minus, readings_clock_moment, readings_date, readings_literal, readings_moment, readings_number, readings_tuple}
use Rattle.sql_front.proofs.Readings.{NoFault, Readings, keyword_no_minus, name_no_minus, symbol_no_minus, readings_built, readings_choice, readings_enclosed, readings_fixed, readings_one, readings_optional, readings_preceded, readings_preceded_or_not, readings_repetition, readings_separated, readings_sequence, readings_of_token}

-- a keyword, and a language after it
module _ {A : Type 0} (w : List ℕ) {E S Y : Language A} where
  after : Readings E S Y → Readings (Preceded (keyword w) E) (Preceded (keyword w) S) (Preceded (keyword w) Y)
  after r = readings_preceded (keyword_no_minus w) r

  after_or_not : Readings E S Y → Readings (PrecededOrNot (keyword w) E) (PrecededOrNot (keyword w) S) (PrecededOrNot (keyword w) Y)
  after_or_not r = readings_preceded_or_not (keyword_no_minus w) r

-- a comma, and a language after it
after_comma : {A : Type 0} {E S Y : Language A} → Readings E S Y → Readings (Preceded comma E) (Preceded comma S) (Preceded comma Y)
after_comma r = readings_preceded comma_no_minus r

-- a list of a language's parts with commas
listed : {A : Type 0} {E S Y : Language A} → Readings E S Y → Readings (Separated comma E) (Separated comma S) (Separated comma Y)
listed r = readings_separated comma_no_minus r

-- a keyword alone
a_word : (w : List ℕ) → Readings (Fixed (keyword w)) (Fixed (keyword w)) (Fixed (keyword w))
a_word w = readings_fixed (keyword_no_minus w)

-- a keyword that denotes a value
word_for : {A : Type 0} (a : A) (w : List ℕ) → Readings (Denotes a (keyword w)) (Denotes a (keyword w)) (Denotes a (keyword w))
word_for a w = readings_of_token a (keyword_no_minus w)

-- a sign that denotes a value
sign_for : {A : Type 0} (a : A) (s : List ℕ) → bytes_eq s (codes "-") ≡ false → Readings (Denotes a (symbol s)) (Denotes a (symbol s)) (Denotes a (symbol s))
sign_for a s e = readings_of_token a (symbol_no_minus s e)

-- ---- names

readings_name : Readings (IsName exact) (IsName placeholders) (IsName any_value)
readings_name =
    readings_built upper (readings_one name_no_minus)

readings_names : Readings (IsNames exact) (IsNames placeholders) (IsNames any_value)
readings_names =
    readings_enclosed (listed readings_name)

-- ---- CREATE

readings_length : Readings (IsLength exact) (IsLength placeholders) (IsLength any_value)
readings_length =
    readings_enclosed readings_number

readings_type : Readings (IsType exact) (IsType placeholders) (IsType any_value)
readings_type =
    readings_choice (word_for Integer (codes "INTEGER"))
    (readings_choice (word_for Date (codes "DATE"))
    (readings_choice (readings_built Varchar (after (codes "VARCHAR") readings_length))
    (readings_choice (readings_built Varchar (after (codes "CHARACTER") (after (codes "VARYING") readings_length)))
    (readings_built Timestamp (after (codes "TIMESTAMP") (readings_optional readings_length))))))

readings_generated : Readings (IsGenerated exact) (IsGenerated placeholders) (IsGenerated any_value)
readings_generated =
    after (codes "GENERATED") (after (codes "ALWAYS") (after (codes "AS") (after (codes "ROW")
    (readings_choice (word_for Start (codes "START")) (word_for End (codes "END"))))))

readings_not_null : Readings (IsNotNull exact) (IsNotNull placeholders) (IsNotNull any_value)
readings_not_null =
    after (codes "NOT") (a_word (codes "NULL"))

readings_column_element : Readings (IsColumnElement exact) (IsColumnElement placeholders) (IsColumnElement any_value)
readings_column_element =
    readings_built column_of (readings_sequence readings_name (readings_sequence readings_type
    (readings_sequence (readings_optional readings_generated) (readings_optional readings_not_null))))

readings_pair : Readings (IsPair exact) (IsPair placeholders) (IsPair any_value)
readings_pair =
    readings_enclosed (readings_sequence readings_name (after_comma readings_name))

readings_period_element : Readings (IsPeriodElement exact) (IsPeriodElement placeholders) (IsPeriodElement any_value)
readings_period_element =
    after (codes "PERIOD") (after (codes "FOR") (readings_built period_of (readings_sequence readings_name readings_pair)))

readings_system_element : Readings (IsSystemElement exact) (IsSystemElement placeholders) (IsSystemElement any_value)
readings_system_element =
    after (codes "PERIOD") (after (codes "FOR") (after (codes "SYSTEM_TIME") (readings_built system_of readings_pair)))

readings_without_overlaps : Readings (IsWithoutOverlaps exact) (IsWithoutOverlaps placeholders) (IsWithoutOverlaps any_value)
readings_without_overlaps =
    after (codes "WITHOUT") (a_word (codes "OVERLAPS"))

readings_key_element : Readings (IsKeyElement exact) (IsKeyElement placeholders) (IsKeyElement any_value)
readings_key_element =
    after (codes "PRIMARY") (after (codes "KEY") (readings_enclosed (readings_built key_of
    (readings_sequence (readings_sequence (listed readings_name) (after_comma readings_name)) readings_without_overlaps))))

readings_reference_list : Readings (IsReferenceList exact) (IsReferenceList placeholders) (IsReferenceList any_value)
readings_reference_list =
    readings_enclosed (readings_sequence (listed readings_name) (after_comma (after (codes "PERIOD") readings_name)))

readings_reference_element : Readings (IsReferenceElement exact) (IsReferenceElement placeholders) (IsReferenceElement any_value)
readings_reference_element =
    after (codes "FOREIGN") (after (codes "KEY") (readings_built reference_of (readings_sequence readings_reference_list
    (after (codes "REFERENCES") (readings_sequence readings_name readings_reference_list)))))

readings_element : Readings (IsElement exact) (IsElement placeholders) (IsElement any_value)
readings_element =
    readings_choice (readings_built column_element readings_column_element)
    (readings_choice (readings_built system_element readings_system_element)
    (readings_choice (readings_built period_element readings_period_element)
    (readings_choice (readings_built key_element readings_key_element)
    (readings_built reference_element readings_reference_element))))

readings_versioning : Readings (IsVersioning exact) (IsVersioning placeholders) (IsVersioning any_value)
readings_versioning =
    after (codes "WITH") (after (codes "SYSTEM") (a_word (codes "VERSIONING")))

readings_create : Readings (IsCreate exact) (IsCreate placeholders) (IsCreate any_value)
readings_create =
    after (codes "CREATE") (after (codes "TABLE")
    (readings_built table_of (readings_sequence readings_name (readings_sequence (readings_enclosed (listed readings_element)) readings_versioning))))

-- ---- comparisons

readings_column : Readings (IsColumn exact) (IsColumn placeholders) (IsColumn any_value)
readings_column =
    readings_built column_reference_of (readings_sequence readings_name (readings_optional (readings_preceded (symbol_no_minus (codes ".") refl) readings_name)))

readings_operand : Readings (IsOperand exact) (IsOperand placeholders) (IsOperand any_value)
readings_operand =
    readings_choice (readings_built Column readings_column) (readings_built Literal readings_literal)

readings_comparison : Readings (IsComparison exact) (IsComparison placeholders) (IsComparison any_value)
readings_comparison =
    readings_choice (sign_for Equal (codes "=") refl)
    (readings_choice (sign_for NotEqual (codes "<>") refl)
    (readings_choice (sign_for Less (codes "<") refl)
    (readings_choice (sign_for LessOrEqual (codes "<=") refl)
    (readings_choice (sign_for Greater (codes ">") refl) (sign_for GreaterOrEqual (codes ">=") refl)))))

readings_compare : Readings (IsCompare exact) (IsCompare placeholders) (IsCompare any_value)
readings_compare =
    readings_built compare_of (readings_sequence readings_operand (readings_sequence readings_comparison readings_operand))

-- ---- conditions

module _ {T : Type 0} {E S Y : Language T} (tests : Readings E S Y) where
  -- over a condition in parentheses
  readings_over : {E2 S2 Y2 : Language (Condition T)} → Readings E2 S2 Y2 → Readings (IsCondition E E2) (IsCondition S S2) (IsCondition Y Y2)
  readings_over {E2} {S2} {Y2} r =
      let one : Readings (IsTest E E2) (IsTest S S2) (IsTest Y Y2) = readings_choice (readings_enclosed r) (readings_built test tests) in
      let factor : Readings (IsFactor E E2) (IsFactor S S2) (IsFactor Y Y2) = readings_choice (readings_built negated (after (codes "NOT") one)) one in
      let conjunction : Readings (IsConjunction E E2) (IsConjunction S S2) (IsConjunction Y Y2) = readings_built all_of (readings_separated (keyword_no_minus (codes "AND")) factor) in
      readings_built any_of (readings_separated (keyword_no_minus (codes "OR")) conjunction)

  readings_condition : (n : ℕ) → Readings (ConditionBelow E n) (ConditionBelow S n) (ConditionBelow Y n)
  unfolding ConditionBelow
  readings_condition zero = record { sharp = λ x a f h. absurd h; known = λ x a h. h; loose = λ x a h. h; some = λ x a h. absurd h }
  readings_condition (suc n) = readings_over (readings_condition n)

  readings_where : (n : ℕ) → Readings (IsWhere E n) (IsWhere S n) (IsWhere Y n)
  readings_where n = readings_optional (after (codes "WHERE") (readings_condition n))

-- ---- queries

either_at : (t : Lexeme) → keyword (codes "AT") t ≡ true → or_test (keyword (codes "AT")) (keyword (codes "OF")) t ≡ true
either_at t e = rw e refl

or_right : (x y : Bool) → y ≡ true → (x || y) ≡ true
or_right true y e = refl
or_right false y e = e

either_of : (t : Lexeme) → keyword (codes "OF") t ≡ true → or_test (keyword (codes "AT")) (keyword (codes "OF")) t ≡ true
either_of t e = or_right (keyword (codes "AT") t) (keyword (codes "OF") t) e

readings_window : Readings (IsWindow exact) (IsWindow placeholders) (IsWindow any_value)
readings_window =
    readings_choice (readings_built AsOf (after (codes "AS") (readings_clock_moment either_of)))
    (readings_choice (readings_built from_to_of (after (codes "FROM") (readings_sequence readings_moment (after (codes "TO") readings_moment))))
    (readings_built between_of (after (codes "BETWEEN") (readings_sequence readings_moment (after (codes "AND") readings_moment)))))

readings_for_window : Readings (IsForWindow exact) (IsForWindow placeholders) (IsForWindow any_value)
readings_for_window =
    after (codes "FOR") (after (codes "SYSTEM_TIME") readings_window)

readings_new_name : Readings (IsNewName exact) (IsNewName placeholders) (IsNewName any_value)
readings_new_name =
    after_or_not (codes "AS") readings_name

readings_reference : Readings (IsReference exact) (IsReference placeholders) (IsReference any_value)
readings_reference =
    readings_built table_reference_of (readings_sequence readings_name (readings_sequence (readings_optional readings_for_window) (readings_optional readings_new_name)))

readings_join : (n : ℕ) → Readings (IsJoin exact n) (IsJoin placeholders n) (IsJoin any_value n)
readings_join n =
    readings_built join_of (after_or_not (codes "INNER") (after (codes "JOIN")
    (readings_sequence readings_reference (after (codes "ON") (readings_condition readings_compare n)))))

readings_chain : (n : ℕ) → Readings (IsChain exact n) (IsChain placeholders n) (IsChain any_value n)
readings_chain n =
    readings_built chain_of (readings_sequence readings_reference (readings_repetition (readings_join n)))

readings_item : Readings (IsItem exact) (IsItem placeholders) (IsItem any_value)
readings_item =
    readings_built item_of (readings_sequence readings_column (readings_optional readings_new_name))

readings_select : (n : ℕ) → Readings (IsSelect exact n) (IsSelect placeholders n) (IsSelect any_value n)
readings_select n =
    after (codes "SELECT") (after (codes "DISTINCT")
    (readings_built select_of (readings_sequence (listed readings_item)
    (after (codes "FROM") (readings_sequence (listed (readings_chain n)) (readings_where readings_compare n))))))

readings_primary : (n : ℕ) {E S Y : Language Query} → Readings E S Y → Readings (IsPrimary exact n E) (IsPrimary placeholders n S) (IsPrimary any_value n Y)
readings_primary n r = readings_choice (readings_enclosed r) (readings_built simple (readings_select n))

readings_intersection : (n : ℕ) {E S Y : Language Query} → Readings E S Y → Readings (IsIntersection exact n E) (IsIntersection placeholders n S) (IsIntersection any_value n Y)
readings_intersection n r =
    readings_sequence (word_for Intersect (codes "INTERSECT")) (after_or_not (codes "DISTINCT") (readings_primary n r))

readings_term : (n : ℕ) {E S Y : Language Query} → Readings E S Y → Readings (IsTerm exact n E) (IsTerm placeholders n S) (IsTerm any_value n Y)
readings_term n r =
    readings_built term_of (readings_sequence (readings_primary n r) (readings_repetition (readings_intersection n r)))

readings_step : (n : ℕ) {E S Y : Language Query} → Readings E S Y → Readings (IsStep exact n E) (IsStep placeholders n S) (IsStep any_value n Y)
readings_step n r =
    readings_sequence (readings_choice (word_for Union (codes "UNION")) (word_for Except (codes "EXCEPT")))
    (after_or_not (codes "DISTINCT") (readings_term n r))

readings_query : (n : ℕ) → Readings (QueryBelow exact n) (QueryBelow placeholders n) (QueryBelow any_value n)
unfolding QueryBelow
readings_query zero = record { sharp = λ x a f h. absurd h; known = λ x a h. h; loose = λ x a h. h; some = λ x a h. absurd h }
readings_query (suc n) =
    readings_built combined_of (readings_sequence (readings_term (suc n) (readings_query n)) (readings_repetition (readings_step (suc n) (readings_query n))))

readings_sequenced : (n : ℕ) → Readings (IsSequenced exact n) (IsSequenced placeholders n) (IsSequenced any_value n)
readings_sequenced n =
    after (codes "VALIDTIME") (readings_query n)

-- ---- stored queries

readings_period_operand : Readings (IsPeriodOperand exact) (IsPeriodOperand placeholders) (IsPeriodOperand any_value)
readings_period_operand =
    readings_choice (readings_built dates_of (after (codes "PERIOD") (readings_enclosed (readings_sequence readings_date (after_comma readings_date)))))
    (readings_built Named readings_column)

readings_relation : Readings (IsRelation exact) (IsRelation placeholders) (IsRelation any_value)
readings_relation =
    readings_choice (word_for Overlaps (codes "OVERLAPS"))
    (readings_choice (word_for Equals (codes "EQUALS"))
    (readings_choice (word_for Contains (codes "CONTAINS"))
    (readings_choice (after (codes "IMMEDIATELY")
    (readings_choice (word_for ImmediatelyPrecedes (codes "PRECEDES")) (word_for ImmediatelySucceeds (codes "SUCCEEDS"))))
    (readings_choice (word_for Precedes (codes "PRECEDES")) (word_for Succeeds (codes "SUCCEEDS"))))))

readings_predicate : Readings (IsPredicate exact) (IsPredicate placeholders) (IsPredicate any_value)
readings_predicate =
    readings_choice (readings_built periods_of (readings_sequence readings_period_operand (readings_sequence readings_relation readings_period_operand)))
    (readings_built contains_day_of (readings_sequence readings_period_operand (after (codes "CONTAINS") readings_date)))

readings_stored_test : Readings (IsStoredTest exact) (IsStoredTest placeholders) (IsStoredTest any_value)
readings_stored_test =
    readings_choice readings_predicate (readings_built Values readings_compare)

readings_stored : (n : ℕ) → Readings (IsStored exact n) (IsStored placeholders n) (IsStored any_value n)
readings_stored n =
    after (codes "SELECT") (readings_preceded (symbol_no_minus (codes "*") refl) (after (codes "FROM")
    (readings_built stored_of (readings_sequence readings_name (readings_sequence (readings_optional readings_for_window) (readings_where readings_stored_test n))))))

-- ---- changes

readings_insert : Readings (IsInsert exact) (IsInsert placeholders) (IsInsert any_value)
readings_insert =
    after (codes "INSERT") (after (codes "INTO")
    (readings_built rows_of (readings_sequence readings_name (readings_sequence (readings_optional readings_names)
    (after (codes "VALUES") (listed readings_tuple))))))

readings_portion : Readings (IsPortion exact) (IsPortion placeholders) (IsPortion any_value)
readings_portion =
    after (codes "FOR") (after (codes "PORTION") (after (codes "OF")
    (readings_built portion_of (readings_sequence readings_name (after (codes "FROM")
    (readings_sequence readings_date (after (codes "TO") readings_date)))))))

readings_assignment : Readings (IsAssignment exact) (IsAssignment placeholders) (IsAssignment any_value)
readings_assignment =
    readings_built assignment_of (readings_sequence readings_name (readings_preceded (symbol_no_minus (codes "=") refl) readings_literal))

readings_update : (n : ℕ) → Readings (IsUpdate exact n) (IsUpdate placeholders n) (IsUpdate any_value n)
readings_update n =
    after (codes "UPDATE") (readings_built update_of (readings_sequence readings_name (readings_sequence (readings_optional readings_portion)
    (after (codes "SET") (readings_sequence (listed readings_assignment) (readings_where readings_compare n))))))

readings_delete : (n : ℕ) → Readings (IsDelete exact n) (IsDelete placeholders n) (IsDelete any_value n)
readings_delete n =
    after (codes "DELETE") (after (codes "FROM") (readings_built delete_of (readings_sequence readings_name
    (readings_sequence (readings_optional readings_portion) (readings_where readings_compare n)))))

readings_at : Readings (IsAt exact) (IsAt placeholders) (IsAt any_value)
readings_at =
    readings_clock_moment either_at

-- ---- statements

readings_statement : (n : ℕ) → Readings (StatementBelow exact n) (StatementBelow placeholders n) (StatementBelow any_value n)
readings_statement n =
    readings_choice (readings_built at readings_at)
    (readings_choice (readings_built create readings_create)
    (readings_choice (readings_built insert readings_insert)
    (readings_choice (readings_built update (readings_update n))
    (readings_choice (readings_built delete (readings_delete n))
    (readings_choice (readings_built sequenced (readings_sequenced n))
    (readings_built stored (readings_stored n)))))))

-- if no literal has a fault, the statement that is read is spelled exactly
pub spelled_exactly : (x : List Lexeme) (s : Statement) → NoFault x → Spells placeholders x s → Spells exact x s
spelled_exactly x s f h = (h.0, ((readings_statement h.0).sharp x s f h.1).0)

-- a statement that is spelled exactly is read
pub exactly_read : (x : List Lexeme) (s : Statement) → Spells exact x s → Spells placeholders x s
exactly_read x s h = (h.0, (readings_statement h.0).known x s h.1)

-- a read statement is spelled by some values
pub loosely_spelled : (x : List Lexeme) (s : Statement) → Spells placeholders x s → Spells any_value x s
loosely_spelled x s h = (h.0, (readings_statement h.0).loose x s h.1)

-- if a statement is spelled by some values, one is read
pub some_read : (x : List Lexeme) (s : Statement) → Spells any_value x s → (t : Statement) × Spells placeholders x t
some_read x s h =
    let p = (readings_statement h.0).some x s h.1 in
    (p.0, (h.0, p.1))

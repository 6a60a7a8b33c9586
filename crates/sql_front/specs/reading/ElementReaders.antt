-- Reading CREATE TABLE from the front, element by element.
use Rattle.std.specs.Prelude.{ℕ, Bool, false, List, [], ◌∷◌, Option, Some, None, codes, ◌&&◌}
use Rattle.sql_statements.specs.declared.create.ColumnElement.{ColumnElement}
use Rattle.sql_statements.specs.declared.create.CreateTable.{CreateTable}
use Rattle.sql_statements.specs.declared.create.Generated.{Generated}
use Rattle.sql_statements.specs.declared.create.Generated.TheVariants.{Start, End}
use Rattle.sql_statements.specs.declared.create.KeyElement.{KeyElement}
use Rattle.sql_statements.specs.declared.create.PeriodElement.{PeriodElement}
use Rattle.sql_statements.specs.declared.create.ReferenceElement.{ReferenceElement}
use Rattle.sql_statements.specs.declared.create.SystemElement.{SystemElement}
use Rattle.sql_statements.specs.declared.create.TypeName.{TypeName}
use Rattle.sql_statements.specs.declared.create.TypeName.TheVariants.{Integer, Date, Varchar}
use Rattle.sql_statements.specs.declared.create.TypeName.TheVariants.{Timestamp}
use Rattle.sql_statements.specs.Lexemes.{Lexeme}
use Rattle.sql_front.specs.Language.{keyword, symbol}
use Rattle.sql_front.specs.Builders.{column_of, period_of, system_of, key_of, reference_of}
use Rattle.sql_front.specs.Builders.{table_of, Element, column_element, period_element}
use Rattle.sql_front.specs.Builders.{system_element, key_element, reference_element}
use Rattle.sql_front.specs.Grammar.{name, comma}
use Rattle.period_core.specs.TextReading.{◌>>=◌}
use Rattle.sql_front.specs.reading.Reading.{Reader, begins, third_is, fixed_read, sequence_read}
use Rattle.sql_front.specs.reading.Reading.{built_read, choice_read, optional_read, repetition_read}
use Rattle.sql_front.specs.reading.Reading.{preceded_read, denotes_read, separated_read}
use Rattle.sql_front.specs.reading.Reading.{enclosed_read}
use Rattle.sql_front.specs.reading.Leaves.{name_read, number_read}

-- ---- lists of names whose last one is apart

-- the last of a list that has a first, and those before it
abbrev pub last_of : {A : Type 0} → A → List A → List A × A
last_of a [] = ([], a)
last_of a (b ∷ bs) = (a ∷ (last_of b bs).0, (last_of b bs).1)

-- the last of at least two
abbrev pub split_last : {A : Type 0} → List A → Option (List A × A)
split_last [] = None
split_last (a ∷ []) = None
split_last (a ∷ b ∷ bs) = Some (a ∷ (last_of b bs).0, (last_of b bs).1)

-- x { sep x } sep x: all of them are read, and the last is split off
unfoldable pub all_and_last_read : {A : Type 0} → (Lexeme → Bool) → Reader A → Reader (List A × A)
all_and_last_read sep p ts = do
  all ← separated_read sep p ts
  parts ← split_last all.0
  Some (parts, all.1)

-- the second token decides
abbrev pub second_is : (Lexeme → Bool) → List Lexeme → Bool
second_is test [] = false
second_is test (t ∷ rest) = begins test rest

-- a comma, then a name
unfoldable pub one_more_name : List Lexeme → Bool
one_more_name ts = begins comma ts && second_is name ts

-- ',' name, as long as a name follows the comma
unfoldable pub more_names_read : Reader (List (List ℕ))
more_names_read = repetition_read one_more_name (preceded_read comma name_read)

-- name { ',' name }, before a comma and a keyword
unfoldable pub leading_names_read : Reader (List (List ℕ))
leading_names_read =
    built_read (λ (v : List ℕ × List (List ℕ)). v.0 ∷ v.1) (sequence_read name_read more_names_read)

-- ---- columns

-- '(' num ')'
unfoldable pub length_read : Reader ℕ
length_read = enclosed_read number_read

-- TIMESTAMP [ '(' num ')' ]
unfoldable pub timestamp_read : Reader TypeName
timestamp_read =
    built_read Timestamp (preceded_read (keyword (codes "TIMESTAMP"))
    (optional_read (symbol (codes "(")) length_read))

-- INTEGER | DATE | VARCHAR '(' num ')' | CHARACTER VARYING '(' num ')' | TIMESTAMP ..
unfoldable pub type_read : Reader TypeName
type_read =
    choice_read (begins (keyword (codes "INTEGER")))
    (denotes_read Integer (keyword (codes "INTEGER")))
    (choice_read (begins (keyword (codes "DATE"))) (denotes_read Date (keyword (codes "DATE")))
    (choice_read (begins (keyword (codes "VARCHAR")))
    (built_read Varchar (preceded_read (keyword (codes "VARCHAR")) length_read))
    (choice_read (begins (keyword (codes "CHARACTER")))
    (built_read Varchar (preceded_read (keyword (codes "CHARACTER"))
    (preceded_read (keyword (codes "VARYING")) length_read)))
    timestamp_read)))

-- START | END
unfoldable pub row_end_read : Reader Generated
row_end_read =
    choice_read (begins (keyword (codes "START"))) (denotes_read Start (keyword (codes "START")))
    (denotes_read End (keyword (codes "END")))

-- GENERATED ALWAYS AS ROW ( START | END )
unfoldable pub generated_read : Reader Generated
generated_read =
    preceded_read (keyword (codes "GENERATED")) (preceded_read (keyword (codes "ALWAYS"))
    (preceded_read (keyword (codes "AS")) (preceded_read (keyword (codes "ROW")) row_end_read)))

-- NOT NULL
unfoldable pub not_null_read : Reader (Unit {0})
not_null_read = preceded_read (keyword (codes "NOT")) (fixed_read (keyword (codes "NULL")))

-- name type [ GENERATED .. ] [ NOT NULL ]
unfoldable pub column_element_read : Reader ColumnElement
column_element_read =
    built_read column_of (sequence_read name_read (sequence_read type_read
    (sequence_read (optional_read (keyword (codes "GENERATED")) generated_read)
    (optional_read (keyword (codes "NOT")) not_null_read))))

-- ---- periods

-- '(' name ',' name ')'
unfoldable pub pair_read : Reader (List ℕ × List ℕ)
pair_read = enclosed_read (sequence_read name_read (preceded_read comma name_read))

-- PERIOD FOR name, and its two columns
unfoldable pub period_element_read : Reader PeriodElement
period_element_read =
    preceded_read (keyword (codes "PERIOD")) (preceded_read (keyword (codes "FOR"))
    (built_read period_of (sequence_read name_read pair_read)))

-- PERIOD FOR SYSTEM_TIME, and its two columns
unfoldable pub system_element_read : Reader SystemElement
system_element_read =
    preceded_read (keyword (codes "PERIOD")) (preceded_read (keyword (codes "FOR"))
    (preceded_read (keyword (codes "SYSTEM_TIME")) (built_read system_of pair_read)))

-- ---- keys and references

-- WITHOUT OVERLAPS
unfoldable pub without_overlaps_read : Reader (Unit {0})
without_overlaps_read =
    preceded_read (keyword (codes "WITHOUT")) (fixed_read (keyword (codes "OVERLAPS")))

-- name { ',' name } ',' name
abbrev pub key_names_read : Reader (List (List ℕ) × List ℕ)
key_names_read = all_and_last_read comma name_read

-- '(' names WITHOUT OVERLAPS ')'
unfoldable pub key_list_read : Reader KeyElement
key_list_read =
    enclosed_read (built_read key_of (sequence_read key_names_read without_overlaps_read))

-- PRIMARY KEY, and its list
unfoldable pub key_element_read : Reader KeyElement
key_element_read =
    preceded_read (keyword (codes "PRIMARY")) (preceded_read (keyword (codes "KEY")) key_list_read)

-- ',' PERIOD name
unfoldable pub last_period_read : Reader (List ℕ)
last_period_read = preceded_read comma (preceded_read (keyword (codes "PERIOD")) name_read)

-- '(' name { ',' name } ',' PERIOD name ')'
unfoldable pub reference_list_read : Reader (List (List ℕ) × List ℕ)
reference_list_read = enclosed_read (sequence_read leading_names_read last_period_read)

-- REFERENCES name list
unfoldable pub parent_read : Reader (List ℕ × (List (List ℕ) × List ℕ))
parent_read =
    preceded_read (keyword (codes "REFERENCES")) (sequence_read name_read reference_list_read)

-- FOREIGN KEY list REFERENCES name list
unfoldable pub reference_element_read : Reader ReferenceElement
reference_element_read =
    preceded_read (keyword (codes "FOREIGN")) (preceded_read (keyword (codes "KEY"))
    (built_read reference_of (sequence_read reference_list_read parent_read)))

-- ---- elements

-- a system period or a period: the third token decides
unfoldable pub some_period_read : Reader Element
some_period_read =
    choice_read (third_is (keyword (codes "SYSTEM_TIME")))
    (built_read system_element system_element_read)
    (built_read period_element period_element_read)

-- a column if a name is first, or else by its keyword: a period, a key, a reference
unfoldable pub element_read : Reader Element
element_read =
    choice_read (begins name) (built_read column_element column_element_read)
    (choice_read (begins (keyword (codes "PERIOD"))) some_period_read
    (choice_read (begins (keyword (codes "PRIMARY"))) (built_read key_element key_element_read)
    (built_read reference_element reference_element_read)))

-- WITH SYSTEM VERSIONING
unfoldable pub versioning_read : Reader (Unit {0})
versioning_read =
    preceded_read (keyword (codes "WITH")) (preceded_read (keyword (codes "SYSTEM"))
    (fixed_read (keyword (codes "VERSIONING"))))

-- '(' element { ',' element } ')'
unfoldable pub elements_read : Reader (List Element)
elements_read = enclosed_read (separated_read comma element_read)

-- the definition after CREATE TABLE
unfoldable pub created_table_read : Reader CreateTable
created_table_read =
    built_read table_of (sequence_read name_read (sequence_read elements_read versioning_read))

-- CREATE TABLE, and what follows it
unfoldable pub create_read : Reader CreateTable
create_read =
    preceded_read (keyword (codes "CREATE"))
    (preceded_read (keyword (codes "TABLE")) created_table_read)

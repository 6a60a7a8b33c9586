-- CREATE TABLE leaves as much room for parentheses as it found.
use Rattle.std.proofs.Common.{ℕ, codes}
use Rattle.sql_statements.specs.declared.create.Generated.TheVariants.{Start, End}
use Rattle.sql_statements.specs.declared.create.TypeName.TheVariants.{Integer, Date, Varchar, Timestamp}
use Rattle.sql_front.specs.Builders.{column_of, period_of, system_of, key_of, reference_of, table_of, column_element, period_element, system_element, key_element, reference_element}
use Rattle.sql_front.proofs.ReadGrammar.{IsLength, IsType, IsGenerated, IsNotNull, IsColumnElement, IsPair, IsPeriodElement, IsSystemElement, IsWithoutOverlaps, IsKeyElement, IsReferenceList, IsReferenceElement, IsElement, IsVersioning, IsCreate}
use Rattle.sql_front.proofs.Levels.{Level, level_built, level_choice, level_enclosed_same, level_fixed, level_of_token, level_optional, level_preceded, level_separated, level_sequence, plain_keyword}
use Rattle.sql_front.proofs.NamesRead.{level_name, level_number, plain_comma}

-- ---- columns

level_length : (k : ℕ) → Level k IsLength IsLength
level_length k = level_enclosed_same k level_number

level_type : (k : ℕ) → Level k IsType IsType
level_type k =
    level_choice (level_of_token k Integer (plain_keyword (codes "INTEGER")))
    (level_choice (level_of_token k Date (plain_keyword (codes "DATE")))
    (level_choice (level_built Varchar (level_preceded (plain_keyword (codes "VARCHAR")) (level_length k)))
    (level_choice (level_built Varchar (level_preceded (plain_keyword (codes "CHARACTER"))
    (level_preceded (plain_keyword (codes "VARYING")) (level_length k))))
    (level_built Timestamp (level_preceded (plain_keyword (codes "TIMESTAMP")) (level_optional (level_length k)))))))

level_generated : (k : ℕ) → Level k IsGenerated IsGenerated
level_generated k =
    level_preceded (plain_keyword (codes "GENERATED")) (level_preceded (plain_keyword (codes "ALWAYS"))
    (level_preceded (plain_keyword (codes "AS")) (level_preceded (plain_keyword (codes "ROW"))
    (level_choice (level_of_token k Start (plain_keyword (codes "START")))
    (level_of_token k End (plain_keyword (codes "END")))))))

level_not_null : (k : ℕ) → Level k IsNotNull IsNotNull
level_not_null k = level_preceded (plain_keyword (codes "NOT")) (level_fixed k (plain_keyword (codes "NULL")))

level_column_element : (k : ℕ) → Level k IsColumnElement IsColumnElement
level_column_element k =
    level_built column_of (level_sequence (level_name k) (level_sequence (level_type k)
    (level_sequence (level_optional (level_generated k)) (level_optional (level_not_null k)))))

-- ---- periods

level_pair : (k : ℕ) → Level k IsPair IsPair
level_pair k =
    level_enclosed_same k (λ j. level_sequence (level_name j) (level_preceded plain_comma (level_name j)))

level_period_element : (k : ℕ) → Level k IsPeriodElement IsPeriodElement
level_period_element k =
    level_preceded (plain_keyword (codes "PERIOD")) (level_preceded (plain_keyword (codes "FOR"))
    (level_built period_of (level_sequence (level_name k) (level_pair k))))

level_system_element : (k : ℕ) → Level k IsSystemElement IsSystemElement
level_system_element k =
    level_preceded (plain_keyword (codes "PERIOD")) (level_preceded (plain_keyword (codes "FOR"))
    (level_preceded (plain_keyword (codes "SYSTEM_TIME")) (level_built system_of (level_pair k))))

-- ---- keys and references

level_without_overlaps : (k : ℕ) → Level k IsWithoutOverlaps IsWithoutOverlaps
level_without_overlaps k =
    level_preceded (plain_keyword (codes "WITHOUT")) (level_fixed k (plain_keyword (codes "OVERLAPS")))

level_key_element : (k : ℕ) → Level k IsKeyElement IsKeyElement
level_key_element k =
    level_preceded (plain_keyword (codes "PRIMARY")) (level_preceded (plain_keyword (codes "KEY"))
    (level_enclosed_same k (λ j. level_built key_of (level_sequence
    (level_sequence (level_separated plain_comma (level_name j)) (level_preceded plain_comma (level_name j)))
    (level_without_overlaps j)))))

level_reference_list : (k : ℕ) → Level k IsReferenceList IsReferenceList
level_reference_list k =
    level_enclosed_same k (λ j. level_sequence (level_separated plain_comma (level_name j))
    (level_preceded plain_comma (level_preceded (plain_keyword (codes "PERIOD")) (level_name j))))

level_reference_element : (k : ℕ) → Level k IsReferenceElement IsReferenceElement
level_reference_element k =
    level_preceded (plain_keyword (codes "FOREIGN")) (level_preceded (plain_keyword (codes "KEY"))
    (level_built reference_of (level_sequence (level_reference_list k)
    (level_preceded (plain_keyword (codes "REFERENCES")) (level_sequence (level_name k) (level_reference_list k))))))

-- ---- the table

level_element : (k : ℕ) → Level k IsElement IsElement
level_element k =
    level_choice (level_built column_element (level_column_element k))
    (level_choice (level_built system_element (level_system_element k))
    (level_choice (level_built period_element (level_period_element k))
    (level_choice (level_built key_element (level_key_element k))
    (level_built reference_element (level_reference_element k)))))

level_versioning : (k : ℕ) → Level k IsVersioning IsVersioning
level_versioning k =
    level_preceded (plain_keyword (codes "WITH")) (level_preceded (plain_keyword (codes "SYSTEM"))
    (level_fixed k (plain_keyword (codes "VERSIONING"))))

pub level_create : (k : ℕ) → Level k IsCreate IsCreate
level_create k =
    level_preceded (plain_keyword (codes "CREATE")) (level_preceded (plain_keyword (codes "TABLE"))
    (level_built table_of (level_sequence (level_name k) (level_sequence
    (level_enclosed_same k (λ j. level_separated plain_comma (level_element j))) (level_versioning k)))))

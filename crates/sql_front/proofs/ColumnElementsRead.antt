-- Columns of CREATE TABLE are read.
use Rattle.std.proofs.Common.{List, [], ◌∷◌, refl, codes}
use Rattle.sql_statements.specs.declared.create.Generated.TheVariants.{Start, End}
use Rattle.sql_statements.specs.declared.create.TypeName.{TypeName}
use Rattle.sql_statements.specs.declared.create.TypeName.TheVariants.{Integer, Date, Varchar, Timestamp}
use Rattle.sql_front.specs.Language.{Language, keyword, symbol, Built, Choice, Fixed, Optional, Preceded, Denotes}
use Rattle.sql_front.specs.Builders.{column_of, column_element}
use Rattle.sql_front.proofs.ReadGrammar.{IsLength, IsType, IsGenerated, IsNotNull, IsColumnElement}
use Rattle.sql_front.specs.reading.Reading.{Reader, built_read, preceded_read}
use Rattle.sql_front.specs.reading.ElementReaders.{length_read, type_read, row_end_read, generated_read, not_null_read, column_element_read, timestamp_read}
use Rattle.sql_front.proofs.First.{Starts, starts_built, starts_choice, starts_preceded, starts_sequence, starts_denotes}
use Rattle.sql_front.proofs.Laws.{Any, Reads, reads_both, reads_built, reads_fixed, reads_preceded, reads_denotes}
use Rattle.sql_front.proofs.Sorts.{Next, Sort, a_name, any_of, leads_optional, leads_sequence, reads_both_next, reads_choice_next, reads_enclosed_next, reads_next, reads_optional_next, sign, word}
use Rattle.sql_front.proofs.NamesRead.{reads_name, reads_number, starts_name}

-- the tokens that close a list
abbrev pub closing : List Sort
closing = sign (codes ")") ∷ []

-- the tokens that may follow an element
abbrev pub after_element : List Sort
after_element = sign (codes ",") ∷ closing

-- ---- types

reads_length : Reads IsLength Any length_read
unfolding length_read
reads_length = reads_enclosed_next closing refl (reads_next closing reads_number)

-- the tokens that may follow GENERATED .. or its absence
abbrev after_generated : List Sort
after_generated = word (codes "NOT") ∷ after_element

-- the tokens that may follow a type
abbrev after_type : List Sort
after_type = word (codes "GENERATED") ∷ after_generated

abbrev other_types_3 : List Sort
other_types_3 = word (codes "TIMESTAMP") ∷ []

abbrev other_types_2 : List Sort
other_types_2 = word (codes "CHARACTER") ∷ other_types_3

abbrev other_types_1 : List Sort
other_types_1 = word (codes "VARCHAR") ∷ other_types_2

abbrev other_types : List Sort
other_types = word (codes "DATE") ∷ other_types_1

-- TIMESTAMP [ '(' num ')' ]
abbrev IsTimestamp : Language TypeName
IsTimestamp = Built Timestamp (Preceded (keyword (codes "TIMESTAMP")) (Optional IsLength))

-- CHARACTER VARYING '(' num ')'
abbrev IsVarying : Language TypeName
IsVarying = Built Varchar (Preceded (keyword (codes "CHARACTER")) (Preceded (keyword (codes "VARYING")) IsLength))

-- VARCHAR '(' num ')'
abbrev IsVarchar : Language TypeName
IsVarchar = Built Varchar (Preceded (keyword (codes "VARCHAR")) IsLength)

starts_timestamp : Starts (any_of other_types_3) IsTimestamp
starts_timestamp = starts_built Timestamp (starts_preceded (keyword (codes "TIMESTAMP")) (Optional IsLength))

starts_varying : Starts (any_of (word (codes "CHARACTER") ∷ [])) IsVarying
starts_varying = starts_built Varchar (starts_preceded (keyword (codes "CHARACTER")) _)

starts_varchar : Starts (any_of (word (codes "VARCHAR") ∷ [])) IsVarchar
starts_varchar = starts_built Varchar (starts_preceded (keyword (codes "VARCHAR")) IsLength)

reads_timestamp : Reads IsTimestamp (Next after_type) timestamp_read
unfolding timestamp_read
reads_timestamp =
    reads_built Timestamp (reads_preceded (keyword (codes "TIMESTAMP"))
    (reads_optional_next (sign (codes "(") ∷ []) after_type refl (starts_preceded (symbol (codes "(")) _)
    (reads_next after_type reads_length)))

abbrev varying_read : Reader TypeName
varying_read = built_read Varchar (preceded_read (keyword (codes "CHARACTER")) (preceded_read (keyword (codes "VARYING")) length_read))

reads_varying : Reads IsVarying Any varying_read
reads_varying =
    reads_built Varchar (reads_preceded (keyword (codes "CHARACTER")) (reads_preceded (keyword (codes "VARYING")) reads_length))

-- the first of the keywords that is next decides the type
reads_type : Reads IsType (Next after_type) type_read
unfolding type_read
reads_type =
    let integer = starts_denotes Integer (keyword (codes "INTEGER")) in
    let date = starts_denotes Date (keyword (codes "DATE")) in
    let without_two = starts_choice starts_varchar (starts_choice starts_varying starts_timestamp) in
    reads_choice_next (word (codes "INTEGER") ∷ []) other_types refl integer (starts_choice date without_two)
    (reads_next after_type (reads_denotes Integer (keyword (codes "INTEGER"))))
    (reads_choice_next (word (codes "DATE") ∷ []) other_types_1 refl date without_two
    (reads_next after_type (reads_denotes Date (keyword (codes "DATE"))))
    (reads_choice_next (word (codes "VARCHAR") ∷ []) other_types_2 refl starts_varchar (starts_choice starts_varying starts_timestamp)
    (reads_next after_type (reads_built Varchar (reads_preceded (keyword (codes "VARCHAR")) reads_length)))
    (reads_choice_next (word (codes "CHARACTER") ∷ []) other_types_3 refl starts_varying starts_timestamp
    (reads_next after_type reads_varying)
    reads_timestamp)))

-- the reader of START or END
reads_row_end : Reads (Choice (Denotes Start (keyword (codes "START"))) (Denotes End (keyword (codes "END")))) Any row_end_read
unfolding row_end_read
reads_row_end =
    let start = starts_denotes Start (keyword (codes "START")) in
    let end = starts_denotes End (keyword (codes "END")) in
    reads_choice_next (word (codes "START") ∷ []) (word (codes "END") ∷ []) refl start end
    (reads_denotes Start (keyword (codes "START"))) (reads_denotes End (keyword (codes "END")))

-- ---- the words after a type

reads_generated : Reads IsGenerated Any generated_read
unfolding generated_read
reads_generated =
    reads_preceded (keyword (codes "GENERATED")) (reads_preceded (keyword (codes "ALWAYS"))
    (reads_preceded (keyword (codes "AS")) (reads_preceded (keyword (codes "ROW")) reads_row_end)))

starts_generated : Starts (any_of (word (codes "GENERATED") ∷ [])) IsGenerated
starts_generated = starts_preceded (keyword (codes "GENERATED")) _

reads_not_null : Reads IsNotNull Any not_null_read
unfolding not_null_read
reads_not_null = reads_preceded (keyword (codes "NOT")) (reads_fixed (keyword (codes "NULL")))

starts_not_null : Starts (any_of (word (codes "NOT") ∷ [])) IsNotNull
starts_not_null = starts_preceded (keyword (codes "NOT")) (Fixed (keyword (codes "NULL")))

pub reads_column_element : Reads IsColumnElement (Next after_element) column_element_read
unfolding column_element_read
reads_column_element =
    let a_generated = word (codes "GENERATED") ∷ [] in
    let a_not = word (codes "NOT") ∷ [] in
    let generated = reads_optional_next a_generated after_generated refl starts_generated (reads_next after_generated reads_generated) in
    let not_null = reads_optional_next a_not after_element refl starts_not_null (reads_next after_element reads_not_null) in
    let before_generated = leads_optional a_generated after_type after_generated refl refl starts_generated in
    let before_not_null = leads_optional a_not after_generated after_element refl refl starts_not_null in
    reads_built column_of (reads_both reads_name (reads_both_next reads_type
    (reads_both_next generated not_null before_not_null) (leads_sequence before_generated before_not_null)))

pub starts_column_element : Starts (any_of (a_name ∷ [])) (Built column_element IsColumnElement)
starts_column_element = starts_built column_element (starts_built column_of (starts_sequence _ starts_name))

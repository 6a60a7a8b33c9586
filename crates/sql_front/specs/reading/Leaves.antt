-- Reading names and literals from the front.
use Rattle.std.specs.Prelude.{ℕ, ℤ, List, codes}
use Rattle.period_core.specs.declared.value.Value.{Value}
use Rattle.period_core.specs.declared.value.Value.TheVariants as value
use Rattle.sql_statements.specs.Names.{upper}
use Rattle.sql_front.specs.Language.{keyword, symbol, number, text}
use Rattle.sql_front.specs.Builders.{number_of, text_of}
use Rattle.sql_front.specs.Grammar.{name, comma}
use Rattle.sql_front.specs.reading.LeafValues.{clock_value, day_value, moment_value, negative_value}
use Rattle.sql_front.specs.reading.LeafValues.{number_value}
use Rattle.sql_front.specs.reading.Reading.{Reader, begins, built_read, choice_read, enclosed_read}
use Rattle.sql_front.specs.reading.Reading.{one_read, preceded_or_not_read, preceded_read}
use Rattle.sql_front.specs.reading.Reading.{separated_read}

-- a word that is not reserved, in upper case
unfoldable pub name_read : Reader (List ℕ)
name_read = built_read upper (one_read name)

-- a number without a sign
unfoldable pub number_read : Reader ℕ
number_read = built_read number_value (one_read number)

-- TIMESTAMP text
unfoldable pub moment_read : Reader ℤ
moment_read = preceded_read (keyword (codes "TIMESTAMP")) (built_read moment_value (one_read text))

-- TIMESTAMP text, of a moment before the open end
unfoldable pub clock_moment_read : Reader ℤ
clock_moment_read =
    preceded_read (keyword (codes "TIMESTAMP")) (built_read clock_value (one_read text))

-- DATE text
unfoldable pub date_read : Reader ℤ
date_read = preceded_read (keyword (codes "DATE")) (built_read day_value (one_read text))

-- a number without a minus
unfoldable pub unsigned_read : Reader Value
unsigned_read = built_read number_of (preceded_or_not_read (symbol (codes "+")) number_read)

-- '-' number | text | date | [ '+' ] number: the first token decides
unfoldable pub literal_read : Reader Value
literal_read =
    choice_read (begins (symbol (codes "-")))
    (built_read value.Int (preceded_read (symbol (codes "-"))
    (built_read negative_value (one_read number))))
    (choice_read (begins text) (built_read text_of (one_read text))
    (choice_read (begins (keyword (codes "DATE"))) (built_read value.Date date_read)
    unsigned_read))

-- '(' name { ',' name } ')'
unfoldable pub names_read : Reader (List (List ℕ))
names_read = enclosed_read (separated_read comma name_read)

-- '(' literal { ',' literal } ')'
unfoldable pub tuple_read : Reader (List Value)
tuple_read = enclosed_read (separated_read comma literal_read)

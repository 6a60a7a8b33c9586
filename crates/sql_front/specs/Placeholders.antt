-- The meaning of literals as they are read: one that names no value has a stand-in.
use Rattle.sql_front.specs.reading.LeafValues.{clock_value, day_value, moment_value, negative_value}
use Rattle.sql_front.specs.reading.LeafValues.{number_value}
use Rattle.sql_front.specs.Language.{Built, OneToken, number, text}
use Rattle.sql_front.specs.Literals.{Literals}

-- each token is the value that is read of it
abbrev pub placeholders : Literals
placeholders = record {
  plain_number = Built number_value (OneToken number);
  minus_number = Built negative_value (OneToken number);
  day = Built day_value (OneToken text);
  moment = Built moment_value (OneToken text);
  clock_moment = Built clock_value (OneToken text);
}

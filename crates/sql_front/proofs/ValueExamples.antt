-- Worked rows: the values of names, numbers, texts, dates and moments, and what is wrong with literals.
use Rattle.std.proofs.Common.{◌≡◌, ℤ, pos, false, codes, refl}
use Rattle.sql_statements.specs.Names.{is_name, is_plain_word}
use Rattle.sql_statements.specs.Words.{is_reserved}
use Rattle.sql_front.specs.LiteralValues.{NamesClockMoment, NamesDay}
use Rattle.period_core.specs.TextReading.{date_at, date_parts_of, day_of_text, fraction_at, is_date, is_time, moment_of_text, six_of, time_at, time_parts_of}
use Rattle.sql_front.specs.reading.LeafValues.{clock_of_token, day_of_token, moment_of_token}
use Rattle.sql_front.proofs.LeafFacts.{clock_found, day_shown}
use Rattle.period_core.proofs.OptionFacts.{none_some}

-- ---- names, numbers and texts

reserved_is_none : is_name (codes "SELECT") ≡ false
unfolding is_name is_plain_word is_reserved
reserved_is_none = refl

-- ---- days

it_is_named : NamesDay (codes "'2010-01-01'") (pos 14_610)
unfolding day_of_token day_of_text date_at date_parts_of is_date
it_is_named = day_shown (codes "'2010-01-01'") (pos 14_610) refl

-- ---- moments

the_open_end_names_none : (m : ℤ) → NamesClockMoment (codes "'9999-12-31 23:59:59.999999'") m → ⊥
unfolding clock_of_token moment_of_token moment_of_text date_at time_at fraction_at date_parts_of time_parts_of six_of is_date is_time
the_open_end_names_none m h = none_some m (clock_found (codes "'9999-12-31 23:59:59.999999'") m h)

-- Reading system-time windows from the front.
use Rattle.std.specs.Prelude.{Bool, ℤ, Option, codes}
use Rattle.sql_statements.specs.Lexemes.{Lexeme}
use Rattle.sql_statements.specs.declared.statement.SystemTime.{SystemTime}
use Rattle.sql_statements.specs.declared.statement.SystemTime.TheVariants.{AsOf}
use Rattle.sql_front.specs.Language.{keyword}
use Rattle.sql_front.specs.Builders.{from_to_of, between_of}
use Rattle.sql_front.specs.reading.Reading.{Reader, begins, sequence_read, built_read, choice_read}
use Rattle.sql_front.specs.reading.Reading.{optional_read, preceded_read}
use Rattle.sql_front.specs.reading.Leaves.{moment_read, clock_moment_read}

-- two moments with a token between them
unfoldable pub two_moments_read : (Lexeme → Bool) → Reader (ℤ × ℤ)
two_moments_read between = sequence_read moment_read (preceded_read between moment_read)

-- AS OF moment | FROM moment TO moment | BETWEEN moment AND moment
unfoldable pub window_read : Reader SystemTime
window_read =
    choice_read (begins (keyword (codes "AS")))
    (built_read AsOf (preceded_read (keyword (codes "AS"))
    (preceded_read (keyword (codes "OF")) clock_moment_read)))
    (choice_read (begins (keyword (codes "FROM")))
    (built_read from_to_of (preceded_read (keyword (codes "FROM"))
    (two_moments_read (keyword (codes "TO")))))
    (built_read between_of (preceded_read (keyword (codes "BETWEEN"))
    (two_moments_read (keyword (codes "AND"))))))

-- [ FOR SYSTEM_TIME window ]
unfoldable pub for_window_read : Reader (Option SystemTime)
for_window_read =
    optional_read (keyword (codes "FOR"))
    (preceded_read (keyword (codes "FOR"))
    (preceded_read (keyword (codes "SYSTEM_TIME")) window_read))

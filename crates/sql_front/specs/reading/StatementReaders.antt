-- Reading stored queries and statements from the front.
use Rattle.std.specs.Prelude.{ℕ, codes}
use Rattle.sql_front.specs.Language.{keyword, symbol}
use Rattle.sql_statements.specs.Trees.{Statement, Stored, at, create, delete, insert, sequenced}
use Rattle.sql_statements.specs.Trees.{stored, update}
use Rattle.sql_front.specs.Builders.{stored_of}
use Rattle.sql_front.specs.reading.Reading.{Reader, begins, built_read, choice_read, preceded_read}
use Rattle.sql_front.specs.reading.Reading.{sequence_read}
use Rattle.sql_front.specs.reading.Leaves.{name_read}
use Rattle.sql_front.specs.reading.ConditionReaders.{where_read}
use Rattle.sql_front.specs.reading.WindowReaders.{for_window_read}
use Rattle.sql_front.specs.reading.PredicateReaders.{stored_test_read}
use Rattle.sql_front.specs.reading.QueryReaders.{sequenced_read}
use Rattle.sql_front.specs.reading.ElementReaders.{create_read}
use Rattle.sql_front.specs.reading.ChangeReaders.{at_read, delete_read, insert_read, update_read}

-- the query after SELECT * FROM
unfoldable pub stored_table_read : ℕ → Reader Stored
stored_table_read n =
    built_read stored_of (sequence_read name_read
    (sequence_read for_window_read (where_read stored_test_read n)))

-- SELECT * FROM, and what follows it
unfoldable pub stored_read : ℕ → Reader Stored
stored_read n =
    preceded_read (keyword (codes "SELECT")) (preceded_read (symbol (codes "*"))
    (preceded_read (keyword (codes "FROM")) (stored_table_read n)))

-- ---- a statement, by its first keyword

-- a query: VALIDTIME, or else a stored one
unfoldable pub query_statement_read : ℕ → Reader Statement
query_statement_read n =
    choice_read (begins (keyword (codes "VALIDTIME"))) (built_read sequenced (sequenced_read n))
    (built_read stored (stored_read n))

-- neither AT nor CREATE
unfoldable pub later_statement_read : ℕ → Reader Statement
later_statement_read n =
    choice_read (begins (keyword (codes "INSERT"))) (built_read insert insert_read)
    (choice_read (begins (keyword (codes "UPDATE"))) (built_read update (update_read n))
    (choice_read (begins (keyword (codes "DELETE"))) (built_read delete (delete_read n))
    (query_statement_read n)))

-- a statement whose parentheses nest at most n deep
unfoldable pub statement_read : ℕ → Reader Statement
statement_read n =
    choice_read (begins (keyword (codes "AT"))) (built_read at at_read)
    (choice_read (begins (keyword (codes "CREATE"))) (built_read create create_read)
    (later_statement_read n))

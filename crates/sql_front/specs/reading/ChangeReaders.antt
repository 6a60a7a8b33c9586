-- Reading AT and the statements that change rows from the front.
use Rattle.std.specs.Prelude.{ℕ, ℤ, List, Option, codes}
use Rattle.sql_statements.specs.declared.statement.Assignment.{Assignment}
use Rattle.sql_statements.specs.declared.statement.InsertRows.{InsertRows}
use Rattle.sql_statements.specs.declared.statement.Portion.{Portion}
use Rattle.sql_front.specs.Language.{keyword, symbol}
use Rattle.period_core.specs.declared.value.Value.{Value}
use Rattle.sql_statements.specs.declared.statement.Compare.{Compare}
use Rattle.sql_statements.specs.Trees.{Condition, Delete, Update}
use Rattle.sql_front.specs.Builders.{assignment_of, delete_of, portion_of, rows_of, update_of}
use Rattle.sql_front.specs.Grammar.{comma}
use Rattle.sql_front.specs.reading.Reading.{Reader, built_read, optional_read, preceded_read}
use Rattle.sql_front.specs.reading.Reading.{separated_read, sequence_read}
use Rattle.sql_front.specs.reading.Leaves.{clock_moment_read, date_read, literal_read, name_read}
use Rattle.sql_front.specs.reading.Leaves.{names_read, tuple_read}
use Rattle.sql_front.specs.reading.ConditionReaders.{compare_read, where_read}

-- AT moment
unfoldable pub at_read : Reader ℤ
at_read = preceded_read (keyword (codes "AT")) clock_moment_read

-- [ '(' name { ',' name } ')' ]
unfoldable pub columns_read : Reader (Option (List (List ℕ)))
columns_read = optional_read (symbol (codes "(")) names_read

-- VALUES tuple { ',' tuple }
unfoldable pub values_read : Reader (List (List Value))
values_read = preceded_read (keyword (codes "VALUES")) (separated_read comma tuple_read)

-- the rows after INSERT INTO
unfoldable pub inserted_read : Reader InsertRows
inserted_read =
    built_read rows_of (sequence_read name_read (sequence_read columns_read values_read))

-- INSERT INTO, and what follows it
unfoldable pub insert_read : Reader InsertRows
insert_read =
    preceded_read (keyword (codes "INSERT")) (preceded_read (keyword (codes "INTO")) inserted_read)

-- FROM date TO date
unfoldable pub bounds_read : Reader (ℤ × ℤ)
bounds_read =
    preceded_read (keyword (codes "FROM"))
    (sequence_read date_read (preceded_read (keyword (codes "TO")) date_read))

-- name FROM date TO date
unfoldable pub named_portion_read : Reader Portion
named_portion_read = built_read portion_of (sequence_read name_read bounds_read)

-- FOR PORTION OF name FROM date TO date
unfoldable pub in_portion_read : Reader Portion
in_portion_read =
    preceded_read (keyword (codes "FOR")) (preceded_read (keyword (codes "PORTION"))
    (preceded_read (keyword (codes "OF")) named_portion_read))

-- [ FOR PORTION OF name FROM date TO date ]
unfoldable pub portion_read : Reader (Option Portion)
portion_read = optional_read (keyword (codes "FOR")) in_portion_read

-- name '=' literal
unfoldable pub assignment_read : Reader Assignment
assignment_read =
    built_read assignment_of (sequence_read name_read
    (preceded_read (symbol (codes "=")) literal_read))

-- SET assignment { ',' assignment } [ WHERE cond ]
unfoldable pub set_read : ℕ → Reader (List Assignment × Option (Condition Compare))
set_read n =
    preceded_read (keyword (codes "SET"))
    (sequence_read (separated_read comma assignment_read) (where_read compare_read n))

-- UPDATE name [ FOR PORTION OF .. ] SET .., with parentheses at most n deep
unfoldable pub update_read : ℕ → Reader Update
update_read n =
    preceded_read (keyword (codes "UPDATE"))
    (built_read update_of (sequence_read name_read (sequence_read portion_read (set_read n))))

-- the statement after DELETE FROM
unfoldable pub deleted_read : ℕ → Reader Delete
deleted_read n =
    built_read delete_of (sequence_read name_read
    (sequence_read portion_read (where_read compare_read n)))

-- DELETE FROM, and what follows it
unfoldable pub delete_read : ℕ → Reader Delete
delete_read n =
    preceded_read (keyword (codes "DELETE"))
    (preceded_read (keyword (codes "FROM")) (deleted_read n))

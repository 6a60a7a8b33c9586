-- The elements of a CREATE TABLE, of whatever kind.
use Rattle.std.specs.Prelude.{◌+◌, ◌<◌, length}
use Rattle.sql_statements.specs.declared.create.CreateTable.{CreateTable}

-- the CREATE TABLE has an element of some kind
abbrev pub HasElement : CreateTable → Type 0
HasElement t =
    0 < length t.columns + length t.periods + length t.system_periods
    + length t.keys + length t.references

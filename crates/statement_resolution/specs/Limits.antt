-- The limits of a query: how many there may be at most.
use Rattle.std.specs.Prelude.{ℕ}

-- items of a select list
abbrev pub most_items : ℕ
most_items = 32

-- table references of a select
abbrev pub most_select_tables : ℕ
most_select_tables = 4

-- set operators of a query, nested ones counted
abbrev pub most_operators : ℕ
most_operators = 16

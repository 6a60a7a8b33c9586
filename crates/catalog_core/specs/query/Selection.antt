-- The value columns of a table, by their names, and the columns of an answer.
use Rattle.std.specs.Prelude.{◌&&◌, ℕ, Bool, not, Option, Some, bytes_eq}
use Rattle.std.specs.List.{enumerate_from, list_any, position}
use Rattle.catalog_core.specs.table.Naming.{Name}
use Rattle.catalog_core.specs.table.TableWords.{is_value_column, value_names}
use Rattle.catalog_core.specs.declared.query.AnswerColumn.{AnswerColumn}
use Rattle.catalog_core.specs.declared.table.Column.{Column}
use Rattle.catalog_core.specs.declared.table.TableDef.{TableDef}

-- a column of this name is no value column
unfoldable pub names_non_value_column : TableDef → Name → Bool
names_non_value_column t name =
    list_any (λ (c : ℕ × Column). bytes_eq name c.1.name && not (is_value_column t c))
    (enumerate_from 0 t.columns)

-- the position of the value column of this name among a row's values
unfoldable pub value_position : TableDef → Name → Option ℕ
value_position t name = position (bytes_eq name) (value_names t)

-- the parts of a column of the answer
abbrev pub item_parts : AnswerColumn → Option ℕ × Name
item_parts item = (Some item.position, item.name)

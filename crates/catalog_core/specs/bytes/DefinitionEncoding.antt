-- The bytes of a table's definition.
use Rattle.std.specs.Prelude.{◌≡◌, ◌&&◌, ℕ, Bool, true, List, nat_lt}
use Rattle.std.specs.List.{All, list_all}
use Rattle.period_core.specs.Encoding.{IsColumnValue, encoded}
use Rattle.sql_statements.specs.Names.{is_name}
use Rattle.catalog_core.specs.Limits.{table_number_limit}
use Rattle.catalog_core.specs.bytes.DefinitionValues.{definition_values}
use Rattle.catalog_core.specs.declared.table.Column.{Column}
use Rattle.catalog_core.specs.declared.table.Reference.{Reference}
use Rattle.catalog_core.specs.declared.table.TableDef.{TableDef}

-- the names are names, and the parents' numbers are below 256
abbrev pub is_writable : TableDef → Bool
is_writable d =
    is_name d.name
    && (list_all (λ (c : Column). is_name c.name) d.columns
    && (is_name d.period.name
    && list_all (λ (r : Reference). nat_lt r.parent table_number_limit) d.references))

-- the bytes are the encoding of this definition, each of whose values is one that a column holds
abbrev pub EncodesDefinition : TableDef → List ℕ → Type 0
EncodesDefinition d bytes =
    (is_writable d ≡ true)
    × All IsColumnValue (definition_values d)
    × (encoded (definition_values d) ≡ bytes)

-- the bytes are some definition's
abbrev pub IsDefinitionEncoding : List ℕ → Type 0
IsDefinitionEncoding bytes = (d : TableDef) × EncodesDefinition d bytes

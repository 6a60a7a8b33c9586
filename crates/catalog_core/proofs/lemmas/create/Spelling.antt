-- The CREATE that spells a definition, with names for places.
-- If a name is sought that is missing, the table's own name is in its place: no CREATE that is
-- accepted gives such a definition.
use Rattle.std.specs.Prelude.{◌∷◌, ℕ, Bool, List, [], Option, Some, None, map, slice_get, unwrap_or}
use Rattle.std.specs.List.{position_or_len}
use Rattle.sql_statements.specs.declared.create.TypeName.{TypeName}
use Rattle.sql_statements.specs.declared.create.TypeName.TheVariants as type_name
use Rattle.sql_statements.specs.declared.create.Generated.{Generated}
use Rattle.sql_statements.specs.declared.create.Generated.TheVariants.{Start, End}
use Rattle.sql_statements.specs.declared.create.ColumnElement.{ColumnElement}
use Rattle.sql_statements.specs.declared.create.CreateTable.{CreateTable}
use Rattle.sql_statements.specs.declared.create.PeriodElement.{PeriodElement}
use Rattle.sql_statements.specs.declared.create.SystemElement.{SystemElement}
use Rattle.sql_statements.specs.declared.create.KeyElement.{KeyElement}
use Rattle.sql_statements.specs.declared.create.ReferenceElement.{ReferenceElement}
use Rattle.catalog_core.specs.create.Places.{is_row_end, is_row_start}
use Rattle.catalog_core.specs.table.Naming.{Name}
use Rattle.catalog_core.specs.table.TableWords.{table_of}
use Rattle.catalog_core.specs.declared.table.Column.{Column}
use Rattle.catalog_core.specs.declared.table.ColumnKind.{ColumnKind}
use Rattle.catalog_core.specs.declared.table.ColumnKind.TheVariants.{Integer, Varchar, Date}
use Rattle.catalog_core.specs.declared.table.ColumnKind.TheVariants.{RowStart, RowEnd}
use Rattle.catalog_core.specs.declared.table.Reference.{Reference}
use Rattle.catalog_core.specs.declared.table.TableDef.{TableDef}

-- the type by which a column is declared
abbrev pub spelled_type : ColumnKind → TypeName
spelled_type Integer = type_name.Integer
spelled_type (Varchar n) = type_name.Varchar n
spelled_type Date = type_name.Date
spelled_type (RowStart p) = type_name.Timestamp p
spelled_type (RowEnd p) = type_name.Timestamp p

-- the side of the period that a column is generated as
abbrev pub spelled_side : ColumnKind → Option Generated
spelled_side Integer = None
spelled_side (Varchar n) = None
spelled_side Date = None
spelled_side (RowStart p) = Some Start
spelled_side (RowEnd p) = Some End

-- a column as CREATE TABLE spells it
abbrev pub spelled_column : Column → ColumnElement
spelled_column x =
    record { name = x.name; kind = spelled_type x.kind; generated = spelled_side x.kind }

-- the name of an element that may be missing, or another name
abbrev pub name_or : {X : Type 0} → (X → Name) → Name → Option X → Name
name_or named other None = other
name_or named other (Some x) = named x

-- the name of the element at a place
abbrev pub name_at : {X : Type 0} → (X → Name) → Name → List X → ℕ → Name
name_at named other xs place = name_or named other (slice_get xs place)

-- the name of the column of a table at a place
abbrev pub named : Name → TableDef → ℕ → Name
named other t place = name_at (λ (x : Column). x.name) other t.columns place

-- the place of the first column of such a kind
abbrev pub first_of : (ColumnKind → Bool) → TableDef → ℕ
first_of test d = position_or_len (λ (x : Column). test x.kind) d.columns

-- the application period as CREATE TABLE spells it
abbrev pub spelled_period : TableDef → PeriodElement
spelled_period d =
    record {
      name = d.period.name;
      start = named d.name d d.period.start;
      end = named d.name d d.period.end;
    }

-- SYSTEM_TIME as CREATE TABLE spells it
abbrev pub spelled_system : TableDef → SystemElement
spelled_system d =
    record {
      start = named d.name d (first_of is_row_start d);
      end = named d.name d (first_of is_row_end d);
    }

-- the key as CREATE TABLE spells it
abbrev pub spelled_key : TableDef → KeyElement
spelled_key d = record { columns = map (named d.name d) d.key; period = d.period.name }

-- a reference to a parent as CREATE TABLE spells it
abbrev pub reference_to : TableDef → TableDef → Reference → ReferenceElement
reference_to d parent r =
    record {
      columns = map (named d.name d) r.own;
      period = d.period.name;
      parent = parent.name;
      parent_columns = map (named d.name parent) r.keys;
      parent_period = parent.period.name;
    }

-- a reference as CREATE TABLE spells it, to the table of its number
abbrev pub spelled_reference : List TableDef → TableDef → Reference → ReferenceElement
spelled_reference tables d r = reference_to d (unwrap_or (table_of tables r.parent) d) r

-- a CREATE for a definition
abbrev pub create_of : List TableDef → TableDef → CreateTable
create_of tables d =
    record {
      name = d.name;
      columns = map spelled_column d.columns;
      periods = spelled_period d ∷ [];
      system_periods = spelled_system d ∷ [];
      keys = spelled_key d ∷ [];
      references = map (spelled_reference tables d) d.references;
    }

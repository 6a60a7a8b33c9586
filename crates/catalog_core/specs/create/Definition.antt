-- CREATE TABLE: the definition that it gives, with places for names.
use Rattle.std.specs.Prelude.{◌==◌, ◌||◌, ◌∷◌, ◌≡◌, ℕ, Bool, List, [], Option, Some, None}
use Rattle.std.specs.Prelude.{filter_map, length, map, not}
use Rattle.std.specs.Option.{option_map}
use Rattle.sql_statements.specs.declared.create.TypeName.{TypeName}
use Rattle.sql_statements.specs.declared.create.TypeName.TheVariants.{Integer, Date, Varchar}
use Rattle.sql_statements.specs.declared.create.TypeName.TheVariants.{Timestamp}
use Rattle.sql_statements.specs.declared.create.Generated.{Generated}
use Rattle.sql_statements.specs.declared.create.Generated.TheVariants.{Start, End}
use Rattle.sql_statements.specs.declared.create.ColumnElement.{ColumnElement}
use Rattle.sql_statements.specs.declared.create.PeriodElement.{PeriodElement}
use Rattle.sql_statements.specs.declared.create.KeyElement.{KeyElement}
use Rattle.sql_statements.specs.declared.create.ReferenceElement.{ReferenceElement}
use Rattle.sql_statements.specs.declared.create.CreateTable.{CreateTable}
use Rattle.catalog_core.specs.table.IsDefinition.{is_reference}
use Rattle.catalog_core.specs.table.Naming.{Name, place_among}
use Rattle.catalog_core.specs.table.TableWords.{def_place, number_of, table_of_name}
use Rattle.catalog_core.specs.declared.table.Column.{Column}
use Rattle.catalog_core.specs.declared.table.ColumnKind.{ColumnKind}
use Rattle.catalog_core.specs.declared.table.ColumnKind.TheVariants as kind
use Rattle.catalog_core.specs.declared.table.Reference.{Reference}
use Rattle.catalog_core.specs.declared.table.TableDef.{TableDef}

-- the kind of a declared column, if its type is not refused
unfoldable pub declared_kind : TypeName → Option Generated → Option ColumnKind
declared_kind Integer None = Some kind.Integer
declared_kind Integer (Some side) = None
declared_kind Date None = Some kind.Date
declared_kind Date (Some side) = None
declared_kind (Varchar n) None = Some (kind.Varchar n)
declared_kind (Varchar n) (Some side) = None
declared_kind (Timestamp p) None = None
declared_kind (Timestamp p) (Some Start) = Some (kind.RowStart p)
declared_kind (Timestamp p) (Some End) = Some (kind.RowEnd p)

-- a column of a name and a kind
abbrev pub column_with : Name → ColumnKind → Column
column_with name kind = record { name = name; kind = kind }

-- a declared column, if its type is not refused
abbrev pub column_of : ColumnElement → Option Column
column_of x = option_map (column_with x.name) (declared_kind x.kind x.generated)

-- the declared columns, without those whose type is refused
abbrev pub columns_of : CreateTable → List Column
columns_of c = filter_map column_of c.columns

-- the place of the column with a name
abbrev pub own_place : CreateTable → Name → Option ℕ
own_place c name = place_among (λ (x : ColumnElement). x.name) c.columns name

-- the places of the columns with the names, without those that match none
abbrev pub own_places : CreateTable → List Name → List ℕ
own_places c names = filter_map (own_place c) names

-- the table that a reference names, if it exists: the one that is being created is not
abbrev pub parent_of : List TableDef → ReferenceElement → Option TableDef
parent_of catalog r = table_of_name catalog r.parent

-- the places of the columns that a reference names in its parent, without those that match none
abbrev pub parent_places : TableDef → ReferenceElement → List ℕ
parent_places t x = filter_map (def_place t) x.parent_columns

-- a column by its name and what it holds
abbrev pub declared_column : ColumnElement → Name × Option ColumnKind
declared_column x = (x.name, declared_kind x.kind x.generated)

-- the name and the kind of a column of the definition
abbrev pub column_parts : Column → Name × Option ColumnKind
column_parts x = (x.name, Some x.kind)

-- the application period by its name and the places of its columns
abbrev pub declared_period : CreateTable → PeriodElement → Name × Option ℕ × Option ℕ
declared_period c x = (x.name, own_place c x.start, own_place c x.end)

-- a key by the places of its columns
abbrev pub declared_key : CreateTable → KeyElement → List (Option ℕ)
declared_key c x = map (own_place c) x.columns

-- a reference by its parent's number, its own columns and its parent's
abbrev pub Numbers : Type 0
Numbers = Option ℕ × List (Option ℕ) × Option (List (Option ℕ))

-- the parts of a reference as it is written
unfoldable pub declared_reference : List TableDef → CreateTable → ReferenceElement → Numbers
declared_reference catalog c x = (
  number_of catalog x.parent,
  map (own_place c) x.columns,
  option_map (λ (t : TableDef). map (def_place t) x.parent_columns) (parent_of catalog x),
)

-- the parts of a reference of the definition
abbrev pub reference_parts : Reference → Numbers
reference_parts r = (Some r.parent, map Some r.own, Some (map Some r.keys))

-- a reference is as a definition's are, unless its lists are of unequal length
abbrev pub is_reference_if_equal : ℕ → Reference → Bool
is_reference_if_equal count r = not (length r.own == length r.keys) || is_reference count r

-- the definition has what the elements declare, with places for names
pub record Defines (catalog : List TableDef) (c : CreateTable) (d : TableDef) : Type 0 where
  pub name : d.name ≡ c.name
  pub columns : map declared_column c.columns ≡ map column_parts d.columns
  pub period :
      map (declared_period c) c.periods
      ≡ (d.period.name, Some d.period.start, Some d.period.end) ∷ []
  pub key : map (declared_key c) c.keys ≡ map Some d.key ∷ []
  pub references :
      map (declared_reference catalog c) c.references ≡ map reference_parts d.references

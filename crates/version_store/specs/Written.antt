-- A store's contents as the rows of its three tables.
use Rattle.std.specs.Prelude.{ℕ, List, map}
use Rattle.std.specs.List.{AllByRecursion}
use Rattle.period_core.specs.Encoding.{encoded}
use Rattle.catalog_core.specs.bytes.DefinitionEncoding.{EncodesDefinition}
use Rattle.catalog_core.specs.bytes.DefinitionValues.{definition_values}
use Rattle.catalog_core.specs.declared.table.TableDef.{TableDef}
use Rattle.sqlite.specs.Effect.{Database}
use Rattle.version_tables.specs.Forms.{form_number}
use Rattle.version_tables.specs.Healthy.{IsHealthy, IsShort}
use Rattle.version_tables.specs.Represents.{Records, Represents, Version}
use Rattle.version_tables.specs.declared.form.Form.{Form}
use Rattle.version_tables.specs.declared.form.Form.TheVariants.{Microseconds}
use Rattle.version_store.specs.Contents.{Contents, HaveColumnValues, TableVersion}

-- a version with its values as bytes
abbrev pub written_version : TableVersion → Version
written_version v = record {
  table = v.table;
  values = encoded v.values;
  start = v.start;
  end = v.end;
  from = v.from;
  to = v.to;
}

-- the bytes of a definition
abbrev pub written_table : TableDef → List ℕ
written_table definition = encoded (definition_values definition)

-- a definition that can be read from its bytes
abbrev pub IsReadable : TableDef → Type 0
IsReadable definition = EncodesDefinition definition (written_table definition)

-- the rows of the three tables in a store of the form
abbrev pub written_in : Form → Contents → Records
written_in form c = record {
  form = form_number form;
  clock = c.clock;
  tables = map written_table c.tables;
  versions = map written_version c.versions;
}

-- the database is of the form and has these contents, in its unit, and they can be read from their
-- bytes
pub record HasIn (form : Form) (db : Database) (c : Contents) : Type 0 where
  pub rows : Represents db (written_in form c)
  pub definitions : AllByRecursion IsReadable c.tables
  pub values : HaveColumnValues c.versions

-- each version is short as it is written
abbrev pub HaveShortValues : List TableVersion → Type 0
HaveShortValues = AllByRecursion (λ v. IsShort (encoded v.values))

-- the database is healthy and each version is short: a store of form 1 of which this holds is moved
-- unless memory runs out or the database fails
pub record IsMovable (db : Database) (c : Contents) : Type 0 where
  pub healthy : IsHealthy 0 db
  pub short : HaveShortValues c.versions

-- the rows in microseconds, in which a store in use counts
abbrev pub written : Contents → Records
written = written_in Microseconds

-- the database is of form 2 and has these contents
abbrev pub Has : Database → Contents → Type 0
Has = HasIn Microseconds

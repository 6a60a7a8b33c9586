-- The table of a number, by its name.
use Rattle.std.proofs.Common.{◌≡◌, ◌∙◌, ℕ, List, Some, ap}
use Rattle.std.specs.Option.{option_and_then}
use Rattle.catalog_core.specs.table.Naming.{Name}
use Rattle.catalog_core.specs.table.TableWords.{number_of, table_of, table_of_name}
use Rattle.catalog_core.specs.declared.table.TableDef.{TableDef}

-- a name with a number names the table of that number
pub table_named : (catalog : List TableDef) (name : Name) (number : ℕ) (t : TableDef) → number_of catalog name ≡ Some number → table_of catalog number ≡ Some t → table_of_name catalog name ≡ Some t
unfolding table_of_name
table_named catalog name number t numbered there = ap (option_and_then (table_of catalog)) numbered ∙ there

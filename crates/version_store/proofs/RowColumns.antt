-- The value columns of a table from a place on, in a loop over a row's values.
use Rattle.std.proofs.Common.{ℕ, List, drop, filter}
use Rattle.std.specs.List.{enumerate_from}
use Rattle.catalog_core.specs.table.TableWords.{is_value_column}
use Rattle.catalog_core.specs.declared.table.Column.{Column}
use Rattle.catalog_core.specs.declared.table.TableDef.{TableDef}

abbrev pub columns_from : TableDef → ℕ → List (ℕ × Column)
columns_from t place = filter (is_value_column t) (enumerate_from place (drop place t.columns))

-- A table's definition as one list of values.
use Rattle.std.specs.Prelude.{◌∷◌, ◌++◌, ℕ, ℤ, pos, neg_ℤ, List, [], Option, Some, None, length}
use Rattle.std.specs.List.{flat_map}
use Rattle.period_core.specs.declared.value.Value.{Value}
use Rattle.period_core.specs.declared.value.Value.TheVariants.{Int, Text}
use Rattle.catalog_core.specs.declared.table.Column.{Column}
use Rattle.catalog_core.specs.declared.table.ColumnKind.{ColumnKind}
use Rattle.catalog_core.specs.declared.table.ColumnKind.TheVariants.{Integer, Varchar, Date}
use Rattle.catalog_core.specs.declared.table.ColumnKind.TheVariants.{RowStart, RowEnd}
use Rattle.catalog_core.specs.declared.table.PeriodColumns.{PeriodColumns}
use Rattle.catalog_core.specs.declared.table.Reference.{Reference}
use Rattle.catalog_core.specs.declared.table.TableDef.{TableDef}

-- a number that counts something, or a place from 0
abbrev pub number : ℕ → Value
number n = Int (pos n)

-- a place as one value
abbrev pub place_values : ℕ → List Value
place_values place = number place ∷ []

-- the precision of a system column, or -1 if none was written
abbrev pub written_precision : Option ℕ → ℤ
written_precision None = neg_ℤ (pos 1)
written_precision (Some p) = pos p

-- 1 INTEGER, 2 VARCHAR(n), 3 DATE, 4 ROW START, 5 ROW END; then n, the precision, or 0
abbrev pub kind_values : ColumnKind → List Value
kind_values Integer = number 1 ∷ number 0 ∷ []
kind_values (Varchar n) = number 2 ∷ number n ∷ []
kind_values Date = number 3 ∷ number 0 ∷ []
kind_values (RowStart p) = number 4 ∷ Int (written_precision p) ∷ []
kind_values (RowEnd p) = number 5 ∷ Int (written_precision p) ∷ []

-- the column's name, then what it holds
abbrev pub column_values : Column → List Value
column_values c = Text c.name ∷ kind_values c.kind

-- the period's name and the places of its columns
abbrev pub period_values : PeriodColumns → List Value
period_values p = Text p.name ∷ number p.start ∷ number p.end ∷ []

-- the number of the elements, then each one's values
abbrev pub counted : {X : Type 0} → (X → List Value) → List X → List Value
counted values xs = number (length xs) ∷ flat_map values xs

-- the parent's number, how many columns there are, the own ones and the parent's in the same order
abbrev pub reference_values : Reference → List Value
reference_values r = number r.parent ∷ counted place_values r.own ++ flat_map place_values r.keys

-- the name, the columns, the application period, the key, the references
abbrev pub definition_values : TableDef → List Value
definition_values d =
    Text d.name
    ∷ counted column_values d.columns
    ++ period_values d.period
    ++ counted place_values d.key
    ++ counted reference_values d.references

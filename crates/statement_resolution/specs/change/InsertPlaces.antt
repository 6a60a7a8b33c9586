-- INSERT with places for names: the columns that a row's values are given for, by their places.
use Rattle.std.specs.Prelude.{◌≡◌, ◌==◌, ℕ, ℤ, Bool, false, not, List, Option, Some, find, map}
use Rattle.std.specs.Prelude.{slice_get}
use Rattle.std.specs.List.{list_any, position, zip}
use Rattle.std.specs.Option.{option_map}
use Rattle.period_core.specs.declared.value.Value.{Value}
use Rattle.period_core.specs.declared.value.Value.TheVariants.{Date}
use Rattle.statement_resolution.specs.change.Insertion.{given_names, is_longer}
use Rattle.catalog_core.specs.table.Kinds.{kind_of_column, kind_of_value, same_kind}
use Rattle.catalog_core.specs.table.Naming.{Name, passes}
use Rattle.statement_resolution.specs.change.Resolution.{RowParts}
use Rattle.catalog_core.specs.table.TableWords.{def_place, is_system, value_columns}
use Rattle.statement_resolution.specs.declared.change.insert_values.ValueFault.{ValueFault}
use Rattle.statement_resolution.specs.declared.change.insert_values.ValueFault.TheVariants as fault
use Rattle.statement_resolution.specs.declared.change.row_positions.RowPositions.{RowPositions}
use Rattle.catalog_core.specs.declared.table.Column.{Column}
use Rattle.catalog_core.specs.declared.table.ColumnKind.{ColumnKind}
use Rattle.catalog_core.specs.declared.table.TableDef.{TableDef}
use Rattle.catalog_core.specs.declared.table.ValueKind.TheVariants.{Text}

-- the names that a row's values are given for are the names of the columns at these places
abbrev pub ArePlaces : TableDef → Option (List Name) → List ℕ → Type 0
ArePlaces t list places = map (def_place t) (given_names t list) ≡ map Some places

-- a value is wrong in one of the two ways for a column of the kind
unfoldable pub is_faulty_for : ValueFault → ColumnKind → Value → Bool
is_faulty_for fault.Kind kind value = not (same_kind (kind_of_column kind) (kind_of_value value))
is_faulty_for fault.Length kind value = is_longer kind value

-- the value for the column at a place is wrong in one of the two ways
unfoldable pub is_faulty_at : ValueFault → List Column → ℕ × Value → Bool
is_faulty_at way columns given =
    passes (λ (x : Column). is_faulty_for way x.kind given.1) (slice_get columns given.0)

-- a value of the row is wrong for the column at its place
unfoldable pub gives_faulty_value_at : ValueFault → List Column → List ℕ → List Value → Bool
gives_faulty_value_at way columns places row =
    list_any (λ (given : ℕ × Value). is_faulty_at way columns given) (zip places row)

-- some row gives a wrong value
unfoldable pub has_faulty_value_at : ValueFault → List Column → List ℕ → List (List Value) → Bool
has_faulty_value_at way columns places rows =
    list_any (λ (row : List Value). gives_faulty_value_at way columns places row) rows

-- the column at a place takes texts
unfoldable pub takes_text : List Column → ℕ → Bool
takes_text columns place =
    passes (λ (x : Column). same_kind (kind_of_column x.kind) Text) (slice_get columns place)

-- values are given for a column that takes texts
unfoldable pub gives_text : List Column → List ℕ → Bool
gives_text columns places = list_any (λ (place : ℕ). takes_text columns place) places

-- ==== a row by places ====

-- the value that a row gives for the column at a place
unfoldable pub value_at : List ℕ → List Value → ℕ → Option Value
value_at places row place =
    option_map (λ (given : ℕ × Value). given.1)
    (find (λ (given : ℕ × Value). given.0 == place) (zip places row))

-- the values that the row gives for each value column in declared order, and its period's start and
-- end
abbrev pub row_at : TableDef → List ℕ → List Value → RowParts
row_at t places row =
    record {
      values = map (λ (c : ℕ × Column). value_at places row c.0) (value_columns t);
      start = value_at places row t.period.start;
      end = value_at places row t.period.end;
    }

-- ==== a row by the positions of its values ====

-- the position, among a row's values, of the one for the column at a place
unfoldable pub position_for : List ℕ → ℕ → Option ℕ
position_for places place = position (λ (given : ℕ). given == place) places

-- there is one
abbrev pub HasPosition : List ℕ → ℕ → Type 0
HasPosition places place = (k : ℕ) × (position_for places place ≡ Some k)

-- there is one for each column that is no system column
abbrev pub HasPositions : TableDef → List ℕ → Type 0
HasPositions t places =
    (i : ℕ) (x : Column) → slice_get t.columns i ≡ Some x → is_system x.kind ≡ false
    → HasPosition places i

-- the positions of the values for the value columns, in declared order, and for the start
-- and the end of the period
pub record ArePositions (t : TableDef) (places : List ℕ) (at : RowPositions) : Type 0 where
  pub values :
      map (λ (c : ℕ × Column). position_for places c.0) (value_columns t)
      ≡ map (λ (k : ℕ). Some k) at.values.items
  pub start : position_for places t.period.start ≡ Some at.start
  pub end : position_for places t.period.end ≡ Some at.end

-- the parts of a row at the positions
abbrev pub parts_at : RowPositions → List Value → RowParts
parts_at at row =
    record {
      values = map (λ (k : ℕ). slice_get row k) at.values.items;
      start = slice_get row at.start;
      end = slice_get row at.end;
    }

-- the row gives a date at the position
abbrev pub HasDate : List Value → ℕ → Type 0
HasDate row position = (day : ℤ) × (slice_get row position ≡ Some (Date day))

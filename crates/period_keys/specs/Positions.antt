-- The positions of the columns of a key or of a reference among a row's values.
use Rattle.std.specs.Prelude.{◌==◌, ℕ, List, Option, filter_map, map}
use Rattle.std.specs.List.{position}
use Rattle.catalog_core.specs.table.TableWords.{value_columns}
use Rattle.catalog_core.specs.declared.table.Column.{Column}
use Rattle.catalog_core.specs.declared.table.TableDef.{TableDef}

-- the places of the value columns among the declared ones: a row has a value for each of them
abbrev pub value_places : TableDef → List ℕ
value_places def = map (λ (c : ℕ × Column). c.0) (value_columns def)

-- the position, among a row's values, of the value column that is declared at this place
abbrev pub value_position_of : TableDef → ℕ → Option ℕ
value_position_of def place = position (λ other. place == other) (value_places def)

-- the positions of several places, as of a key or of a reference, in their order; a period column
-- and a system column have no value in a row
abbrev pub positions_of_places : TableDef → List ℕ → List ℕ
positions_of_places def places = filter_map (value_position_of def) places

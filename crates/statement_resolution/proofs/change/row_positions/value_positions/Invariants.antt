use Rattle.std.specs.Prelude.{◌≡◌, ℕ, Some, map}
use Rattle.catalog_core.proofs.lemmas.table.Numbered.{kept_before}
use Rattle.statement_resolution.specs.change.InsertPlaces.{position_for}
use Rattle.catalog_core.specs.table.TableWords.{is_value_column}
use Rattle.catalog_core.specs.declared.table.Column.{Column}
use Rattle.statement_resolution.proofs.change.row_positions.value_positions.Given as goal

abbrev pub invariant-loop-i : goal.invariant-loop-i
invariant-loop-i l =
    kept_before (is_value_column l.table) (λ (c : ℕ × Column). position_for l.places c.0) l.columns l.i
    ≡ map (λ (k : ℕ). Some k) l.positions.items

-- A select by its combined rows: what the rest of its references adds to the first values of one.
use Rattle.std.specs.Prelude.{◌≡◌, ◌++◌, ℤ, IsTrue, List, Contains}
use Rattle.std.specs.Borrow.{Bor}
use Rattle.period_core.specs.declared.row.PeriodRow.{PeriodRow}
use Rattle.period_core.specs.declared.value.Value.{Value}
use Rattle.temporal_model.specs.Snapshot.{InSnapshot}
use Rattle.catalog_core.specs.declared.query.resolved.QueryReference.{QueryReference}
use Rattle.catalog_core.specs.declared.query.resolved.Select.{Select}
use Rattle.history_model.specs.OrdinaryQuery.{VisibleRows, InProduct, IsProjection, meets_all}
use Rattle.snapshot_audit.specs.declared.combined_rows.CombinedOutput.{CombinedOutput}
use Rattle.snapshot_audit.specs.declared.combined_rows.CombinedOutput.TheVariants.{Front}
use Rattle.snapshot_audit.specs.declared.combined_rows.CombinedOutput.TheVariants.{SelectList}
use Rattle.snapshot_audit.specs.ActiveRows.{RowReferences}

-- the combined row meets every ON and WHERE, and this is the select list's row of it
abbrev pub IsSelected : Select → List Value → List Value → Type 0
IsSelected select values row =
    IsTrue (meets_all select.conjuncts values) × IsProjection select.items values row

-- the select list's row of a combined row that begins with these values
abbrev pub InRest : VisibleRows → Select → List QueryReference → List Value → List Value → Type 0
InRest Sees select references front row =
    (rest : List Value) × InProduct Sees references rest × IsSelected select (front ++ rest) row

-- the values of one of the rows come next
abbrev pub InRests : VisibleRows → Select → List QueryReference → List Value → RowReferences
    → List Value → Type 0
InRests Sees select references front active row =
    (next : Bor PeriodRow) × Contains active next
    × InRest Sees select references (front ++ next.now.values) row

-- ---- over periods

-- some combined row that begins with these values meets every ON and WHERE
abbrev pub CanMeet : Select → List Value → Type 0
CanMeet select front =
    (rest : List Value) × IsTrue (meets_all select.conjuncts (front ++ rest))

-- the output of a combined row: its own values, or the select list's row of it if it meets every ON
-- and WHERE
abbrev pub IsKept : Select → CombinedOutput → List Value → List Value → Type 0
IsKept select Front values row = values ≡ row
IsKept select SelectList values row = IsSelected select values row

-- the select list's rows of the combined rows that begin with values that these rows hold on the
-- day, and continue with rows of the references
abbrev pub InRestOn : (ℤ → VisibleRows) → Select → List QueryReference → List PeriodRow → ℤ
    → List Value → Type 0
InRestOn Sees select references fronts day row =
    (front : List Value) × InSnapshot fronts day front
    × InRest (Sees day) select references front row

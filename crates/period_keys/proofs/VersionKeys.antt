-- The periods of a key among versions are those among their rows.
use Rattle.std.proofs.Common.{◌≡◌, ◌++◌, ◌∷◌, [], ℕ, Bool, true, false, cond, List, map, refl, ap, subst}
use Rattle.std.specs.Prelude.{IsPermutation, filter}
use Rattle.std.proofs.lemmas.List.{map-append}
use Rattle.std.proofs.lemmas.List.Sorted.{IsPermutation-map, IsPermutation-refl}
use Rattle.period_core.specs.declared.period.Period.{Period}
use Rattle.period_core.specs.declared.row.PeriodRow.{PeriodRow}
use Rattle.period_core.specs.declared.value.Value.{Value}
use Rattle.period_core.specs.declared.version.VersionRow.{VersionRow}
use Rattle.history_model.specs.Versions.{row_of}
use Rattle.period_keys.specs.Index.{AreAtKeys, has_key, periods_of_key}
use Rattle.period_keys.specs.LookUps.{periods_of_rows}
use Rattle.period_keys.specs.Rows.{RowsByKey}
use Rattle.period_keys.specs.Versions.{is_of_key, period_of}

periods_same : (positions : List ℕ) (key : List Value) (rows : List VersionRow) → map period_of (filter (is_of_key positions key) rows) ≡ periods_of_key positions (map row_of rows) key
periods_same positions key [] = refl
periods_same positions key (v ∷ rows) = by_test (is_of_key positions key v) (periods_same positions key rows)
  where
    by_test : (b : Bool) → map period_of (filter (is_of_key positions key) rows) ≡ periods_of_key positions (map row_of rows) key
        → map period_of (cond b (v ∷ filter (is_of_key positions key) rows) (filter (is_of_key positions key) rows))
        ≡ map (λ (row : PeriodRow). row.period) (cond b (row_of v ∷ filter (has_key positions key) (map row_of rows)) (filter (has_key positions key) (map row_of rows)))
    by_test true e = ap (λ (ps : List Period). v.period ∷ ps) e
    by_test false e = e

-- the periods of a table's current rows at each key
pub at_keys : (table : RowsByKey) → AreAtKeys table.positions (map row_of table.rows) (periods_of_rows table)
at_keys table = λ key. subst (IsPermutation (periods_of_rows table key)) (periods_same table.positions key table.rows) (IsPermutation-refl (periods_of_rows table key))

-- the rows of versions, some of which go
pub rows_split : (all ended stay : List VersionRow) → IsPermutation all (ended ++ stay) → IsPermutation (map row_of all) (map row_of ended ++ map row_of stay)
rows_split all ended stay moved = subst (IsPermutation (map row_of all)) (map-append row_of ended stay) (IsPermutation-map row_of all (ended ++ stay) moved)

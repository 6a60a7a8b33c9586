-- Worked rows: which tables are a query's.
use Rattle.std.proofs.Common.{◌≡◌, ◌∷◌, ℕ, pos, true, false, List, [], codes, refl}
use Rattle.period_core.proofs.Periods.{period_over}
use Rattle.period_core.specs.declared.row.PeriodRow.{PeriodRow}
use Rattle.period_core.specs.declared.value.Value.{Value}
use Rattle.period_core.specs.declared.value.Value.TheVariants.{Int, Text}
use Rattle.period_core.specs.declared.window.Window.TheVariants.{Now}
use Rattle.sql_statements.specs.declared.tree.SetOperator.TheVariants.{Union}
use Rattle.catalog_core.specs.declared.query.resolved.QueryReference.{QueryReference}
use Rattle.catalog_core.specs.declared.query.resolved.Select.{Select}
use Rattle.catalog_core.specs.declared.table.ValueKind.TheVariants as kind
use Rattle.catalog_core.specs.query.Fitting.{fits}
use Rattle.catalog_core.specs.query.Queries.{Query, both, one}
use Rattle.catalog_core.specs.table.Kinds.{same_kind}

-- table 1, of an integer and a text
abbrev reference : ℕ → QueryReference
reference place =
    record { place = place; table = 1; window = Now; kinds = kind.Integer ∷ kind.Text ∷ [] }

abbrev over : ℕ → ℕ → Select
over first second =
    record { references = reference first ∷ reference second ∷ []; conjuncts = []; items = [] }

abbrev pair : Query
pair = one (over 0 1)

abbrev row : List Value → PeriodRow
row values = record { values = values; period = period_over (pos 1) (pos 9) refl }

abbrev whole : List PeriodRow
whole = row (Int (pos 3) ∷ Text (codes "A") ∷ []) ∷ []

record Fit : Type 0 where
  other_kind : fits pair ([] ∷ (row (Int (pos 3) ∷ Int (pos 3) ∷ []) ∷ []) ∷ []) ≡ false
  of_both_sides : fits (both Union pair (one (over 2 3))) (whole ∷ [] ∷ whole ∷ [] ∷ []) ≡ true

fit : Fit
unfolding same_kind
fit = record {
  other_kind = refl;
  of_both_sides = refl;
}

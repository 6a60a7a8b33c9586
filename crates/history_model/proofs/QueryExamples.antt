-- Worked rows of the ordinary query on a day: a join, a union, a difference and an intersection, over
-- lists of period rows and over a history.
use Rattle.std.proofs.Common.{◌∷◌, ◌++◌, ℕ, pos, true, List, [], codes, refl, arith}
use Rattle.std.proofs.lemmas.Bool.{and_from}
use Rattle.period_core.proofs.Periods.{period_over}
use Rattle.period_core.specs.declared.period.Period.{Period}
use Rattle.period_core.specs.declared.row.PeriodRow.{PeriodRow}
use Rattle.period_core.specs.declared.value.Value.{Value}
use Rattle.period_core.specs.declared.value.Value.TheVariants.{Int, Text}
use Rattle.period_core.specs.declared.window.Window.{Window}
use Rattle.period_core.specs.declared.window.Window.TheVariants.{Now, AsOf}
use Rattle.sql_statements.specs.declared.statement.Comparison.TheVariants.{Equal}
use Rattle.sql_statements.specs.declared.tree.SetOperator.TheVariants.{Except, Intersect}
use Rattle.sql_statements.specs.declared.tree.Tree.TheVariants.{Test}
use Rattle.catalog_core.proofs.lemmas.conditions.Truth.{test_truth}
use Rattle.catalog_core.specs.Conditions.{compares, meets}
use Rattle.catalog_core.specs.declared.condition.Comparand.TheVariants.{Position}
use Rattle.catalog_core.specs.declared.condition.CompareValues.{CompareValues}
use Rattle.catalog_core.specs.declared.query.resolved.QueryReference.{QueryReference}
use Rattle.catalog_core.specs.declared.query.resolved.Select.{Select}
use Rattle.catalog_core.specs.declared.table.ValueKind.TheVariants as kind
use Rattle.catalog_core.specs.query.Queries.{both, one}
use Rattle.history_model.proofs.ChangeExamples.{history, promoted, saw, sees_now, worker}
use Rattle.history_model.specs.OrdinaryQuery.{InAnswerOn, InAnswerOver}

-- table 1, of an integer and a text
abbrev reference : ℕ → QueryReference
reference place =
    record { place = place; table = 1; window = Now; kinds = kind.Integer ∷ kind.Text ∷ [] }

abbrev days : Period
days = period_over (pos 1) (pos 9) refl

abbrev later_days : Period
later_days = period_over (pos 5) (pos 12) refl

abbrev tools : List Value
tools = Int (pos 3) ∷ Text (codes "A") ∷ []

abbrev shop : List Value
shop = Int (pos 3) ∷ Text (codes "B") ∷ []

abbrev tables : List (List PeriodRow)
tables =
    (record { values = tools; period = days } ∷ [])
    ∷ (record { values = shop; period = later_days } ∷ [])
    ∷ []

-- the values at 0 and at 2 are the same
abbrev same_number : CompareValues
same_number = record { left = Position 0; comparison = Equal; right = Position 2 }

-- the second text and the number, of two references joined by their numbers
abbrev joined : Select
joined =
    record {
      references = reference 0 ∷ reference 1 ∷ [];
      conjuncts = Test same_number ∷ [];
      items =
          record { position = 3; name = codes "NAME" }
          ∷ record { position = 0; name = codes "DNO" }
          ∷ [];
    }

abbrev combined_row : List Value
combined_row = Int (pos 3) ∷ Text (codes "A") ∷ Int (pos 3) ∷ Text (codes "B") ∷ []

abbrev answer_row : List Value
answer_row = Text (codes "B") ∷ Int (pos 3) ∷ []

-- on day 6 both rows hold
in_join : InAnswerOver (one joined) tables (pos 6) answer_row
in_join = (
  combined_row,
  (tools, shop, (0, omega arith, refl), (shop, [], (0, omega arith, refl), refl, refl), refl),
  and_from (meets (Test same_number) combined_row) true
      (test_truth (compares combined_row) same_number) refl,
  refl,
)

-- on day 10 the first does not hold any more
not_in_join : (row : List Value) → InAnswerOver (one joined) tables (pos 10) row → ⊥
not_in_join row (values, (first, rest, (place, inside, is), others, made), met, its) = omega arith

-- the text and the number of the second list's rows, which hold on day 10 too
abbrev second : Select
second =
    record {
      references = reference 1 ∷ [];
      conjuncts = [];
      items =
          record { position = 1; name = codes "NAME" }
          ∷ record { position = 0; name = codes "DNO" }
          ∷ [];
    }

in_second : InAnswerOver (one second) tables (pos 10) answer_row
in_second = (shop, (shop, [], (0, omega arith, refl), refl, refl), refl, refl)

in_difference : InAnswerOver (both Except (one second) (one joined)) tables (pos 10) answer_row
in_difference = (
  in_second,
  λ h. not_in_join answer_row h,
)

-- on day 6 both selects give the row, on day 10 the second alone
in_intersection : InAnswerOver (both Intersect (one joined) (one second)) tables (pos 6) answer_row
in_intersection = (
  in_join,
  (shop, (shop, [], (0, omega arith, refl), refl, refl), refl, refl),
)

-- ---- over a history: the past of an employee with the present

abbrev through : ℕ → Window → QueryReference
through place window =
    record {
      place = place;
      table = 1;
      window = window;
      kinds = kind.Integer ∷ kind.Integer ∷ [];
    }

-- the department as of the moment 199, and that now
abbrev past_and_present : Select
past_and_present =
    record {
      references = through 0 (AsOf (pos 199)) ∷ through 1 Now ∷ [];
      conjuncts = Test same_number ∷ [];
      items =
          record { position = 1; name = codes "WAS" }
          ∷ record { position = 3; name = codes "IS" }
          ∷ [];
    }

abbrev both_rows : List Value
both_rows = worker ++ promoted

in_past_and_present
    : InAnswerOn history (one past_and_present) (pos 12) (Int (pos 3) ∷ Int (pos 4) ∷ [])
in_past_and_present = (
  both_rows,
  (worker, promoted, saw, (promoted, [], sees_now, refl, refl), refl),
  and_from (meets (Test same_number) both_rows) true
      (test_truth (compares both_rows) same_number) refl,
  refl,
)

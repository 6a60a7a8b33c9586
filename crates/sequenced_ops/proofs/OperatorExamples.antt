-- Worked rows: what each operator gives on a day.
use Rattle.std.proofs.Common.{◌≡◌, true, ℤ, pos, List, [], ◌∷◌, refl, inr}
use Rattle.period_core.proofs.Periods.{are_ends, period_over}
use Rattle.period_core.specs.declared.value.Value.{Value}
use Rattle.period_core.specs.declared.value.Value.TheVariants.{Int}
use Rattle.period_core.specs.declared.row.PeriodRow.{PeriodRow}
use Rattle.temporal_model.proofs.Members.{Contains-here, Contains-nil}
use Rattle.sql_statements.specs.declared.statement.Comparison.TheVariants.{Equal}
use Rattle.sql_statements.specs.declared.tree.Tree as code
use Rattle.catalog_core.proofs.lemmas.conditions.Truth.{test_truth}
use Rattle.catalog_core.specs.Conditions.{compares}
use Rattle.catalog_core.specs.declared.condition.Comparand.TheVariants.{Position}
use Rattle.catalog_core.specs.declared.condition.CompareValues.{CompareValues}
use Rattle.sequenced_ops.specs.Operations.{InDifference, InIntersection, InJoin, InUnion, ReadsColumns}

abbrev row_over : (values : List Value) (start end : ℤ) → are_ends start end ≡ true → PeriodRow
row_over values start end ends = record { values = values; period = period_over start end ends }

-- the value 7 from day 1 to day 9
abbrev lefts : List PeriodRow
lefts = row_over (Int (pos 7) ∷ []) (pos 1) (pos 9) refl ∷ []

-- the value 7 from day 4 to day 6
abbrev rights : List PeriodRow
rights = row_over (Int (pos 7) ∷ []) (pos 4) (pos 6) refl ∷ []

-- ---- set operations

both_on_day_5 : InIntersection lefts rights (pos 5) (Int (pos 7) ∷ [])
both_on_day_5 = (Contains-here _ [], Contains-here _ [])

left_alone_on_day_6 : InDifference lefts rights (pos 6) (Int (pos 7) ∷ [])
left_alone_on_day_6 = (Contains-here _ [], λ there. Contains-nil _ there)

not_left_alone_on_day_5 : InDifference lefts rights (pos 5) (Int (pos 7) ∷ []) → ⊥
not_left_alone_on_day_5 (here, not) = not (Contains-here _ [])

either_on_day_2 : InUnion rights lefts (pos 2) (Int (pos 7) ∷ [])
either_on_day_2 = inr (Contains-here _ [])

-- ---- positions

second_before_first : ReadsColumns (1 ∷ 0 ∷ []) (Int (pos 7) ∷ Int (pos 9) ∷ []) (Int (pos 9) ∷ Int (pos 7) ∷ [])
second_before_first = refl

-- ---- joins

-- the values 1 and 7 from day 4 to day 6
abbrev pairs : List PeriodRow
pairs = row_over (Int (pos 1) ∷ Int (pos 7) ∷ []) (pos 4) (pos 6) refl ∷ []

-- the first column equals the third
abbrev first_is_third : CompareValues
first_is_third = record { comparison = Equal; left = Position 0; right = Position 2 }

joined_on_day_5 : InJoin (code.Test first_is_third) lefts pairs (pos 5) (Int (pos 7) ∷ Int (pos 1) ∷ Int (pos 7) ∷ [])
joined_on_day_5 = (
  (Int (pos 7) ∷ [], Int (pos 1) ∷ Int (pos 7) ∷ [], Contains-here _ [], Contains-here _ [], refl),
  test_truth (compares (Int (pos 7) ∷ Int (pos 1) ∷ Int (pos 7) ∷ [])) first_is_third,
)

none_joined_on_day_6 : (values : List Value) → InJoin (code.Test first_is_third) lefts pairs (pos 6) values → ⊥
none_joined_on_day_6 values ((first, second, in_left, in_right, is), met) = Contains-nil second in_right

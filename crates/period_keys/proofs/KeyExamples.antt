-- Worked rows: two rows that meet share no day of their key, two that overlap by a day share it; a child is uncovered on the day after its parent's last.
use Rattle.std.proofs.Common.{◌≡◌, ◌<ℤ◌, ◌≤ℤ◌, zero, suc, ℤ, pos, true, List, [], ◌∷◌, inl, inr, refl, ap, arith, subst, sym}
use Rattle.std.proofs.lemmas.Int.{ints}
use Rattle.period_core.specs.declared.value.Value.TheVariants.{Int}
use Rattle.period_core.specs.declared.row.PeriodRow.{PeriodRow}
use Rattle.period_core.proofs.Periods.{are_ends, period_over}
use Rattle.temporal_model.proofs.Members.{Contains-here, Contains-one}
use Rattle.sql_statements.specs.declared.statement.Comparison.TheVariants.{Equal}
use Rattle.sql_statements.specs.declared.tree.Tree as code
use Rattle.sql_statements.specs.Trees.{Condition}
use Rattle.catalog_core.proofs.lemmas.conditions.Truth.{test_view}
use Rattle.catalog_core.specs.declared.condition.Comparand.TheVariants.{Literal, Position}
use Rattle.catalog_core.specs.declared.condition.CompareValues.{CompareValues}
use Rattle.period_keys.specs.FixedKeys.{AreSaidEqual, IsComparison, SaysWithin, States}
use Rattle.period_keys.specs.Keys.{ShareKeyOn, IsKeyClash, IsUncovered}

-- key 1 with the department, over a period
abbrev row_over : (department start end : ℤ) → are_ends start end ≡ true → PeriodRow
row_over department start end ends = record { values = Int (pos 1) ∷ Int department ∷ []; period = period_over start end ends }

abbrev first : PeriodRow
first = row_over (pos 3) (pos 1) (pos 32) refl

abbrev meeting : PeriodRow
meeting = row_over (pos 4) (pos 32) (pos 60) refl

abbrev overlapping : PeriodRow
overlapping = row_over (pos 4) (pos 31) (pos 60) refl

overlap-clashes : IsKeyClash (0 ∷ []) (first ∷ overlapping ∷ []) (pos 31)
overlap-clashes = (0, 1, omega arith, omega arith, λ d. (refl, ((omega (arith, ints), omega (arith, ints)), (omega (arith, ints), omega (arith, ints)))))

meeting-no_clash : (day : ℤ) → IsKeyClash (0 ∷ []) (first ∷ meeting ∷ []) day → ⊥
meeting-no_clash day (zero, zero, lt, below, both) = omega arith
meeting-no_clash day (zero, suc zero, lt, below, both) =
    let pair : ShareKeyOn (0 ∷ []) day first meeting = both first in
    let ends : day <ℤ pos 32 = pair.1.0.1 in
    let starts : pos 32 ≤ℤ day = pair.1.1.0 in
    omega (arith, ints)
meeting-no_clash day (zero, suc (suc j), lt, below, both) = omega arith
meeting-no_clash day (suc i, j, lt, below, both) = omega arith

-- the parent's key is the child's second column
uncovered-after_end : IsUncovered (1 ∷ []) (row_over (pos 1) (pos 10) (pos 40) refl ∷ []) (0 ∷ []) (first ∷ []) (pos 32)
uncovered-after_end = (
  row_over (pos 1) (pos 10) (pos 40) refl,
  Contains-here (row_over (pos 1) (pos 10) (pos 40) refl) [],
  (omega (arith, ints), omega (arith, ints)),
  λ (parent, there, same, (from, to)).
      let end : pos 32 ≡ parent.period.end = ap (λ (r : PeriodRow). r.period.end) (Contains-one first parent there) in omega (arith, ints),
)

-- ---- the value that `1 = 3 AND 3 = 7` fixes, if places are counted from 0 and the values are numbers

abbrev equal_to_fourth : CompareValues
equal_to_fourth = record { left = Position 1; comparison = Equal; right = Position 3 }

abbrev fourth_is_seven : CompareValues
fourth_is_seven = record { left = Literal (Int (pos 7)); comparison = Equal; right = Position 3 }

abbrev both_conditions : List (code.Tree CompareValues)
both_conditions = code.Test equal_to_fourth ∷ code.Test fourth_is_seven ∷ []

-- the second of two values from place 0 on is said to be 7
through_an_equal_place : SaysWithin both_conditions 0 2 Equal 1 (Int (pos 7))
through_an_equal_place = (
  omega arith,
  (
    3,
    AreSaidEqual.further AreSaidEqual.itself (0, code.Test equal_to_fourth, omega arith, refl, (equal_to_fourth, refl, refl, inl (refl, refl))),
    (1, code.Test fourth_is_seven, omega arith, refl, subst (λ (c : Condition CompareValues). States (IsComparison Equal) c 3 (Int (pos 7))) (sym (test_view fourth_is_seven)) (inr (refl, refl, refl))),
  ),
)

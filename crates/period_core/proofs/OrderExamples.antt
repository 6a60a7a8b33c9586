-- Worked comparisons of values, periods, rows and versions, by computation.
use Rattle.std.proofs.Common.{◌≡◌, ℤ, refl, [], ◌∷◌, pos, neg_ℤ}
use Rattle.std.specs.Prelude.{codes}
use Rattle.std.specs.declared.cmp.Ordering.TheVariants.{Less, Greater}
use Rattle.period_core.specs.Order.{value_cmp, values_cmp, period_cmp, row_cmp, version_cmp}
use Rattle.period_core.proofs.Periods.{period_over}
use Rattle.period_core.specs.contracts.period.PeriodOrd.TheImpl as period_impl
use Rattle.period_core.specs.contracts.row.PeriodRowOrd.TheImpl as row_impl
use Rattle.period_core.specs.declared.period.Period.{Period}
use Rattle.period_core.specs.declared.row.PeriodRow.{PeriodRow}
use Rattle.period_core.specs.declared.value.Value.TheVariants.{Int, Text, Date}
use Rattle.period_core.specs.declared.version.VersionRow.{VersionRow}

integer-before-text : value_cmp (Int (pos 9)) (Text []) ≡ Less
integer-before-text = refl

text-before-date : value_cmp (Text (codes "zz")) (Date (neg_ℤ (pos 719_162))) ≡ Less
text-before-date = refl

-- texts are compared by bytes: '9' comes after '10'
texts-by-bytes : value_cmp (Text (codes "9")) (Text (codes "10")) ≡ Greater
texts-by-bytes = refl

first-column-decides :
    values_cmp (Int (pos 1) ∷ Int (pos 9) ∷ []) (Int (pos 2) ∷ Int (pos 0) ∷ []) ≡ Less
first-column-decides = refl

-- ---- periods

-- three periods: from day 3 and before day 9, from day 3 and before day 5, from day 4 and before day 5
abbrev three_to_nine : Period
three_to_nine = period_over (pos 3) (pos 9) refl

abbrev three_to_five : Period
three_to_five = period_over (pos 3) (pos 5) refl

abbrev four_to_five : Period
four_to_five = period_over (pos 4) (pos 5) refl

-- the comparison of periods that the code runs is the one that is defined
period-its_order : (a b : Period) → (period_impl.ghosts).cmp a b ≡ period_cmp a b
period-its_order a b = refl

-- if two periods start on one day, their ends decide
earlier_end-second : (period_impl.ghosts).cmp three_to_five three_to_nine ≡ Less
earlier_end-second = refl

-- ---- rows over a period

-- the comparison of rows that the code runs is the one that is defined
row-its_order : (a b : PeriodRow) → (row_impl.ghosts).cmp a b ≡ row_cmp a b
row-its_order a b = refl

-- ---- versions

abbrev version_over : ℤ → Period → ℤ → ℤ → VersionRow
version_over n period from to = record { values = Int n ∷ []; period = period; from = from; to = to }

-- after the values the start of the period decides, whatever the system times
version-start_second :
    version_cmp (version_over (pos 7) three_to_nine (pos 60) (pos 61))
    (version_over (pos 7) four_to_five (pos 50) (pos 51)) ≡ Less
version-start_second = refl

-- after it the start of the system time decides: the version of the earlier one is first, though its period
-- ends later
version-from_third :
    version_cmp (version_over (pos 7) three_to_nine (pos 50) (pos 60))
    (version_over (pos 7) three_to_five (pos 60) (pos 70)) ≡ Less
version-from_third = refl

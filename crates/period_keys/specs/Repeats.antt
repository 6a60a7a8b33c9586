-- Rows of keys in order: which days two of them share, and what one step over them finds.
use Rattle.std.specs.Prelude.{◌≡◌, ◌<ℤ◌, ◌≤ℤ◌, ◌<◌, ℕ, ℤ, List, Option, MatchOption}
use Rattle.std.specs.Prelude.{slice_index_or}
use Rattle.std.specs.Cmp.{IsTotalOrder}
use Rattle.std.proofs.lemmas.Cmp.{int_cmp_total, on_total, then_total}
use Rattle.period_core.specs.Order.{row_cmp}
use Rattle.period_core.specs.OrderLaws.{values_cmp_total}
use Rattle.period_core.specs.declared.row.PeriodRow.{PeriodRow}
use Rattle.period_keys.specs.Keys.{BothHold, SomePair, key_values}

-- the order of rows is total
abbrev pub row_cmp_total : IsTotalOrder row_cmp
row_cmp_total =
    then_total (on_total (λ (r : PeriodRow). r.values) values_cmp_total)
    (then_total (on_total (λ (r : PeriodRow). r.period.start) int_cmp_total)
    (on_total (λ (r : PeriodRow). r.period.end) int_cmp_total))

-- the row with the values of its key alone
abbrev pub key_row : List ℕ → PeriodRow → PeriodRow
key_row positions row = record { values = key_values positions row; period = row.period }

-- the two rows are value-equivalent, and both hold on the day
abbrev pub HoldSame : ℤ → PeriodRow → PeriodRow → Type 0
HoldSame day first second =
    (first.values ≡ second.values) × BothHold day first.period second.period

-- two entries of the list hold the same values on the day
abbrev pub Repeats : List PeriodRow → ℤ → Type 0
Repeats rows day = SomePair (HoldSame day) rows

-- the second row begins while the first one, which is value-equivalent, still holds
abbrev pub Reaches : PeriodRow → PeriodRow → Type 0
Reaches first second =
    (first.values ≡ second.values) × (second.period.start <ℤ first.period.end)

-- the day on which the second row begins, if the first one reaches it
abbrev pub IsReachedOn : PeriodRow → PeriodRow → Option ℤ → Type 0
IsReachedOn first second found =
    MatchOption found (Reaches first second → ⊥)
    (λ day. Reaches first second × (day ≡ second.period.start))

-- the rows at two places are value-equivalent, and the second ends no earlier
abbrev pub EndsLater : List PeriodRow → ℕ → ℕ → Type 0
EndsLater rows first second =
    (d : PeriodRow)
    → ((slice_index_or rows first d).values ≡ (slice_index_or rows second d).values)
    × ((slice_index_or rows first d).period.end ≤ℤ (slice_index_or rows second d).period.end)

-- a value-equivalent row at the first place ends no later than that at the second
abbrev pub EndsByThen : List PeriodRow → ℕ → ℕ → Type 0
EndsByThen rows first second =
    (d : PeriodRow)
    → (slice_index_or rows first d).values ≡ (slice_index_or rows second d).values
    → (slice_index_or rows first d).period.end ≤ℤ (slice_index_or rows second d).period.end

-- two of the first n entries hold the same values on the day
abbrev pub RepeatsBelow : List PeriodRow → ℕ → ℤ → Type 0
RepeatsBelow rows n day =
    (i : ℕ) × (j : ℕ) × (i < j) × (j < n)
    × ((d : PeriodRow) → HoldSame day (slice_index_or rows i d) (slice_index_or rows j d))

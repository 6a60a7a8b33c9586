-- The rows of a sequenced answer: the shortest list of its snapshots, in order.
use Rattle.std.specs.Prelude.{◌≡◌, ◌≤◌, ◌-ℤ◌, pos, List, length, Contains, AllPairs, IsPermutation}
use Rattle.std.specs.declared.cmp.Ordering.{Ordering}
use Rattle.std.specs.declared.cmp.Ordering.TheVariants.{Less}
use Rattle.std.specs.Ordering.{int_cmp, ordering_then}
use Rattle.period_core.specs.Order.{values_cmp}
use Rattle.period_core.specs.declared.row.PeriodRow.{PeriodRow}
use Rattle.temporal_model.specs.Snapshot.{InSnapshot, Equivalent}

-- no equivalent list of period rows has fewer rows, whatever its order, overlaps and repeats
abbrev pub IsShortest : List PeriodRow → Type 0
IsShortest rows = (others : List PeriodRow) → Equivalent rows others → length rows ≤ length others

-- each equivalent list of the same length is this one in another order
abbrev pub IsUniqueUpToOrder : List PeriodRow → Type 0
IsUniqueUpToOrder rows =
    (others : List PeriodRow) → Equivalent rows others
    → length others ≡ length rows → IsPermutation others rows

-- the order of answers: by values column by column, then by first day
abbrev pub answer_cmp : PeriodRow → PeriodRow → Ordering
answer_cmp a b =
    ordering_then (values_cmp a.values b.values) (int_cmp a.period.start b.period.start)

-- each row precedes all later ones
abbrev pub IsInAnswerOrder : List PeriodRow → Type 0
IsInAnswerOrder = AllPairs (λ a b. answer_cmp a b ≡ Less)

-- value-equivalent rows (their values are equal) that begin on the same day
abbrev pub SameBeginning : PeriodRow → PeriodRow → Type 0
SameBeginning a b = (a.values ≡ b.values) × (a.period.start ≡ b.period.start)

-- the certificate of a list: each row's values are absent on the day before its first,
-- and no two rows are value-equivalent and begin on the same day
pub record IsCertified (rows : List PeriodRow) : Type 0 where
  pub absent_before : (row : PeriodRow) → Contains rows row
      → InSnapshot rows (row.period.start -ℤ pos 1) row.values → ⊥
  pub distinct : AllPairs (λ a b. SameBeginning a b → ⊥) rows

-- The order of rows that are coalesced, and the form of the list that they become.
use Rattle.std.specs.Prelude.{◌≡◌, ◌<ℤ◌, List, AllPairs, false}
use Rattle.std.specs.declared.cmp.Ordering.TheVariants.{Less}
use Rattle.std.specs.Ordering.{is_lt}
use Rattle.period_core.specs.declared.row.PeriodRow.{PeriodRow}
use Rattle.temporal_model.specs.Answer.{answer_cmp}
use Rattle.temporal_model.specs.Snapshot.{Equivalent}

-- a does not come after b
abbrev pub NotAfter : PeriodRow → PeriodRow → Type 0
NotAfter a b = is_lt (answer_cmp b a) ≡ false

-- the rows are ordered by values, then start: no row comes after a later one
abbrev pub IsOrdered : List PeriodRow → Type 0
IsOrdered = AllPairs NotAfter

-- a comes before b, and if the two are value-equivalent a day without them lies between
abbrev pub PrecedesWithGap : PeriodRow → PeriodRow → Type 0
PrecedesWithGap a b =
    (answer_cmp a b ≡ Less) × (a.values ≡ b.values → a.period.end <ℤ b.period.start)

-- each row precedes all later ones with a gap
abbrev pub IsCoalesced : List PeriodRow → Type 0
IsCoalesced = AllPairs PrecedesWithGap

-- the list is the coalesced one of the rows: it has their snapshots
pub record IsCoalescedOf (rows answer : List PeriodRow) : Type 0 where
  pub equivalent : Equivalent rows answer
  pub coalesced : IsCoalesced answer

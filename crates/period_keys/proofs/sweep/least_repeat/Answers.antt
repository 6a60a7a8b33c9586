use Rattle.std.proofs.Common.{List, sym, subst}
use Rattle.std.specs.List.{AllPairs}
use Rattle.period_core.specs.declared.row.PeriodRow.{PeriodRow}
use Rattle.coalesce_core.specs.Coalesced.{NotAfter}
use Rattle.period_keys.specs.Keys.{IsLeastOf}
use Rattle.period_keys.specs.Repeats.{Repeats}
use Rattle.period_keys.proofs.Leasts.{IsLeastOf-same}
use Rattle.period_keys.proofs.RowOrder.{sorted_rows}
use Rattle.period_keys.proofs.SweepSteps.{repeats_moved}
use Rattle.period_keys.proofs.sweep.least_repeat.Goals as goal

pub first_repeat-requires : goal.first_repeat-requires
first_repeat-requires c =
    subst (AllPairs NotAfter) (sym c.as_slice.ensures.value) (sorted_rows c.sort.new.self.items c.in_ok-sort.ensures.sorted)

pub returns : goal.returns
returns c =
    IsLeastOf-same (Repeats c.sort.new.self.items) (Repeats c.args.rows.items)
    (repeats_moved c.args.rows.items c.sort.new.self.items c.in_ok-sort.ensures.permutation) c.first_repeat.result
    (subst (λ (xs : List PeriodRow). IsLeastOf (Repeats xs) c.first_repeat.result) c.as_slice.ensures.value c.first_repeat.ensures)

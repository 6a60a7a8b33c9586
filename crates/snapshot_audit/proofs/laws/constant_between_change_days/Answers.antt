use Rattle.std.proofs.Common.{◌∷◌, List, inl, inr, refl}
use Rattle.std.specs.List.{Contains}
use Rattle.period_core.specs.declared.row.PeriodRow.{PeriodRow}
use Rattle.temporal_model.specs.Snapshot.{NoChangeBetween}
use Rattle.temporal_model.proofs.Days.{constant_between}
use Rattle.temporal_model.proofs.Members.{Contains-here, Contains-there}
use Rattle.snapshot_audit.specs.ChangeDays.{seen_lists}
use Rattle.snapshot_audit.proofs.Verdicts.{constant_over}
use Rattle.snapshot_audit.proofs.laws.constant_between_change_days.Goals as goal

pub returns : goal.returns
returns c = λ query tables rows days are first second order none.
    let lists : List (List PeriodRow) = rows ∷ seen_lists query tables in
    let still : (list : List PeriodRow) → Contains lists list → NoChangeBetween list first second =
    λ list c row inside. (
      λ after. none row.period.start ((are.members row.period.start).1 (inr (list, c, (row, inside, inl refl)))) after,
      λ after. none row.period.end ((are.members row.period.end).1 (inr (list, c, (row, inside, inr refl)))) after,
    ) in
    record {
      set = constant_over query tables first second order (λ list c. still list (Contains-there rows (seen_lists query tables) list c));
      snapshot = constant_between rows first second order (still rows (Contains-here rows (seen_lists query tables)));
    }

use Rattle.std.proofs.Common.{map, take}
use Rattle.std.specs.List.{Any}
use Rattle.history_model.specs.Versions.{row_of}
use Rattle.period_keys.specs.Keys.{HasNoClash, IsLeastOf}
use Rattle.period_keys.specs.Index.{MeetsKept}
use Rattle.period_keys.specs.LookUps.{periods_of_rows}
use Rattle.period_keys.proofs.clashes.key_clash_after.Given as goal

abbrev pub invariant-loop-i : goal.invariant-loop-i
invariant-loop-i l =
    HasNoClash l.current.positions (map row_of l.current.rows)
    → IsLeastOf (λ day. Any (MeetsKept l.current.positions (periods_of_rows l.current) (map row_of l.ended) day) (take l.i l.added)) l.with_kept

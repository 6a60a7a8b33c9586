use Rattle.std.proofs.Common.{take}
use Rattle.std.specs.List.{Any}
use Rattle.period_keys.specs.Index.{periods_at}
use Rattle.period_keys.specs.Keys.{IsLeastOf}
use Rattle.period_keys.specs.Near.{IsKeptAt}
use Rattle.period_keys.proofs.near_rows.first_shared_of.Given as goal

abbrev pub invariant-loop-item : goal.invariant-loop-item
invariant-loop-item l = IsLeastOf (λ day. Any (IsKeptAt l.rows (periods_at l.gone l.key) l.period day) (take l.item-index l.items)) l.found

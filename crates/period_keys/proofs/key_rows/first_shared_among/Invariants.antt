use Rattle.std.proofs.Common.{take}
use Rattle.std.specs.List.{Any}
use Rattle.period_core.specs.declared.version.VersionRow.{VersionRow}
use Rattle.period_keys.specs.Index.{periods_at}
use Rattle.period_keys.specs.Keys.{IsLeastOf}
use Rattle.period_keys.proofs.NearRows.{IsKept}
use Rattle.period_keys.proofs.key_rows.first_shared_among.Given as goal

abbrev pub invariant-loop-row : goal.invariant-loop-row
invariant-loop-row l = IsLeastOf (λ day. Any (λ (row : VersionRow). IsKept (periods_at l.gone l.key) l.period day row.period) (take l.row-index l.rows)) l.found

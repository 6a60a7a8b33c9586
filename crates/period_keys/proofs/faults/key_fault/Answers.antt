use Rattle.std.proofs.Common.{◌++◌, ℕ, List, map, sym, subst}
use Rattle.std.specs.Prelude.{IsPermutation}
use Rattle.period_core.specs.declared.row.PeriodRow.{PeriodRow}
use Rattle.period_core.specs.declared.version.VersionRow.{VersionRow}
use Rattle.history_model.specs.Versions.{row_of}
use Rattle.period_keys.specs.Keys.{IsKeyClash, IsLeastOf}
use Rattle.period_keys.proofs.FaultFacts.{least_key_fault}
use Rattle.period_keys.proofs.faults.key_fault.Goals as goal

pub returns : goal.returns
returns c = λ catalog before change at planned.
    let positions : List ℕ = c.args.current.now.positions in
    let current : List VersionRow = c.args.current.now.rows in
    least_key_fault catalog before change positions current c.args.plan.now c.in_ok-found.found at planned (λ stay none taken.
    subst (λ (rows : List PeriodRow). IsLeastOf (IsKeyClash positions (map row_of stay ++ rows)) c.in_ok-found.found) c.as_slice.ensures
    (c.in_ok-found.ensures stay none (subst (λ (ended : List VersionRow). IsPermutation current (ended ++ stay)) (sym c.as_slice-ended.ensures) taken)))

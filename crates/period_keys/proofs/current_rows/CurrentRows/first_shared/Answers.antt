use Rattle.std.proofs.Common.{List, map, subst}
use Rattle.std.specs.List.{Any}
use Rattle.period_core.specs.declared.version.VersionRow.{VersionRow}
use Rattle.period_keys.specs.Index.{SharesDayOfKept, periods_at}
use Rattle.period_keys.specs.Keys.{IsLeastOf}
use Rattle.period_keys.specs.Versions.{period_of}
use Rattle.period_keys.proofs.Members.{Any-nil}
use Rattle.period_keys.proofs.NearRows.{IsKept}
use Rattle.period_keys.proofs.current_rows.CurrentRows.first_shared.Goals as goal

pub returns-in-Some : goal.returns-in-Some
returns-in-Some c =
    subst (λ (rows : List VersionRow). IsLeastOf (SharesDayOfKept (map period_of rows) (periods_at c.args.gone.now c.args.key.now) c.args.period.now) c.first_shared.result) c.in-Some.ensures c.first_shared.ensures

pub returns-in-None : goal.returns-in-None
returns-in-None c = λ day some.
    let Kept = IsKept (periods_at c.args.gone.now c.args.key.now) c.args.period.now day in
    Any-nil Kept (subst (λ (rows : List VersionRow). Any Kept (map period_of rows)) c.in-None.ensures some)

use Rattle.std.proofs.Common.{◌≡◌, ℤ, List, map, take, subst, arith}
use Rattle.std.specs.List.{Any}
use Rattle.std.proofs.lemmas.List.{take_all}
use Rattle.period_core.specs.declared.version.VersionRow.{VersionRow}
use Rattle.period_keys.specs.Index.{SharesDayOfKept, periods_at}
use Rattle.period_keys.specs.Keys.{IsLeastOf}
use Rattle.period_keys.specs.Versions.{period_of}
use Rattle.period_keys.proofs.Leasts.{IsLeastOf-same, least_more, least_none}
use Rattle.period_keys.proofs.NearRows.{IsKept, any_map}
use Rattle.period_keys.proofs.key_rows.first_shared_among.Goals as goal

pub loop-row-init : goal.loop-row-init
loop-row-init c = least_none (λ (row : VersionRow) day. IsKept (periods_at c.args.gone.now c.args.key.now) c.args.period.now day row.period)

pub loop-row-preserved : goal.loop-row-preserved
loop-row-preserved c =
    least_more (λ (row : VersionRow) day. IsKept (periods_at c.args.gone.now c.args.key.now) c.args.period.now day row.period) c.args.rows.now c.loop-row.row-index c.row-item.result
    c.loop-row.found c.first_of_kept.result c.earlier-found.result (omega arith) c.row-item.is c.loop-row.invariant c.first_of_kept.ensures c.earlier-found.ensures

pub returns : goal.returns
returns c =
    let gone = periods_at c.args.gone.now c.args.key.now in
    let Kept : List VersionRow → ℤ → Type 0 = λ rows day. Any (λ (row : VersionRow). IsKept gone c.args.period.now day row.period) rows in
    let all : take c.loop-row.row-index c.args.rows.now ≡ c.args.rows.now = take_all _ _ (omega arith) in
    IsLeastOf-same (Kept c.args.rows.now) (SharesDayOfKept (map period_of c.args.rows.now) gone c.args.period.now)
    (λ day. any_map (IsKept gone c.args.period.now day) period_of c.args.rows.now) c.loop-row.found
    (subst (λ (rows : List VersionRow). IsLeastOf (Kept rows) c.loop-row.found) all c.loop-row.invariant)

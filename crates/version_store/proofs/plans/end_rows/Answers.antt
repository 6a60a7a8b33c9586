use Rattle.std.proofs.Common.{◌∙◌, ap, arith, drop, subst, sym, take}
use Rattle.std.specs.List.{AllByRecursion}
use Rattle.std.proofs.lemmas.List.{take-append-drop}
use Rattle.std.proofs.lemmas.Result.{err_from_is_err_and}
use Rattle.sqlite.specs.Held.{state}
use Rattle.sqlite.specs.State.{HasCleanDisk}
use Rattle.period_core.specs.Encoding.{encoded}
use Rattle.period_core.specs.declared.version.VersionRow.{VersionRow}
use Rattle.version_tables.specs.Healthy.{IsShort}
use Rattle.version_tables.proofs.Keeping.{leaves_then}
use Rattle.version_tables.proofs.OwnKeys.{healthy_none}
use Rattle.version_store.specs.Changed.{ended_at}
use Rattle.version_store.specs.PendingRemovals.{HasExcept}
use Rattle.version_store.proofs.AfterCalls.{on_ok}
use Rattle.version_store.proofs.Causes.{caused_then, if_err}
use Rattle.version_store.proofs.Sweeps.{ended_parts}
use Rattle.version_store.proofs.Together.{rest_all, to_end}
use Rattle.version_store.proofs.plans.end_rows.Goals as goal

pub returns-in_err-done-clause-why : goal.returns-in_err-done-clause-why
returns-in_err-done-clause-why g c clean begun healthy d has short =
    let p = err_from_is_err_and c.from_residual.result c.from_residual.ensures.1 in
    rw (p.1, p.2) (c.in_err-done.ensures.why c.args.pending.now.keys clean begun healthy d has short)

pub returns-clause-made : goal.returns-clause-made
returns-clause-made g c clean begun =
    let new = (state g.S.Store c.end_each.new.transaction.conn.now).now in
    let table = c.args.table in
    let moment = c.args.moment in
    let rows = c.args.rows.now in
    let done = c.in_ok-done.done in
    let first = c.in_ok-done.ensures.made c.args.pending.now.keys (omega (arith, c.end_each.ensures.inside.survives.clean)) begun in
    on_ok c.end_each.result
    (λ it. (
      it.0,
      λ sound d has. subst (HasExcept new table moment c.end_each.new.pending.keys) (ap (λ l. ended_at table moment l (ended_at table moment (take done rows) d)) (to_end done rows) ∙ ended_parts table moment (take done rows) (drop done rows) d ∙ ap (λ l. ended_at table moment l d) (take-append-drop done rows)) (it.1 _ (first.1 sound d has)),
    ))
    (c.end_each.ensures.made clean first.0)

pub returns-clause-others : goal.returns-clause-others
returns-clause-others g c = on_ok c.end_each.result (leaves_then g.S.Store c.args.transaction.now.conn.now _ _ c.in_ok-done.ensures.others c.end_each.ensures.inside) c.end_each.ensures.others

pub returns-clause-why : goal.returns-clause-why
returns-clause-why g c clean begun healthy d has short =
    let clean_mid : HasCleanDisk (state g.S.Store c.end_runs.new.transaction.conn.now) = omega (arith, c.end_each.ensures.inside.survives.clean) in
    let pending = c.args.pending.now.keys in
    let first = c.in_ok-done.ensures.made pending clean_mid begun in
    let sound = c.in_ok-done.ensures.healthy pending clean_mid begun 0 (healthy_none 0 _ healthy) d has in
    if_err _ _ c.end_each.result (caused_then (state g.S.Store c.args.transaction.now.conn.now) (state g.S.Store c.end_runs.new.transaction.conn.now) (state g.S.Store c.end_each.new.transaction.conn.now) clean_mid c.end_runs.ensures.inside.survives c.end_each.ensures.inside.survives)
    (c.end_each.ensures.why clean first.0 sound _ (first.1 healthy.sound d has) (subst (AllByRecursion (λ (row : VersionRow). IsShort (encoded row.values))) (sym (to_end c.in_ok-done.done c.args.rows.now)) (rest_all (λ (row : VersionRow). IsShort (encoded row.values)) c.in_ok-done.done c.args.rows.now short)))

pub returns-clause-healthy : goal.returns-clause-healthy
returns-clause-healthy g c clean begun left healthy d has =
    let clean_mid : HasCleanDisk (state g.S.Store c.end_runs.new.transaction.conn.now) = omega (arith, c.end_each.ensures.inside.survives.clean) in
    let pending = c.args.pending.now.keys in
    let first = c.in_ok-done.ensures.made pending clean_mid begun in
    c.end_each.ensures.healthy clean first.0 left (healthy_none left _ (c.in_ok-done.ensures.healthy pending clean_mid begun left healthy d has)) _ (first.1 healthy.sound d has)

use Rattle.std.proofs.Common.{arith, rules, refl, ◌∙◌, subst, sym}
use Rattle.sqlite.specs.Held.{state}
use Rattle.std.proofs.lemmas.Result.{err_from_is_err_and}
use Rattle.sqlite.specs.State.{HasCleanDisk}
use Rattle.period_core.specs.Encoding.{encoded}
use Rattle.period_core.specs.declared.version.VersionRow.{VersionRow}
use Rattle.version_tables.specs.Healthy.{IsShort}
use Rattle.version_tables.proofs.OwnKeys.{healthy_none, healthy_still}
use Rattle.version_store.proofs.Causes.{all_at, caused_then}
use Rattle.version_tables.proofs.Keeping.{leaves_same, leaves_then}
use Rattle.version_tables.proofs.Steps.{nothing_then}
use Rattle.version_store.specs.PendingRemovals.{HasExcept}
use Rattle.version_store.proofs.Sweeps.{ended_more, none_ended}
use Rattle.version_store.proofs.plans.end_each.Goals as goal

pub loop-row-init : goal.loop-row-init
loop-row-init g c =
    (refl, search rules, leaves_same g.S.Store c.args.transaction.now.conn.now c.args.transaction.now.conn.now refl, λ clean begun. (begun, λ m has. subst (HasExcept (state g.S.Store c.args.transaction.now.conn.now).now c.args.table c.args.moment c.args.pending.now.keys) (sym (none_ended c.args.table c.args.moment m)) has), λ left clean begun healthy m has. healthy)

pub loop-row-preserved : goal.loop-row-preserved
loop-row-preserved g c =
    let was = c.loop-row.invariant in
    let step = c.end_row.ensures in (
      step.same_reference ∙ was.0,
      nothing_then g.S.Store _ _ _ was.1 step.inside,
      leaves_then g.S.Store c.args.transaction.now.conn.now _ _ was.2 step.inside c.in_ok-end_row.ensures.others,
      λ clean begun.
          let mid = was.3 (omega (arith, step.inside.survives.clean)) begun in
          let made = c.in_ok-end_row.ensures.made clean mid.0 in
          (made.0, λ m stands. subst (HasExcept (state g.S.Store c.end_row.new.transaction.conn.now).now c.args.table c.args.moment c.end_row.new.pending.keys) (ended_more c.args.table c.args.moment c.args.rows.now c.loop-row.row-index c.row-item.result c.loop-row-test.true c.row-item.is m) (made.1 _ (mid.1 m stands))),
      λ left clean begun healthy m stands.
          let clean_mid : HasCleanDisk (state g.S.Store c.loop-row.transaction.conn.now) = omega (arith, step.inside.survives.clean) in
          let mid = was.3 clean_mid begun in
          c.in_ok-end_row.ensures.healthy clean mid.0 left (healthy_none left _ (was.4 left clean_mid begun healthy m stands)) _ (mid.1 m stands),
    )

pub returns-in_err-end_row-clause-why : goal.returns-in_err-end_row-clause-why
returns-in_err-end_row-clause-why g c clean begun healthy m was short =
    let rows = c.args.rows.now in
    let so_far = c.loop-row.invariant in
    let step = c.end_row.ensures in
    let clean_mid : HasCleanDisk (state g.S.Store c.loop-row.transaction.conn.now) = omega (arith, step.inside.survives.clean) in
    let mid = so_far.3 clean_mid begun in
    let one = all_at (λ (r : VersionRow). IsShort (encoded r.values)) rows c.loop-row.row-index c.row-item.result c.loop-row-test.true c.row-item.is short in
    let why = c.in_err-end_row.ensures.why clean mid.0 (so_far.4 0 clean_mid begun healthy m was) _ (mid.1 m was) one in
    let p = err_from_is_err_and c.from_residual.result c.from_residual.ensures.1 in
    rw (p.1, p.2) (caused_then (state g.S.Store c.args.transaction.now.conn.now) (state g.S.Store c.loop-row.transaction.conn.now) (state g.S.Store c.end_row.new.transaction.conn.now) clean_mid so_far.1.survives step.inside.survives _ why)

pub returns-clause-healthy : goal.returns-clause-healthy
returns-clause-healthy g c clean begun left healthy m was = c.loop-row.invariant.4 left clean begun (healthy_still left _ healthy) m was

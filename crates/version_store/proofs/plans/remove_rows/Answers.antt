use Rattle.std.proofs.Common.{arith, rules, refl, ap, ◌∙◌}
use Rattle.sqlite.specs.Held.{state}
use Rattle.std.proofs.lemmas.Result.{err_from_is_err_and}
use Rattle.sqlite.specs.State.{HasCleanDisk}
use Rattle.version_tables.proofs.OwnKeys.{healthy_none, healthy_still}
use Rattle.version_store.proofs.Causes.{caused_then}
use Rattle.version_tables.proofs.Keeping.{leaves_same, leaves_then}
use Rattle.version_tables.proofs.Steps.{nothing_then}
use Rattle.version_store.specs.PendingRemovals.{is_pending, key_at}
use Rattle.version_store.proofs.Leaves.{leaves}
use Rattle.version_store.proofs.plans.remove_rows.Goals as goal

pub removals-init : goal.removals-init
removals-init g c = (refl, search rules, leaves_same g.S.Store c.args.transaction.now.conn.now c.args.transaction.now.conn.now refl, λ clean begun. (begun, λ m has. has), λ left clean begun healthy m has. healthy)

pub removals-preserved : goal.removals-preserved
removals-preserved g c =
    let was = c.removals.invariant in
    let step = c.remove_row.ensures in
    let old = (state g.S.Store c.removals.transaction.conn.now).now in
    let now = (state g.S.Store c.remove_row.new.transaction.conn.now).now in
    let key = c.in-Some.key in (
      step.same_reference ∙ was.0,
      nothing_then g.S.Store _ _ _ was.1 step.inside,
      leaves_then g.S.Store c.args.transaction.now.conn.now _ _ was.2 step.inside c.in_ok-remove_row.ensures.others,
      λ clean begun.
          let mid = was.3 (omega (arith, step.inside.survives.clean)) begun in
          let made = c.in_ok-remove_row.ensures.made clean mid.0 in (
            made.0,
            λ m has.
                leaves old now c.args.table c.args.moment (key_at c.args.table c.args.moment key) c.removals.pending.keys c.pop_first.new.self.keys m (mid.1 m has)
                (λ v. ap (λ l. is_pending c.args.table c.args.moment l v) c.in-Some.ensures.removal) made.1,
          ),
      λ left clean begun healthy m has.
          let clean_mid : HasCleanDisk (state g.S.Store c.removals.transaction.conn.now) = omega (arith, step.inside.survives.clean) in
          let mid = was.3 clean_mid begun in
          c.in_ok-remove_row.ensures.healthy clean mid.0 left (healthy_none left _ (was.4 left clean_mid begun healthy m has)) tt _ (mid.1 m has).rows,
    )

pub returns-in_err-remove_row-clause-why : goal.returns-in_err-remove_row-clause-why
returns-in_err-remove_row-clause-why g c clean begun healthy m was _ =
    let so_far = c.removals.invariant in
    let step = c.remove_row.ensures in
    let clean_mid : HasCleanDisk (state g.S.Store c.removals.transaction.conn.now) = omega (arith, step.inside.survives.clean) in
    let mid = so_far.3 clean_mid begun in
    let why = c.in_err-remove_row.ensures.why clean mid.0 (so_far.4 0 clean_mid begun healthy m was) _ (mid.1 m was).rows tt in
    let p = err_from_is_err_and c.from_residual.result c.from_residual.ensures.1 in
    rw (p.1, p.2) (caused_then (state g.S.Store c.args.transaction.now.conn.now) (state g.S.Store c.removals.transaction.conn.now) (state g.S.Store c.remove_row.new.transaction.conn.now) clean_mid so_far.1.survives step.inside.survives _ why)

pub returns-clause-healthy : goal.returns-clause-healthy
returns-clause-healthy g c clean begun left healthy m was = c.removals.invariant.4 left clean begun (healthy_still left _ healthy) m was

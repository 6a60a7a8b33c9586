use Rattle.std.proofs.Common.{◌≡◌, ◌∙◌, ◌++◌, [], ap, append_assoc, arith, refl, rules, subst, sym}
use Rattle.std.specs.List.{AllByRecursion}
use Rattle.std.proofs.lemmas.Result.{err_from_is_err_and}
use Rattle.sqlite.specs.Held.{state}
use Rattle.sqlite.specs.State.{HasCleanDisk}
use Rattle.period_core.specs.Encoding.{encoded}
use Rattle.period_core.specs.declared.version.VersionRow.{VersionRow}
use Rattle.version_tables.specs.Healthy.{IsShort}
use Rattle.version_tables.specs.Steps.{CommitsNothing}
use Rattle.version_tables.proofs.Keeping.{leaves_same, leaves_then}
use Rattle.version_tables.proofs.OwnKeys.{healthy_none, healthy_still}
use Rattle.version_tables.proofs.Steps.{nothing_then}
use Rattle.version_store.specs.Changed.{ended_at}
use Rattle.version_store.specs.PendingRemovals.{HasExcept}
use Rattle.version_store.proofs.Causes.{caused_then}
use Rattle.version_store.proofs.Sweeps.{ended_parts, none_ended}
use Rattle.version_store.proofs.Together.{first_rows, middle_all}
use Rattle.version_store.proofs.runs.end_runs.Goals as goal

pub runs-init : goal.runs-init
runs-init g c =
    let old = (state g.S.Store c.args.transaction.now.conn.now).now in
    let nothing : CommitsNothing g.S.Store c.args.transaction.now.conn.now c.args.transaction.now.conn.now = search rules in (
      refl,
      nothing,
      leaves_same g.S.Store c.args.transaction.now.conn.now c.args.transaction.now.conn.now refl,
      [],
      refl,
      λ clean begun. (begun, λ sound pending d has. (sound, subst (HasExcept old c.args.table c.args.moment pending) (sym (none_ended c.args.table c.args.moment d)) has)),
      λ left clean begun healthy pending d has. healthy,
    )

pub runs-preserved : goal.runs-preserved
runs-preserved g c =
    let was = c.runs.invariant in
    let step = c.end_run.ensures in
    let done = was.3 in
    let run = c.split_at.result.0.now in
    let more = c.split_at.result.1.now in
    let new = (state g.S.Store c.end_run.new.transaction.conn.now).now in
    let parts : c.runs.rest.now ≡ run ++ more = search rules in (
      step.same_reference ∙ was.0,
      nothing_then g.S.Store _ _ _ was.1 step.inside,
      leaves_then g.S.Store c.args.transaction.now.conn.now _ _ was.2 step.inside c.in_ok-end_run.ensures.others,
      done ++ run,
      was.4 ∙ ap (λ l. done ++ l) parts ∙ sym (append_assoc done run more),
      λ clean begun.
          let mid = was.5 (omega (arith, step.inside.survives.clean)) begun in (
            (c.in_ok-end_run.ensures.made [] clean mid.0).0,
            λ sound pending d has.
                let between = mid.1 sound pending d has in
                let made = (c.in_ok-end_run.ensures.made pending clean mid.0).1 between.0 _ between.1 in
                (made.0, subst (HasExcept new c.args.table c.args.moment pending) (ended_parts c.args.table c.args.moment done run d) (rw c.if-not-branch.false at made.1)),
          ),
      λ left clean begun healthy pending d has.
          let clean_mid : HasCleanDisk (state g.S.Store c.runs.transaction.conn.now) = omega (arith, step.inside.survives.clean) in
          let mid = was.5 clean_mid begun in
          c.in_ok-end_run.ensures.healthy pending clean mid.0 left (healthy_none left _ (was.6 left clean_mid begun healthy pending d has)) _ (mid.1 healthy.sound pending d has).1,
    )

pub returns-in_err-end_run-clause-why : goal.returns-in_err-end_run-clause-why
returns-in_err-end_run-clause-why g c pending clean begun healthy d has short =
    let was = c.runs.invariant in
    let step = c.end_run.ensures in
    let run = c.split_at.result.0.now in
    let more = c.split_at.result.1.now in
    let parts : c.runs.rest.now ≡ run ++ more = search rules in
    let clean_mid : HasCleanDisk (state g.S.Store c.runs.transaction.conn.now) = omega (arith, step.inside.survives.clean) in
    let mid = was.5 clean_mid begun in
    let short_run = middle_all (λ (row : VersionRow). IsShort (encoded row.values)) was.3 run more (subst (AllByRecursion (λ (row : VersionRow). IsShort (encoded row.values))) (was.4 ∙ ap (λ l. was.3 ++ l) parts) short) in
    let why = c.in_err-end_run.ensures.why pending clean mid.0 (was.6 0 clean_mid begun healthy pending d has) _ (mid.1 healthy.sound pending d has).1 short_run in
    let p = err_from_is_err_and c.from_residual.result c.from_residual.ensures.1 in
    rw (p.1, p.2) (caused_then (state g.S.Store c.args.transaction.now.conn.now) (state g.S.Store c.runs.transaction.conn.now) (state g.S.Store c.end_run.new.transaction.conn.now) clean_mid was.1.survives step.inside.survives _ why)

-- ---- the next run is none

pub returns-then-not-branch-clause-made : goal.returns-then-not-branch-clause-made
returns-then-not-branch-clause-made g c pending clean begun =
    let was = c.runs.invariant in
    let new = (state g.S.Store c.end_run.new.transaction.conn.now).now in
    let mid = was.5 (omega (arith, c.end_run.ensures.inside.survives.clean)) begun in (
      (c.in_ok-end_run.ensures.made [] clean mid.0).0,
      λ sound d has.
          let between = mid.1 sound pending d has in
          let made = (c.in_ok-end_run.ensures.made pending clean mid.0).1 between.0 _ between.1 in
          subst (λ rows. HasExcept new c.args.table c.args.moment pending (ended_at c.args.table c.args.moment rows d)) (sym (first_rows c.args.rows.now was.3 c.runs.rest.now was.4)) (rw c.if-not-branch.true at made.1),
    )

pub returns-then-not-branch-clause-others : goal.returns-then-not-branch-clause-others
returns-then-not-branch-clause-others g c = leaves_then g.S.Store c.args.transaction.now.conn.now _ _ c.runs.invariant.2 c.end_run.ensures.inside c.in_ok-end_run.ensures.others

pub returns-then-not-branch-clause-healthy : goal.returns-then-not-branch-clause-healthy
returns-then-not-branch-clause-healthy g c pending clean begun left healthy d has =
    let was = c.runs.invariant in
    let clean_mid : HasCleanDisk (state g.S.Store c.runs.transaction.conn.now) = omega (arith, c.end_run.ensures.inside.survives.clean) in
    let mid = was.5 clean_mid begun in
    let still = healthy_still left _ healthy in
    c.in_ok-end_run.ensures.healthy pending clean mid.0 left (healthy_none left _ (was.6 left clean_mid begun still pending d has)) _ (mid.1 healthy.sound pending d has).1

-- ---- no run is left

pub returns-clause-healthy : goal.returns-clause-healthy
returns-clause-healthy g c pending clean begun left healthy d has = c.runs.invariant.6 left clean begun (healthy_still left _ healthy) pending d has

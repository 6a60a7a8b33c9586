use Rattle.std.proofs.Common.{arith, subst, sym, w64}
use Rattle.std.proofs.lemmas.Int.{to_z-of_z}
use Rattle.std.proofs.lemmas.Result.{err_from_is_err_and}
use Rattle.sqlite.specs.Held.{state}
use Rattle.sqlite.specs.State.{HasCleanDisk}
use Rattle.version_tables.specs.Forms.{form_number}
use Rattle.version_tables.specs.Moves.{with_moved_versions}
use Rattle.version_tables.specs.Represents.{Represents, with_form}
use Rattle.version_tables.specs.declared.form.Form.TheVariants.{Microseconds}
use Rattle.version_tables.proofs.Keeping.{leaves_then}
use Rattle.version_tables.proofs.OwnKeys.{healthy_none}
use Rattle.version_tables.proofs.Steps.{reason_then}
use Rattle.version_tables.proofs.migration.move_to_microseconds.Goals as goal

pub returns-clause-made : goal.returns-clause-made
returns-clause-made g c clean begun =
    let new = (state g.S.Store c.set_form.new.transaction.conn.now).now in
    let versions = c.in_ok-move_versions.ensures.made (omega (arith, c.set_form.ensures.inside.survives.clean, clean)) begun in
    let meta = rw (to_z-of_z w64 c.args.clock c.ranges.clock) at (c.in_ok-set_form.ensures.made clean versions.0) in (
      meta.0,
      λ records seconds was.
          subst (λ n. Represents new (with_form (form_number Microseconds) n (with_moved_versions records))) (sym seconds.0)
          (meta.1 (with_moved_versions records) (versions.1 records seconds.1 was)),
    )

pub returns-clause-others : goal.returns-clause-others
returns-clause-others g c =
    leaves_then g.S.Store c.args.transaction.now.conn.now _ _ c.in_ok-move_versions.ensures.others c.set_form.ensures.inside c.in_ok-set_form.ensures.others

-- ---- why it fails, and that the database stays healthy

pub returns-in_err-move_versions-clause-why : goal.returns-in_err-move_versions-clause-why
returns-in_err-move_versions-clause-why g c clean begun healthy records was can =
    let p = err_from_is_err_and c.from_residual.result c.from_residual.ensures.1 in
    rw (p.1, p.2) (c.in_err-move_versions.ensures.why clean begun healthy records was (can.0.1, can.1))

pub returns-in_err-set_form-clause-why : goal.returns-in_err-set_form-clause-why
returns-in_err-set_form-clause-why g c clean begun healthy records was can =
    let old = state g.S.Store c.args.transaction.now.conn.now in
    let mid = state g.S.Store c.move_versions.new.transaction.conn.now in
    let clean_mid : HasCleanDisk mid = omega (arith, c.set_form.ensures.inside.survives.clean) in
    let versions = c.in_ok-move_versions.ensures.made clean_mid begun in
    let sound = c.in_ok-move_versions.ensures.healthy clean_mid begun 0 (healthy_none 0 old.now healthy) tt records was in
    let p = err_from_is_err_and c.from_residual-in_err-set_form.result c.from_residual-in_err-set_form.ensures.1 in
    rw (p.1, p.2) (reason_then _ old mid _ clean_mid c.move_versions.ensures.inside.survives c.set_form.ensures.inside.survives (c.in_err-set_form.ensures.why clean versions.0 sound _ (versions.1 records can.0.1 was) tt))

pub returns-clause-healthy : goal.returns-clause-healthy
returns-clause-healthy g c clean begun left healthy inside records was =
    let mid = state g.S.Store c.move_versions.new.transaction.conn.now in
    let clean_mid : HasCleanDisk mid = omega (arith, c.set_form.ensures.inside.survives.clean) in
    let versions = c.in_ok-move_versions.ensures.made clean_mid begun in
    let sound = c.in_ok-move_versions.ensures.healthy clean_mid begun left healthy tt records was in
    c.in_ok-set_form.ensures.healthy clean versions.0 left (healthy_none left mid.now sound) tt _ (versions.1 inside.0 inside.1 inside.2)

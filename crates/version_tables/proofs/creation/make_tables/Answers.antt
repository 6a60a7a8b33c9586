use Rattle.std.proofs.Common.{arith, w64}
use Rattle.std.proofs.lemmas.Int.{to_z-of_z}
use Rattle.std.proofs.lemmas.Result.{err_from_is_err_and}
use Rattle.sqlite.specs.Held.{state}
use Rattle.sqlite.specs.State.{HasCleanDisk}
use Rattle.version_tables.proofs.Steps.{nothing_then, reason_then}
use Rattle.version_tables.proofs.creation.make_tables.Goals as goal

pub returns-clause-made : goal.returns-clause-made
returns-clause-made g c clean begun =
    let clean3 : HasCleanDisk (state g.S.Store c.create_versions.new.transaction.conn.now) = omega (arith, c.insert_meta.ensures.inside.survives.clean, clean) in
    let clean2 : HasCleanDisk (state g.S.Store c.create_definitions.new.transaction.conn.now) = omega (arith, c.create_versions.ensures.inside.survives.clean, clean3) in
    let clean1 : HasCleanDisk (state g.S.Store c.create_meta.new.transaction.conn.now) = omega (arith, c.create_definitions.ensures.inside.survives.clean, clean2) in
    let meta = c.in_ok-create_meta.ensures.made clean1 begun in
    let definitions = c.in_ok-create_definitions.ensures.made clean2 meta.0 in
    let versions = c.in_ok-create_versions.ensures.made clean3 definitions.0 in
    let row = rw (to_z-of_z w64 c.args.form c.ranges.form, to_z-of_z w64 c.args.clock c.ranges.clock) at (c.in_ok-insert_meta.ensures.made clean versions.0) in
    (row.0, λ base was. row.1 base (versions.1 base (definitions.1 base (meta.1 base was))))

-- ---- why they are not made

pub returns-in_err-create_meta-clause-why : goal.returns-in_err-create_meta-clause-why
returns-in_err-create_meta-clause-why g c clean begun base empty was =
    let p = err_from_is_err_and c.from_residual.result c.from_residual.ensures.1 in
    rw (p.1, p.2) (c.in_err-create_meta.ensures.why clean begun base empty was)

pub returns-in_err-create_definitions-clause-why : goal.returns-in_err-create_definitions-clause-why
returns-in_err-create_definitions-clause-why g c clean begun base empty was =
    let old = state g.S.Store c.args.transaction.now.conn.now in
    let one = state g.S.Store c.create_meta.new.transaction.conn.now in
    let clean1 : HasCleanDisk one = omega (arith, c.create_definitions.ensures.inside.survives.clean) in
    let meta = c.in_ok-create_meta.ensures.made clean1 begun in
    let p = err_from_is_err_and c.from_residual-in_err-create_definitions.result c.from_residual-in_err-create_definitions.ensures.1 in
    rw (p.1, p.2) (reason_then _ old one _ clean1 c.create_meta.ensures.inside.survives c.create_definitions.ensures.inside.survives (c.in_err-create_definitions.ensures.why clean meta.0 base empty (meta.1 base was)))

pub returns-in_err-create_versions-clause-why : goal.returns-in_err-create_versions-clause-why
returns-in_err-create_versions-clause-why g c clean begun base empty was =
    let old = state g.S.Store c.args.transaction.now.conn.now in
    let two = state g.S.Store c.create_definitions.new.transaction.conn.now in
    let clean2 : HasCleanDisk two = omega (arith, c.create_versions.ensures.inside.survives.clean) in
    let clean1 : HasCleanDisk (state g.S.Store c.create_meta.new.transaction.conn.now) = omega (arith, c.create_definitions.ensures.inside.survives.clean, clean2) in
    let meta = c.in_ok-create_meta.ensures.made clean1 begun in
    let definitions = c.in_ok-create_definitions.ensures.made clean2 meta.0 in
    let both = nothing_then g.S.Store _ _ _ c.create_meta.ensures.inside c.create_definitions.ensures.inside in
    let p = err_from_is_err_and c.from_residual-in_err-create_versions.result c.from_residual-in_err-create_versions.ensures.1 in
    rw (p.1, p.2) (reason_then _ old two _ clean2 both.survives c.create_versions.ensures.inside.survives (c.in_err-create_versions.ensures.why clean definitions.0 base empty (definitions.1 base (meta.1 base was))))

pub returns-in_err-insert_meta-clause-why : goal.returns-in_err-insert_meta-clause-why
returns-in_err-insert_meta-clause-why g c clean begun base empty was =
    let old = state g.S.Store c.args.transaction.now.conn.now in
    let three = state g.S.Store c.create_versions.new.transaction.conn.now in
    let clean3 : HasCleanDisk three = omega (arith, c.insert_meta.ensures.inside.survives.clean) in
    let clean2 : HasCleanDisk (state g.S.Store c.create_definitions.new.transaction.conn.now) = omega (arith, c.create_versions.ensures.inside.survives.clean, clean3) in
    let clean1 : HasCleanDisk (state g.S.Store c.create_meta.new.transaction.conn.now) = omega (arith, c.create_definitions.ensures.inside.survives.clean, clean2) in
    let meta = c.in_ok-create_meta.ensures.made clean1 begun in
    let definitions = c.in_ok-create_definitions.ensures.made clean2 meta.0 in
    let versions = c.in_ok-create_versions.ensures.made clean3 definitions.0 in
    let both = nothing_then g.S.Store _ _ _ c.create_meta.ensures.inside c.create_definitions.ensures.inside in
    let all = nothing_then g.S.Store _ _ _ both c.create_versions.ensures.inside in
    let p = err_from_is_err_and c.from_residual-in_err-insert_meta.result c.from_residual-in_err-insert_meta.ensures.1 in
    rw (p.1, p.2) (reason_then _ old three _ clean3 all.survives c.insert_meta.ensures.inside.survives (c.in_err-insert_meta.ensures.why clean versions.0 base empty (versions.1 base (definitions.1 base (meta.1 base was)))))

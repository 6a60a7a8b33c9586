use Rattle.std.proofs.Common.{◌∷◌, [], arith, length-append}
use Rattle.std.proofs.lemmas.Result.{err_from_is_err_and}
use Rattle.version_store.proofs.Judged.{one_more, stuck}
use Rattle.version_store.proofs.row_checks.read_tables.Goals as goal

pub returns-in_err-definition-clause-bad : goal.returns-in_err-definition-clause-bad
returns-in_err-definition-clause-bad c =
    let p = err_from_is_err_and c.from_residual.result c.from_residual.ensures.1 in
    rw (p.1, p.2) (λ bad tables all.
    stuck c.args.rows.now c.loop-row.row-index c.loop-row.catalog.tables tables c.row-item.result c.loop-row-test.true c.row-item.is c.loop-row.invariant.0 (c.in_err-definition.ensures.bad bad) all.each)

pub loop-row-preserved : goal.loop-row-preserved
loop-row-preserved c =
    rw c.in_ok-push.ensures.pushed (
      one_more c.args.rows.now c.loop-row.row-index c.loop-row.catalog.tables c.row-item.result c.in_ok-definition.definition c.loop-row-test.true c.row-item.is c.loop-row.invariant.0 c.in_ok-definition.ensures.good,
      omega (arith, length-append c.loop-row.catalog.tables (c.in_ok-definition.definition ∷ []), c.loop-row.invariant.1),
    )

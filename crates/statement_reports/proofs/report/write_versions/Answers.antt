use Rattle.statement_reports.proofs.AppendFacts.{versions-end, versions-start, versions-step}
use Rattle.statement_reports.proofs.report.write_versions.Goals as goal

pub loop-version-init : goal.loop-version-init
loop-version-init g c =
    let none = versions-start c.args.number c.args.list.now _ _ _ _ (rw c.in_ok-fill_versions_head.ensures.ok at c.in_ok-write.ensures.ok) (rw c.in_ok-fill_names.ensures.ok at c.in_ok-write-2.ensures.ok) in
    (none, rw c.in_ok-start.ensures.ok at c.in_ok-push_number.ensures.ok)

pub loop-version-preserved : goal.loop-version-preserved
loop-version-preserved g c =
    let (so_far, begins) = c.loop-version.invariant in
    let version = rw begins at c.in_ok-push_cells.ensures.ok in
    let written = rw version at c.in_ok-write-3.ensures.ok in
    (versions-step c.args.number c.args.list.now _ _ _ _ _ _ _ c.loop-version-test.true c.version-item.is so_far written, rw version at c.truncate.ensures)

pub returns-clause-ok : goal.returns-clause-ok
returns-clause-ok g c =
    versions-end c.args.number c.args.list.now _ _ _ _ _ c.as_slice-columns.ensures c.as_slice-rows.ensures c.loop-version-test.false c.loop-version.invariant.0

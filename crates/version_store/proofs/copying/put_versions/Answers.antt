use Rattle.std.proofs.Common.{◌∙◌, ◌≤◌, length, arith, subst}
use Rattle.std.proofs.lemmas.List.{take_all}
use Rattle.sqlite.specs.Held.{state}
use Rattle.version_tables.proofs.Steps.{nothing_then}
use Rattle.version_store.specs.Copies.{with_versions}
use Rattle.version_store.specs.Contents.{Contents}
use Rattle.version_store.specs.Written.{Has}
use Rattle.version_store.proofs.Copies.{versions_more}
use Rattle.version_store.proofs.copying.put_versions.Goals as goal

pub loop-row-preserved : goal.loop-row-preserved
loop-row-preserved g c =
    let was = c.loop-row.invariant in
    let step = c.put_version.ensures in (
      step.same_reference ∙ was.0,
      nothing_then g.S.Store _ _ _ was.1 step.inside,
      λ clean begun.
          let mid = was.2 (omega (arith, step.inside.survives.clean)) begun in
          let made = c.in_ok-put_version.ensures.made clean mid.0 in
          (made.0, λ m has. subst (λ (d : Contents). Has (state g.S.Store c.put_version.new.transaction.conn.now).now d) (versions_more c.args.table c.args.rows.now c.loop-row.row-index c.row-item.result c.loop-row-test.true c.row-item.is m) (made.1 _ (mid.1 m has))),
    )

pub returns-clause-made : goal.returns-clause-made
returns-clause-made g c clean begun =
    let made = c.loop-row.invariant.2 clean begun in
    let all : length c.args.rows.now ≤ c.loop-row.row-index = c.loop-row-test.false in
    (made.0, λ m has. subst (λ l. Has (state g.S.Store c.loop-row.transaction.conn.now).now (with_versions c.args.table l m)) (take_all c.loop-row.row-index c.args.rows.now all) (made.1 m has))

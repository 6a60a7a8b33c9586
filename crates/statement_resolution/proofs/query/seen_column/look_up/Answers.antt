use Rattle.std.proofs.Common.{◌∙◌, sym}
use Rattle.statement_resolution.proofs.lemmas.query.Matching.{named_more, unnamed_more}
use Rattle.statement_resolution.proofs.query.seen_column.look_up.Goals as goal
use Rattle.statement_resolution.proofs.query.seen_column.look_up.Goals.{then-is_named, else-is_named}

pub loop-seen-preserved : goal.loop-seen-preserved
loop-seen-preserved c =
    let r = c.args.reference.now in
    let xs = c.args.columns.now in
    elim c.if-is_named.branch [
      | then-is_named w ↦
          named_more r xs c.loop-seen.seen-index c.seen-item.result c.loop-seen.found c.if-is_named.found c.loop-seen-test.true c.seen-item.is
          (sym c.is_named.ensures ∙ w.if-is_named.true) c.loop-seen.invariant (w.found-is ∙ w.with-found.ensures)
      | else-is_named w ↦
          w.found-is ∙ c.loop-seen.invariant
          ∙ unnamed_more r xs c.loop-seen.seen-index c.seen-item.result c.loop-seen-test.true c.seen-item.is (sym c.is_named.ensures ∙ w.if-is_named.false)
    ]

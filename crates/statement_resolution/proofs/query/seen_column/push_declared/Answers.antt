use Rattle.statement_resolution.proofs.lemmas.query.ColumnLists.{front_end, front_more}
use Rattle.statement_resolution.proofs.query.seen_column.push_declared.Goals as goal

pub loop-place-preserved : goal.loop-place-preserved
loop-place-preserved c =
    front_more c.args.known_as.now c.args.table.now c.as_slice-declared.result.now c.loop-place.place c.index-declared-place.result
    c.args.columns.now.items c.loop-place.columns.items c.push.new.self.items c.loop-place-test.true c.index-declared-place.is c.loop-place.invariant c.in_ok-push.ensures.items

pub returns : goal.returns
returns c =
    front_end c.args.known_as.now c.args.table.now c.as_slice-declared.result.now c.loop-place.place c.args.columns.now.items c.loop-place.columns.items
    c.loop-place-test.false c.as_slice-declared.ensures c.loop-place.invariant

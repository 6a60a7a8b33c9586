use Rattle.std.proofs.Common.{◌∙◌, arith, false, sym, true}
use Rattle.script_engine.proofs.ColumnFacts.{columns_end, columns_more, position_more}
use Rattle.script_engine.proofs.engine.version_lists.version_columns.Goals as goal
use Rattle.script_engine.proofs.engine.version_lists.version_columns.Goals.{then-is_value_column, else-is_value_column}

pub loop-i-preserved : goal.loop-i-preserved
loop-i-preserved c =
    let t = c.args.table.now in
    let xs = c.as_slice-declared.result.now in
    let i = c.loop-i.i in
    let x = c.index-declared-i.result in
    let made = columns_more t xs i x c.loop-i.columns.items c.loop-i.position c.in_ok-version_column.field-0 c.as_slice-declared.ensures c.loop-i-test.true c.index-declared-i.is c.loop-i.invariant.made c.loop-i.invariant.counted c.in_ok-version_column.ensures in
    elim c.if-is_value_column.branch [
      | then-is_value_column w ↦
          (let more = position_more t xs i x true c.loop-i-test.true c.index-declared-i.is (sym c.is_value_column.ensures ∙ w.if-is_value_column.true) in
          record {
            bound = omega (arith, w.position-is);
            counted = omega (arith, w.position-is, more, c.loop-i.invariant.counted);
            made = c.in_ok-push.ensures.items ∙ made;
          })
      | else-is_value_column w ↦
          (let more = position_more t xs i x false c.loop-i-test.true c.index-declared-i.is (sym c.is_value_column.ensures ∙ w.if-is_value_column.false) in
          record {
            bound = omega (arith, w.position-is);
            counted = omega (arith, w.position-is, more, c.loop-i.invariant.counted);
            made = c.in_ok-push.ensures.items ∙ made;
          })
    ]

pub returns : goal.returns
returns c =
    c.from_vec.ensures ∙ columns_end c.args.table.now c.as_slice-declared.result.now c.loop-i.i c.loop-i.columns.items c.as_slice-declared.ensures c.loop-i-test.false c.loop-i.invariant.made

use Rattle.std.proofs.Common.{◌∙◌, ap, arith, bytes_eq, length, sym}
use Rattle.std.specs.List.{position_or_len}
use Rattle.catalog_core.proofs.lemmas.table.Numbered.{names_before, names_with, names_without, position_end, position_found, position_more}
use Rattle.catalog_core.specs.query.Selection.{value_position}
use Rattle.catalog_core.proofs.table.columns.value_position.Goals as goal
use Rattle.catalog_core.proofs.table.columns.value_position.Goals.{then-is_value_column+else-is, else-is_value_column}

pub returns-then-is : goal.returns-then-is
unfolding value_position
returns-then-is c =
    position_found c.args.table.now c.args.name.now c.as_slice-columns.result.now c.loop-i.i c.index-columns-i.result c.loop-i.position c.as_slice-columns.ensures c.loop-i-test.true c.index-columns-i.is
    c.loop-i.invariant.count c.loop-i.invariant.before (sym c.is_value_column.ensures ∙ c.if-is_value_column.true) (sym c.is.ensures ∙ c.if-is.true)

pub loop-i-preserved : goal.loop-i-preserved
loop-i-preserved c =
    let t = c.args.table.now in
    let xs = c.as_slice-columns.result.now in
    elim c.if-is_value_column.branch [
      | then-is_value_column+else-is w ↦
          (let with = names_with t xs c.loop-i.i c.index-columns-i.result c.loop-i-test.true c.index-columns-i.is (sym c.is_value_column.ensures ∙ w.if-is_value_column.true) in
          let next = position_more c.args.name.now (names_before t xs c.loop-i.i) c.index-columns-i.result.name c.loop-i.position c.loop-i.invariant.count c.loop-i.invariant.before (sym w.is.ensures ∙ w.if-is.false) in
          record {
            bound = omega (arith, w.position-is);
            count = ap length with ∙ next.0 ∙ sym w.position-is;
            before = ap (position_or_len (bytes_eq c.args.name.now)) with ∙ next.1 ∙ sym w.position-is;
          })
      | else-is_value_column w ↦
          (let without = names_without t xs c.loop-i.i c.index-columns-i.result c.loop-i-test.true c.index-columns-i.is (sym c.is_value_column.ensures ∙ w.if-is_value_column.false) in
          record {
            bound = omega (arith, w.position-is);
            count = ap length without ∙ c.loop-i.invariant.count ∙ sym w.position-is;
            before = ap (position_or_len (bytes_eq c.args.name.now)) without ∙ c.loop-i.invariant.before ∙ sym w.position-is;
          })
    ]

pub returns : goal.returns
unfolding value_position
returns c =
    position_end c.args.table.now c.args.name.now c.as_slice-columns.result.now c.loop-i.i c.loop-i.position c.as_slice-columns.ensures c.loop-i-test.false c.loop-i.invariant.count c.loop-i.invariant.before

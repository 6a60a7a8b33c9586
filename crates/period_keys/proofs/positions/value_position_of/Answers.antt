use Rattle.std.proofs.Common.{◌∙◌, ℕ, Bool, ap, arith, length, sym}
use Rattle.std.specs.Prelude.{◌==◌}
use Rattle.std.specs.List.{position_or_len}
use Rattle.period_keys.proofs.Places.{places_before, places_with, places_without, position_end, position_found, position_more, same_place, other_place}
use Rattle.period_keys.proofs.positions.value_position_of.Goals as goal
use Rattle.period_keys.proofs.positions.value_position_of.Goals.{then-is_value_column+else-place-i, else-is_value_column}

pub returns-then-place-i : goal.returns-then-place-i
returns-then-place-i c =
    position_found c.args.def.now c.args.place c.as_slice-columns.result.now c.loop-i.i c.index-columns-i.result c.loop-i.position c.as_slice-columns.ensures c.loop-i-test.true c.index-columns-i.is
    c.loop-i.invariant.count c.loop-i.invariant.before (sym c.is_value_column.ensures ∙ c.if-is_value_column.true) (same_place c.args.place c.loop-i.i c.if-place-i.true)

pub loop-i-preserved : goal.loop-i-preserved
loop-i-preserved c =
    let t = c.args.def.now in
    let xs = c.as_slice-columns.result.now in
    let test : ℕ → Bool = λ other. c.args.place == other in
    elim c.if-is_value_column.branch [
      | then-is_value_column+else-place-i w ↦
          (let with = places_with t xs c.loop-i.i c.index-columns-i.result c.loop-i-test.true c.index-columns-i.is (sym c.is_value_column.ensures ∙ w.if-is_value_column.true) in
          let next = position_more c.args.place (places_before t xs c.loop-i.i) c.loop-i.i c.loop-i.position c.loop-i.invariant.count c.loop-i.invariant.before (other_place c.args.place c.loop-i.i w.if-place-i.false) in
          record {
            bound = omega (arith, w.position-is);
            count = ap length with ∙ next.0 ∙ sym w.position-is;
            before = ap (position_or_len test) with ∙ next.1 ∙ sym w.position-is;
          })
      | else-is_value_column w ↦
          (let without = places_without t xs c.loop-i.i c.index-columns-i.result c.loop-i-test.true c.index-columns-i.is (sym c.is_value_column.ensures ∙ w.if-is_value_column.false) in
          record {
            bound = omega (arith, w.position-is);
            count = ap length without ∙ c.loop-i.invariant.count ∙ sym w.position-is;
            before = ap (position_or_len test) without ∙ c.loop-i.invariant.before ∙ sym w.position-is;
          })
    ]

pub returns : goal.returns
returns c =
    position_end c.args.def.now c.args.place c.as_slice-columns.result.now c.loop-i.i c.loop-i.position c.as_slice-columns.ensures c.loop-i-test.false c.loop-i.invariant.count c.loop-i.invariant.before

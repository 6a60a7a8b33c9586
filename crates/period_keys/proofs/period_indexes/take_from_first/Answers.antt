use Rattle.std.proofs.Common.{◌≡◌, ◌+◌, ◌-◌, ◌<◌, ◌++◌, ◌∙◌, ℕ, List, length, set, get_or, map, sym, subst, arith}
use Rattle.std.proofs.lemmas.List.{get_or_default, length-set}
use Rattle.period_core.specs.declared.row.PeriodRow.{PeriodRow}
use Rattle.period_keys.specs.declared.period_indexes.PeriodIndex.{PeriodIndex}
use Rattle.period_keys.specs.PeriodIndexes.{AreKeysByEach, PartlyIndex, positions_by}
use Rattle.period_keys.proofs.Partly.{each_second, keys_at_place, partly_down, set_same}
use Rattle.period_keys.proofs.period_indexes.take_from_first.Goals as goal

pub take_all-requires : goal.take_all-requires
take_all-requires c =
    let indexes : List PeriodIndex = c.loop-left.indexes in
    let rows : List PeriodRow = c.args.rows.now in
    let i : ℕ = c.loop-left.left - 1 in
    let below : i < length indexes = omega (arith, c.loop-left.invariant.inside) in
    let index : PeriodIndex = get_or indexes i c.index-indexes-left.result in
    let made : AreKeysByEach rows (map positions_by indexes) c.args.keys.now = subst (λ (each : List (List ℕ)). AreKeysByEach rows each c.args.keys.now) (sym c.loop-left.invariant.same) c.requires.keys in
    c.as_slice.ensures ∙ keys_at_place rows indexes c.args.keys.now i index c.index-keys-left.result made below (get_or_default indexes i c.index-indexes-left.result index below) c.index-keys-left.is

pub loop-left-preserved : goal.loop-left-preserved
loop-left-preserved c =
    let indexes : List PeriodIndex = c.loop-left.indexes in
    let rows : List PeriodRow = c.args.rows.now in
    let i : ℕ = c.loop-left.left - 1 in
    let w : PeriodIndex = c.take_all.new.self in
    let below : i < length indexes = omega (arith, c.loop-left.invariant.inside) in
    let size : length (set indexes i w) ≡ length indexes = length-set indexes i w in
    let more : i + 1 ≡ c.loop-left.left = omega arith in
    record {
      inside = omega arith;
      same = set_same indexes i w c.index-indexes-left.result below c.take_all.ensures.same ∙ c.loop-left.invariant.same;
      partly = λ rest was.
          let here : PartlyIndex (rows ++ rest) rest indexes (i + 1) = subst (PartlyIndex (rows ++ rest) rest indexes) (sym more) (c.loop-left.invariant.partly rest was) in
          partly_down (rows ++ rest) rest indexes i w below here (c.take_all.ensures.rows rest ((here i c.index-indexes-left.result below).0 (omega arith)));
    }

pub returns-clause-rows : goal.returns-clause-rows
returns-clause-rows c = λ rest was.
    let rows : List PeriodRow = c.args.rows.now in
    let none : c.loop-left.left ≡ 0 = omega arith in
    each_second (rows ++ rest) rest c.loop-left.indexes (subst (PartlyIndex (rows ++ rest) rest c.loop-left.indexes) none (c.loop-left.invariant.partly rest was))

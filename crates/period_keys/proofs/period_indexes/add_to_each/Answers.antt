use Rattle.std.proofs.Common.{◌<◌, ◌++◌, ◌∙◌, ℕ, List, length, set, get_or, map, sym, subst, arith}
use Rattle.std.proofs.lemmas.List.{get_or_default}
use Rattle.std.proofs.lemmas.List.Sorted.{IsPermutation-append_comm}
use Rattle.period_core.specs.declared.row.PeriodRow.{PeriodRow}
use Rattle.period_keys.specs.declared.period_indexes.PeriodIndex.{PeriodIndex}
use Rattle.period_keys.specs.PeriodIndexes.{AreKeysByEach, Indexes, PartlyIndex, positions_by}
use Rattle.period_keys.proofs.Partly.{each_first, keys_at_place, partly_kept, partly_moved, partly_up, set_same}
use Rattle.period_keys.proofs.period_indexes.add_to_each.Goals as goal

pub add_all-requires : goal.add_all-requires
add_all-requires c =
    let indexes : List PeriodIndex = c.loop-i.indexes in
    let rows : List PeriodRow = c.args.rows.now in
    let i : ℕ = c.loop-i.i in
    let below : i < length indexes = omega arith in
    let index : PeriodIndex = get_or indexes i c.index-indexes-i.result in
    let made : AreKeysByEach rows (map positions_by indexes) c.args.keys.now = subst (λ (each : List (List ℕ)). AreKeysByEach rows each c.args.keys.now) (sym c.loop-i.invariant.same) c.requires in
    c.as_slice.ensures ∙ keys_at_place rows indexes c.args.keys.now i index c.index-keys-i.result made below (get_or_default indexes i c.index-indexes-i.result index below) c.index-keys-i.is

pub take_from_first-requires-clause-keys : goal.take_from_first-requires-clause-keys
take_from_first-requires-clause-keys c =
    let rows : List PeriodRow = c.args.rows.now in
    let same = set_same c.loop-i.indexes c.loop-i.i c.add_all.new.self c.index-indexes-i.result (omega arith) c.add_all.ensures.same ∙ c.loop-i.invariant.same in
    subst (λ (each : List (List ℕ)). AreKeysByEach rows each c.args.keys.now) (sym same) c.requires

pub returns-in-Err-clause-same : goal.returns-in-Err-clause-same
returns-in-Err-clause-same c =
    c.take_from_first.ensures.same ∙ set_same c.loop-i.indexes c.loop-i.i c.add_all.new.self c.index-indexes-i.result (omega arith) c.add_all.ensures.same ∙ c.loop-i.invariant.same

pub returns-in-Err-clause-err : goal.returns-in-Err-clause-err
returns-in-Err-clause-err c = λ before each.
    let indexes : List PeriodIndex = c.loop-i.indexes in
    let rows : List PeriodRow = c.args.rows.now in
    let i : ℕ = c.loop-i.i in
    let w : PeriodIndex = c.add_all.new.self in
    let below : i < length indexes = omega arith in
    let partly : PartlyIndex (before ++ rows) before indexes i = c.loop-i.invariant.partly before each in
    let was : Indexes before w = c.in-Err.ensures.err before ((partly i c.index-indexes-i.result below).1 (omega arith)) in
    c.take_from_first.ensures.rows before
    (partly_moved (before ++ rows) (rows ++ before) before (set indexes i w) i (IsPermutation-append_comm before rows) (partly_kept (before ++ rows) before indexes i w below partly was))

pub loop-i-preserved : goal.loop-i-preserved
loop-i-preserved c =
    let indexes : List PeriodIndex = c.loop-i.indexes in
    let rows : List PeriodRow = c.args.rows.now in
    let i : ℕ = c.loop-i.i in
    let w : PeriodIndex = c.add_all.new.self in
    let below : i < length indexes = omega arith in
    record {
      same = set_same indexes i w c.index-indexes-i.result below c.add_all.ensures.same ∙ c.loop-i.invariant.same;
      partly = λ before each.
          let partly : PartlyIndex (before ++ rows) before indexes i = c.loop-i.invariant.partly before each in
          partly_up (before ++ rows) before indexes i w below partly (c.in_default.ensures.ok before ((partly i c.index-indexes-i.result below).1 (omega arith)));
    }

pub returns-clause-ok : goal.returns-clause-ok
returns-clause-ok c = λ before each.
    each_first (before ++ c.args.rows.now) before c.loop-i.indexes c.loop-i.i (omega arith) (c.loop-i.invariant.partly before each)

use Rattle.std.proofs.Common.{◌≡◌, ◌<◌, get_or, ◌++◌, [], List, take, drop, length, subst, arith}
use Rattle.std.proofs.lemmas.List.{length-take-le, get_or_default}
use Rattle.period_core.specs.declared.row.PeriodRow.{PeriodRow}
use Rattle.period_keys.specs.Index.{IsIndexOf}
use Rattle.period_keys.proofs.Indexes.{taken_step, drop_all}
use Rattle.period_keys.proofs.changes.take_first.Goals as goal

pub loop-i-preserved : goal.loop-i-preserved
loop-i-preserved c = λ positions rest made before.
    let read : PeriodRow = c.index-rows-i.result in
    let row : PeriodRow = get_or c.args.rows.now c.loop-i.i read in
    let below : c.loop-i.i < length c.args.rows.now = omega (arith, c.requires.count) in
    taken_step positions c.args.keys.now c.args.rows.now c.args.count c.loop-i.i rest c.index-keys-i.result row c.loop-i.index c.take_out.new.self c.take_out.result
    made (omega arith) c.requires.count c.index-keys-i.is (get_or_default c.args.rows.now c.loop-i.i read row below) c.take_out.ensures.taken c.take_out.ensures.absent c.take_out.ensures.others (c.loop-i.invariant positions rest made before)

pub returns : goal.returns
returns c = λ positions rest made before.
    let size = length-take-le c.args.count c.args.rows.now c.requires.count in
    let none : drop c.loop-i.i (take c.args.count c.args.rows.now) ≡ [] = drop_all (take c.args.count c.args.rows.now) c.loop-i.i (omega (arith, size)) in
    subst (λ (list : List PeriodRow). IsIndexOf positions (list ++ rest) c.loop-i.index) none (c.loop-i.invariant positions rest made before)

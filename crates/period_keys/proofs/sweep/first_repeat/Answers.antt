use Rattle.std.proofs.Common.{◌<◌, List, ℕ, length, arith}
use Rattle.period_core.specs.declared.row.PeriodRow.{PeriodRow}
use Rattle.period_keys.proofs.SweepSteps.{found_all, next_latest, turn}
use Rattle.period_keys.proofs.sweep.first_repeat.Goals as goal

pub loop-next-preserved : goal.loop-next-preserved
loop-next-preserved c =
    let rows : List PeriodRow = c.args.rows.now in
    let n : ℕ = c.loop-next.next in
    let below : n < length rows = omega arith in
    let inv = c.loop-next.invariant in
    let picked = next_latest rows n c.loop-next.latest c.latest_with-latest.result c.requires below inv.place inv.last inv.reach c.latest_with-latest.ensures in
    let days = turn rows n c.loop-next.latest c.loop-next.found c.day_reached.result c.earlier-found.result c.index-rows-latest.result c.index-rows-next.result c.requires below inv.place c.index-rows-latest.is c.index-rows-next.is inv.last inv.reach c.day_reached.ensures c.earlier-found.ensures inv.found in
    record { place = picked.0; bound = λ more. omega arith; last = picked.1; reach = picked.2; found = days }

pub returns : goal.returns
returns c = found_all c.args.rows.now c.loop-next.next c.loop-next.found (omega arith) c.loop-next.invariant.bound c.loop-next.invariant.found

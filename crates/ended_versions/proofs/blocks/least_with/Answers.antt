use Rattle.std.proofs.Common.{ℕ, ◌+◌, ◌-◌, arith}
use Rattle.std.proofs.lemmas.Int.{ints}
use Rattle.std.proofs.lemmas.Nat.{and_le_r}
use Rattle.ended_versions.proofs.EntryFacts.{least_on}
use Rattle.ended_versions.proofs.blocks.least_with.Goals as goal

pub loop-place-preserved : goal.loop-place-preserved
loop-place-preserved c =
    let inv = c.loop-place.invariant in
    let place : ℕ = c.loop-place.place in
    record {
      inside = omega (arith, inv.inside, c.block_start-place.ensures, and_le_r (place - 1 + 1) (place - 1), c.loop-place-test.true);
      own = (let first = c.earlier-earliest_from.ensures.by_first in let was = inv.own in omega (arith, ints));
      others = least_on c.args.entries.now c.index-entries-place.result c.loop-place.earliest_from c.earlier-earliest_from.result place c.block_start-place.result c.requires (omega (arith, c.loop-place-test.true)) inv.inside
          c.index-entries-place.is c.block_start-place.ensures c.earlier-earliest_from.ensures.by_second c.earlier-earliest_from.ensures.by_first inv.others;
    }

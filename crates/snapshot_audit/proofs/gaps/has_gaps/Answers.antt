use Rattle.std.proofs.Common.{refl, arith}
use Rattle.snapshot_audit.proofs.Neighbours.{gaps_more, gaps_not, gaps_from_neighbours}
use Rattle.snapshot_audit.proofs.gaps.has_gaps.Goals as goal

pub returns-then-not-is_before_with_gap : goal.returns-then-not-is_before_with_gap
returns-then-not-is_before_with_gap c = (
  λ e. cc,
  λ gaps. absurd (gaps_not c.args.rows.now c.loop-place.place c.index-rows-place.result c.index-rows-place-in-loop-place.result
      c.loop-place.invariant.0 (omega arith) c.index-rows-place.is c.index-rows-place-in-loop-place.is
      (λ is. (let wrong = c.if-not-is_before_with_gap.ensures.1 is in cc)) gaps),
)

pub loop-place-preserved : goal.loop-place-preserved
loop-place-preserved c = (
  omega arith,
  gaps_more c.args.rows.now c.loop-place.place c.index-rows-place.result c.index-rows-place-in-loop-place.result
      c.loop-place.invariant.0 (omega arith) c.index-rows-place.is c.index-rows-place-in-loop-place.is
      (c.if-not-is_before_with_gap.ensures.0 refl) c.loop-place.invariant.1,
)

pub returns : goal.returns
returns c = (
  λ _. gaps_from_neighbours c.args.rows.now (λ k d h. c.loop-place.invariant.1 k d (omega arith)),
  λ _. refl,
)

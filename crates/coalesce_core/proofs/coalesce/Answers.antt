use Rattle.std.proofs.Common.{subst}
use Rattle.std.specs.Vec.{vec_len}
use Rattle.temporal_model.proofs.Certificate.{shortest, unique}
use Rattle.temporal_model.proofs.Snapshots.{Equivalent-permutation, Equivalent-trans}
use Rattle.coalesce_core.specs.Coalesced.{IsCoalesced, IsCoalescedOf}
use Rattle.coalesce_core.proofs.Steps.{certified, ordered}
use Rattle.coalesce_core.proofs.Streams.{ordered_along, coalesced_whole}
use Rattle.coalesce_core.proofs.coalesce.Goals as goal

pub new-requires-clause-ordered : goal.new-requires-clause-ordered
new-requires-clause-ordered c =
    ordered_along c.into_iter.result c.in_ok-sorted.sorted.items c.into_iter.ensures.rest c.in_ok-sorted.ensures.ordered

-- the collected list is the coalesced list of the sorted rows
collected : (c : goal.In_ok-merged) → IsCoalescedOf c.in_ok-sorted.sorted.items c.in_ok-merged.merged.items
collected c =
    coalesced_whole c.into_iter.result c.in_ok-sorted.sorted.items c.in_ok-merged.merged.items (vec_len c.in_ok-merged.merged) c.new.result
    c.into_iter.ensures.rest c.into_iter.ensures.runs c.new.ensures.runs (c.in_ok-merged.ensures.runs tt)

pub returns-clause-equivalent : goal.returns-clause-equivalent
returns-clause-equivalent c =
    Equivalent-trans c.args.rows.items c.in_ok-sorted.sorted.items c.in_ok-merged.merged.items
    (Equivalent-permutation c.args.rows.items c.in_ok-sorted.sorted.items c.in_ok-sorted.ensures.same) (collected c).equivalent

pub returns-clause-shortest : goal.returns-clause-shortest
returns-clause-shortest c = shortest _ (certified c.in_ok-merged.merged.items (collected c).coalesced)

pub returns-clause-ordered : goal.returns-clause-ordered
returns-clause-ordered c = ordered c.in_ok-merged.merged.items (collected c).coalesced

pub returns-clause-certified : goal.returns-clause-certified
returns-clause-certified c = certified c.in_ok-merged.merged.items (collected c).coalesced

pub returns-clause-unique : goal.returns-clause-unique
returns-clause-unique c = unique _ (certified c.in_ok-merged.merged.items (collected c).coalesced)

pub returns-then-is_coalesced-clause-shortest : goal.returns-then-is_coalesced-clause-shortest
returns-then-is_coalesced-clause-shortest c = shortest c.args.rows.items (certified c.args.rows.items (subst IsCoalesced c.as_slice.ensures.value (c.is_coalesced.ensures c.if-is_coalesced.true)))

pub returns-then-is_coalesced-clause-certified : goal.returns-then-is_coalesced-clause-certified
returns-then-is_coalesced-clause-certified c = certified c.args.rows.items (subst IsCoalesced c.as_slice.ensures.value (c.is_coalesced.ensures c.if-is_coalesced.true))

pub returns-then-is_coalesced-clause-unique : goal.returns-then-is_coalesced-clause-unique
returns-then-is_coalesced-clause-unique c = unique c.args.rows.items (certified c.args.rows.items (subst IsCoalesced c.as_slice.ensures.value (c.is_coalesced.ensures c.if-is_coalesced.true)))

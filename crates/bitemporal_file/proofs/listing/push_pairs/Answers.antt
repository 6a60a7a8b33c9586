use Rattle.std.proofs.lemmas.Slice.Zip.{either_empty_from_Zip}
use Rattle.bitemporal_file.proofs.ListingFacts.{pairs-end}
use Rattle.bitemporal_file.proofs.listing.push_pairs.Goals as goal

pub returns : goal.returns
returns c =
    pairs-end c.args.child.now c.args.parent.now _ _ _ _ (either_empty_from_Zip c.loop-place.place-iterator c.next.new.self c.next.result c.in-None.is c.next.ensures.steps) c.loop-place.invariant

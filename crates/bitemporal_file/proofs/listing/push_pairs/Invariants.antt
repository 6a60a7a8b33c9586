use Rattle.std.proofs.Common.{◌≡◌, ◌++◌, string_bytes}
use Rattle.std.specs.Prelude.{flat_map}
use Rattle.std.specs.List.{zip}
use Rattle.bitemporal_file.specs.Listing.{next_field, pair_names}
use Rattle.bitemporal_file.proofs.listing.push_pairs.Given as goal

-- the text written, and the text to come
abbrev pub invariant-loop-place : goal.invariant-loop-place
invariant-loop-place l =
    string_bytes l.text ++ flat_map next_field (flat_map (pair_names l.child l.parent) (zip l.place-iterator.a.rest.now l.place-iterator.b.rest.now))
    ≡ string_bytes l.fn.text ++ flat_map next_field (flat_map (pair_names l.child l.parent) (zip l.own l.keys))

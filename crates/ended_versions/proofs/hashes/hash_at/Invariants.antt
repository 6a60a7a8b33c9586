use Rattle.std.proofs.Common.{◌≡◌, take}
use Rattle.std.specs.List.{filter_map, slice_get}
use Rattle.ended_versions.specs.Hashes.{hash_of}
use Rattle.ended_versions.proofs.hashes.hash_at.Given as goal

abbrev pub invariant-loop-position : goal.invariant-loop-position
invariant-loop-position l = l.hash ≡ hash_of (filter_map (slice_get l.values) (take l.position-index l.positions))

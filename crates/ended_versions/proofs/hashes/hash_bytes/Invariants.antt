use Rattle.std.proofs.Common.{◌≡◌, take}
use Rattle.ended_versions.specs.Hashes.{hash_bytes}
use Rattle.ended_versions.proofs.hashes.hash_bytes.Given as goal

abbrev pub invariant-loop-byte : goal.invariant-loop-byte
invariant-loop-byte l = l.hash ≡ hash_bytes l.fn.start (take l.byte-index l.bytes)

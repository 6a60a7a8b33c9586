use Rattle.std.proofs.Common.{◌++◌, ℕ, List, length, map, take}
use Rattle.std.specs.Prelude.{flat_map}
use Rattle.md5.specs.Md5.{Holds}
use Rattle.history_model.specs.Versions.{plain_version}
use Rattle.history_sums.specs.Sums.{count_bytes, version_bytes}
use Rattle.history_sums.proofs.pieces.add_versions.Given as goal

-- the sum holds the number of the versions, and those so far
abbrev pub invariant-loop-version : goal.invariant-loop-version
invariant-loop-version l =
    (bytes : List ℕ) → Holds l.fn.sum bytes → Holds l.sum (bytes ++ (count_bytes (length l.version-items) ++ flat_map version_bytes (map plain_version (take l.version-index l.version-items))))

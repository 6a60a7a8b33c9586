use Rattle.std.proofs.Common.{◌++◌, ℕ, List, length, take}
use Rattle.std.specs.Prelude.{flat_map}
use Rattle.md5.specs.Md5.{Holds}
use Rattle.history_sums.specs.Sums.{count_bytes, definition_bytes}
use Rattle.history_sums.proofs.pieces.add_definitions.Given as goal

-- the sum holds the number of the definitions, and those so far
abbrev pub invariant-loop-table : goal.invariant-loop-table
invariant-loop-table l =
    (bytes : List ℕ) → Holds l.fn.sum bytes → Holds l.sum (bytes ++ (count_bytes (length l.tables) ++ flat_map definition_bytes (take l.table-index l.tables)))

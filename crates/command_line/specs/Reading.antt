-- The bytes of a script for which its reader is asked.
use Rattle.std.specs.Prelude.{◌≤◌, ◌+◌, ℕ, List, Option, length, take}
use Rattle.std.specs.Io.KnownBytes.{Consumes}

-- the bytes that are read of a script that may have `most`: one more shows that it has too many
abbrev pub read_of : ℕ → List ℕ → List ℕ
read_of most all = take (most + 1) all

-- at most `most` of known bytes are taken, from the front
abbrev pub TakesAtMost : ℕ → Option (List ℕ) → Option (List ℕ) → Type 0
TakesAtMost most old new = (bytes : List ℕ) × Consumes old new bytes × (length bytes ≤ most)

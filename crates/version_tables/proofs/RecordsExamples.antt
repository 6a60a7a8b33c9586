-- Worked rows and changes, by computation.
use Rattle.std.proofs.Common.{◌≡◌, refl, pos, [], ◌∷◌, true, false}
use Rattle.period_core.specs.Moments.{forever}
use Rattle.sqlite.specs.declared.types.Value.TheVariants.{Int, Blob}
use Rattle.version_tables.specs.Represents.{Version, Records, version, key_of, same_key, begun, added, with_definition, with_clock, ended, stored}

-- two versions of table 1, over the first month and the second of 1970: the first was recorded at
-- moment 5 and closed at 9, the second is current; and one of table 2
abbrev january : Version
january = version 1 (2 ∷ 97 ∷ 0 ∷ 0 ∷ []) (pos 0) (pos 31) (pos 5) (pos 9)

abbrev february : Version
february = version 1 (2 ∷ 97 ∷ 0 ∷ 0 ∷ []) (pos 31) (pos 59) (pos 5) forever

abbrev other : Version
other = version 2 [] (pos 0) (pos 31) (pos 9) forever

abbrev filled : Records
filled = record { form = pos 1; clock = pos 9; tables = (2 ∷ []) ∷ (3 ∷ []) ∷ []; versions = january ∷ february ∷ other ∷ [] }

january-stored : stored january ≡ Int (pos 1) ∷ Blob (2 ∷ 97 ∷ 0 ∷ 0 ∷ []) ∷ Int (pos 0) ∷ Int (pos 31) ∷ Int (pos 5) ∷ Int (pos 9) ∷ []
january-stored = refl

-- the key has the period's start, and not its end
february-keyed : same_key (key_of 1 (2 ∷ 97 ∷ 0 ∷ 0 ∷ []) (pos 31) (pos 5)) february ≡ true
february-keyed = refl

january-apart : same_key (key_of 1 (2 ∷ 97 ∷ 0 ∷ 0 ∷ []) (pos 31) (pos 5)) january ≡ false
january-apart = refl

february-ended : (ended (key_of 1 (2 ∷ 97 ∷ 0 ∷ 0 ∷ []) (pos 31) (pos 5)) (pos 20) filled).versions ≡ version 1 (2 ∷ 97 ∷ 0 ∷ 0 ∷ []) (pos 31) (pos 59) (pos 5) (pos 20) ∷ january ∷ other ∷ []
february-ended = refl

-- a store begun, then a definition, the clock, and a version
grown : added other (with_clock (pos 9) (with_definition (2 ∷ []) (begun (pos 1) (pos 0)))) ≡ record { form = pos 1; clock = pos 9; tables = (2 ∷ []) ∷ []; versions = other ∷ [] }
grown = refl

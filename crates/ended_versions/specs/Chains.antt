-- Places in chains, one for each hash: from the last place of a hash to the one before it.
use Rattle.std.specs.Prelude.{◌≡◌, ◌+◌, ◌<◌, ◌≤◌, ℕ, Option, List, Some, length, map}
use Rattle.std.specs.Prelude.{slice_index_or}
use Rattle.std.specs.BTreeMap.{BTreeMap, get}
use Rattle.std.specs.Option.{option_map_or}
use Rattle.std.specs.Ordering.{nat_cmp}
use Rattle.ended_versions.specs.declared.chains.Link.{Link}

-- the hashes of the places, in their order
abbrev pub hashes : List Link → List ℕ
hashes = map (λ (link : Link). link.hash)

-- the first place after a place; if there is none, the first of all
abbrev pub behind : Option ℕ → ℕ
behind place = option_map_or (λ (p : ℕ). p + 1) place 0

-- the place is the last before a bound that has the hash; if it is none, none has
pub record IsLastPlace (all : List ℕ) (bound hash : ℕ) (place : Option ℕ) : Type 0 where
  pub within : behind place ≤ bound
  pub there : (p d : ℕ) → place ≡ Some p → slice_index_or all p d ≡ hash
  pub only : (other d : ℕ) → behind place ≤ other → other < bound
      → slice_index_or all other d ≡ hash → ⊥

-- each link has the place before it of the same hash, and the map the last place of each hash
pub record AreChained (links : List Link) (last : BTreeMap ℕ ℕ) : Type 0 where
  pub last_of : (hash : ℕ) → IsLastPlace (hashes links) (length links) hash (get nat_cmp last hash)
  pub before : (place : ℕ) (d : Link) → place < length links
      → IsLastPlace (hashes links) place (slice_index_or links place d).hash
      (slice_index_or links place d).before

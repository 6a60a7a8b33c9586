-- Hashes of values, by their bytes: versions with equal values at some positions have the same.
use Rattle.std.specs.Prelude.{◌==◌, ◌+◌, ◌*◌, ◌%◌, ◌||◌, ℕ, Bool, List, length, nat_lt, not}
use Rattle.std.specs.Prelude.{slice_get}
use Rattle.std.specs.List.{filter_map, fold, list_all}
use Rattle.period_core.specs.Encoding.{encoded}
use Rattle.period_core.specs.declared.value.Value.{Value}
use Rattle.period_core.specs.declared.version.VersionRow.{VersionRow}

-- the hash of bytes with one more, modulo the greatest prime of 32 bits
abbrev pub hash_byte : ℕ → ℕ → ℕ
hash_byte hash byte = (hash * 257 + byte) % 4_294_967_291

-- the hash of bytes with more bytes, one after the other
abbrev pub hash_bytes : ℕ → List ℕ → ℕ
hash_bytes = fold hash_byte

-- the hash of values
abbrev pub hash_of : List Value → ℕ
hash_of values = hash_bytes 0 (encoded values)

-- the hash of a version's values at these positions
abbrev pub hash_at : List ℕ → VersionRow → ℕ
hash_at positions version = hash_of (filter_map (slice_get version.values) positions)

-- the version's values at these positions have the hash of a key
abbrev pub shares_hash : List ℕ → List Value → VersionRow → Bool
shares_hash positions key version = hash_at positions version == hash_of key

-- there is a value at each of these positions
abbrev pub has_each : List ℕ → List Value → Bool
has_each positions values = list_all (λ position. nat_lt position (length values)) positions

-- the version may have this key at these positions: its values there have the hash of the key, or
-- one of them is missing
abbrev pub may_have : List ℕ → List Value → VersionRow → Bool
may_have positions key version =
    not (has_each positions version.values) || shares_hash positions key version

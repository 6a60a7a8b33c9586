use Rattle.std.proofs.Common.{◌≡◌, ◌++◌, ℕ, string_bytes, take}
use Rattle.std.specs.Prelude.{flat_map}
use Rattle.bitemporal_file.specs.Listing.{name_at, next_field}
use Rattle.bitemporal_file.proofs.listing.push_names.Given as goal

abbrev pub invariant-loop-place : goal.invariant-loop-place
invariant-loop-place l = string_bytes l.text ≡ string_bytes l.fn.text ++ flat_map (λ (place : ℕ). next_field (name_at l.table place)) (take l.place-index l.places)

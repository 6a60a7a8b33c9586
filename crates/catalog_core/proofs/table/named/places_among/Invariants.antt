use Rattle.std.specs.Prelude.{◌≡◌, ℕ, Some, length, map, take, true}
use Rattle.catalog_core.specs.table.IsDefinition.{are_places}
use Rattle.catalog_core.specs.table.Naming.{place_among}
use Rattle.catalog_core.proofs.table.named.places_among.Given as goal

abbrev pub invariant-loop-name : goal.invariant-loop-name
invariant-loop-name g l =
    (map (place_among g.T.Named.named l.elements) (take l.name-index l.names) ≡ map (λ (i : ℕ). Some i) l.places.items)
    × (are_places (length l.elements) l.places.items ≡ true)

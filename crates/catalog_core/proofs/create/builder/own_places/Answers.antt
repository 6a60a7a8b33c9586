use Rattle.catalog_core.proofs.create.builder.own_places.Goals as goal

pub returns : goal.returns
returns c = rw c.as_slice.ensures at c.places_among.ensures.value

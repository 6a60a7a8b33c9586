use Rattle.std.proofs.lemmas.Result.{err_from_is_err_and}
use Rattle.catalog_core.proofs.lemmas.bytes.Fronts.{place_code, stopped}
use Rattle.catalog_core.specs.bytes.DefinitionReading.{is_below}
use Rattle.catalog_core.specs.bytes.DefinitionValues.{place_values}
use Rattle.catalog_core.proofs.bytes.value_reader.read_places.Goals as goal

pub returns-in_err-place-clause-malformed : goal.returns-in_err-place-clause-malformed
returns-in_err-place-clause-malformed c =
    let p = err_from_is_err_and c.from_residual.result c.from_residual.ensures.1 in
    rw (p.1, p.2)
    (λ bad. stopped (is_below c.args.limit) place_values (place_code (is_below c.args.limit)) c.args.values.now c.args.count c.places._turn c.places.places.items c.places.rest.now
    c.places-test.true c.places.invariant (c.in_err-place.ensures.malformed bad))

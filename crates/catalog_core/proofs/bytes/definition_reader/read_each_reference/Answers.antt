use Rattle.std.proofs.lemmas.Result.{err_from_is_err_and}
use Rattle.catalog_core.proofs.lemmas.bytes.Fronts.{reference_code, stopped}
use Rattle.catalog_core.specs.bytes.DefinitionReading.{is_small_reference}
use Rattle.catalog_core.specs.bytes.DefinitionValues.{reference_values}
use Rattle.catalog_core.proofs.bytes.definition_reader.read_each_reference.Goals as goal

pub returns-in_err-reference-clause-malformed : goal.returns-in_err-reference-clause-malformed
returns-in_err-reference-clause-malformed c =
    let p = err_from_is_err_and c.from_residual.result c.from_residual.ensures.1 in
    rw (p.1, p.2)
    (λ bad. stopped (is_small_reference c.args.count) reference_values (reference_code c.args.count) c.args.values.now c.args.length c.references._turn c.references.references.items c.references.rest.now
    c.references-test.true c.references.invariant (c.in_err-reference.ensures.malformed bad))

use Rattle.std.proofs.lemmas.Result.{err_from_is_err_and}
use Rattle.catalog_core.proofs.lemmas.bytes.Fronts.{column_code, stopped}
use Rattle.catalog_core.specs.bytes.DefinitionReading.{is_column}
use Rattle.catalog_core.specs.bytes.DefinitionValues.{column_values}
use Rattle.catalog_core.proofs.bytes.definition_reader.read_each_column.Goals as goal

pub returns-in_err-column-clause-malformed : goal.returns-in_err-column-clause-malformed
returns-in_err-column-clause-malformed c =
    let p = err_from_is_err_and c.from_residual.result c.from_residual.ensures.1 in
    rw (p.1, p.2)
    (λ bad. stopped is_column column_values column_code c.args.values.now c.args.count c.columns._turn c.columns.columns.items c.columns.rest.now
    c.columns-test.true c.columns.invariant (c.in_err-column.ensures.malformed bad))

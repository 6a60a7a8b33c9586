use Rattle.std.proofs.lemmas.Result.{err_from_is_err_and}
use Rattle.version_store.proofs.row_checks.exact_values.Goals as goal

pub returns-in_err-values-clause-malformed : goal.returns-in_err-values-clause-malformed
returns-in_err-values-clause-malformed c =
    let p = err_from_is_err_and c.from_residual.result c.from_residual.ensures.1 in
    rw (p.1, p.2) c.in_err-values.ensures.malformed

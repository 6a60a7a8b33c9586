use Rattle.version_store.proofs.RowsRead.{from_stored, to_stored}
use Rattle.version_store.proofs.version_reader.dated_row.Goals as goal

pub returns-in_err-from : goal.returns-in_err-from
returns-in_err-from c = rw c.from_residual-in_err-from.ensures (λ v dated is. c.in_err-from.ensures (from_stored c.args.row.now v is c.args.form dated))

pub returns-in_err-to : goal.returns-in_err-to
returns-in_err-to c = rw c.from_residual-in_err-to.ensures (λ v dated is. c.in_err-to.ensures (to_stored c.args.row.now v is c.args.form dated))

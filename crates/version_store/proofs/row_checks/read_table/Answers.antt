use Rattle.std.proofs.Common.{◌∙◌, refl, sym}
use Rattle.std.proofs.lemmas.Result.{err_from_is_err_and}
use Rattle.version_tables.proofs.ColumnFacts.{never}
use Rattle.version_store.proofs.Judged.{encodes, lawful_by}
use Rattle.version_store.proofs.row_checks.read_table.Goals as goal

pub returns-in_err-definition-clause-bad : goal.returns-in_err-definition-clause-bad
returns-in_err-definition-clause-bad c =
    let p = err_from_is_err_and c.from_residual.result c.from_residual.ensures.1 in
    rw p.1 (λ bad d is. c.in_err-definition.ensures.malformed (p.2.1 bad) (encodes c.args.catalog.now.tables c.args.row.now c.in-Some.bytes.now d is c.in-Some.ensures))

pub returns-then-lawful-clause-dated : goal.returns-then-lawful-clause-dated
returns-then-lawful-clause-dated c = c.lawful.ensures.dated c.if-lawful.true

pub returns-then-lawful-clause-distinct : goal.returns-then-lawful-clause-distinct
returns-then-lawful-clause-distinct c = c.lawful.ensures.distinct c.if-lawful.true

pub returns-else-lawful-clause-bad : goal.returns-else-lawful-clause-bad
returns-else-lawful-clause-bad c = λ _ d is.
    let read = c.in_ok-definition.ensures.found in
    never (sym c.if-lawful.false ∙ c.lawful.ensures.given.1 (lawful_by c.args.catalog.now.tables c.args.row.now c.in-Some.bytes.now d c.in_ok-definition.definition is c.in-Some.ensures (read.0, read.1, refl) read.2))

use Rattle.std.proofs.Common.{ℤ, arith, of_z, subst, to_z, w64}
use Rattle.std.proofs.lemmas.Int.{to_z-of_z}
use Rattle.std.proofs.lemmas.Result.{err_from_is_err_and}
use Rattle.version_store.specs.GoodStore.{IsReadAs, IsVersionRow}
use Rattle.version_store.proofs.ReadRows.{number_of_table}
use Rattle.version_store.proofs.row_checks.read_row.Goals as goal

pub push_row-requires : goal.push_row-requires
push_row-requires c =
    let known = number_of_table c.args.form c.args.catalog.now.tables (to_z w64 (of_z w64 c.args.clock)) c.args.row.now c.in_ok-number.number c.in_ok-number.version c.in_ok-number.ensures.good in
    (known.0, omega (arith, known.1, c.requires))

pub returns-clause-read : goal.returns-clause-read
returns-clause-read c =
    let number = c.in_ok-number.number in
    let version = c.in_ok-number.version in
    let clock = to_z-of_z w64 c.args.clock c.ranges.clock in
    (number, version, subst (λ (n : ℤ). IsReadAs c.args.form c.args.catalog.now.tables n c.args.row.now number version) clock c.in_ok-number.ensures.good, c.in_ok-push_row.ensures)

pub returns-in_err-number-clause-bad : goal.returns-in_err-number-clause-bad
returns-in_err-number-clause-bad c =
    let p = err_from_is_err_and c.from_residual.result c.from_residual.ensures.1 in
    let clock = to_z-of_z w64 c.args.clock c.ranges.clock in
    rw (p.1, p.2) (λ bad. subst (λ (n : ℤ). ¬ IsVersionRow c.args.form c.args.catalog.now.tables n c.args.row.now) clock (c.in_err-number.ensures.bad bad))

use Rattle.std.proofs.Common.{ℤ, subst, w64}
use Rattle.std.proofs.lemmas.Int.{to_z-of_z}
use Rattle.std.proofs.lemmas.Result.{err_from_is_err_and}
use Rattle.version_store.proofs.VersionLists.{HasBadRow, IsReadAll}
use Rattle.version_store.proofs.version_lists.read_versions.Goals as goal

pub returns-clause-read : goal.returns-clause-read
returns-clause-read g c clean has =
    subst (λ (n : ℤ). IsReadAll g.S.Store c.args.form c.args.catalog.now.tables n c.args.connection.now c.fill_lists.new.lists.items) (to_z-of_z w64 c.args.clock c.ranges.clock)
    (c.in_ok-fill_lists.ensures.read clean has)

pub returns-in_err-fill_lists-clause-bad : goal.returns-in_err-fill_lists-clause-bad
returns-in_err-fill_lists-clause-bad g c clean has =
    let p = err_from_is_err_and c.from_residual-in_err-fill_lists.result c.from_residual-in_err-fill_lists.ensures.1 in
    rw (p.1, p.2) (λ bad. subst (λ (n : ℤ). HasBadRow g.S.Store c.args.form c.args.catalog.now.tables n c.args.connection.now) (to_z-of_z w64 c.args.clock c.ranges.clock) (c.in_err-fill_lists.ensures.bad clean has bad))

pub returns-in_err-fill_lists-clause-why : goal.returns-in_err-fill_lists-clause-why
returns-in_err-fill_lists-clause-why g c clean has on =
    let p = err_from_is_err_and c.from_residual-in_err-fill_lists.result c.from_residual-in_err-fill_lists.ensures.1 in
    rw (p.1, p.2) (c.in_err-fill_lists.ensures.why clean has on)

use Rattle.std.proofs.Common.{◌≡◌, arith, length}
use Rattle.std.proofs.lemmas.Result.{err_from_is_err_and}
use Rattle.catalog_core.proofs.lemmas.bytes.Fronts.{no_keys}
use Rattle.catalog_core.proofs.bytes.definition_reader.read_reference.Goals as goal

pub returns-in_err-keys-clause-malformed : goal.returns-in_err-keys-clause-malformed
returns-in_err-keys-clause-malformed c =
    let count : c.len.result ≡ length c.in_ok-own.own.items = omega (arith, c.len.ensures, c.in_ok-own.own.ok.0) in
    let p = err_from_is_err_and c.from_residual-in_err-keys.result c.from_residual-in_err-keys.ensures.1 in
    rw (p.1, p.2)
    (λ bad. no_keys c.args.count c.in_ok-parent.parent c.in_ok-own.own.items c.args.values.now c.in_ok-parent.after_parent.now c.in_ok-own.after_own.now
    c.in_ok-parent.ensures.found.1 c.in_ok-own.ensures.found.1 ((rw count at c.in_err-keys.ensures.malformed) bad))

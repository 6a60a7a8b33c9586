use Rattle.std.proofs.Common.{inl, inr, refl, sym}
use Rattle.std.proofs.lemmas.Result.{err_from_is_err_and}
use Rattle.bitemporal_file.proofs.read_only.inspect_read.Goals as goal

pub returns-in_err-connection-clause-inspects : goal.returns-in_err-connection-clause-inspects
returns-in_err-connection-clause-inspects g c =
    let p = err_from_is_err_and c.from_residual.result c.from_residual.ensures.1 in
    rw (p.1, p.2, ← c.as_str.ensures.value) (inl (c.in_err-connection.ensures.refused, refl))

pub returns-in_err-told-in-Ok-clause-inspects : goal.returns-in_err-told-in-Ok-clause-inspects
returns-in_err-told-in-Ok-clause-inspects g c =
    let p = err_from_is_err_and c.from_residual-in_err-told-in-Ok.result c.from_residual-in_err-told-in-Ok.ensures.1 in
    rw (p.1, p.2, ← c.as_str.ensures.value) (inr (
      c.in_ok-connection.connection,
      c.in-Ok.connection,
      c.in_ok-connection.ensures.opened,
      tt,
      inr (c.in-Ok.told, c.in-Ok.ensures.usable, c.in-Ok.ensures.others, record { unreported = refl; same = c.in-Ok.ensures.same; told = c.in-Ok.ensures.told; fault = c.in-Ok.ensures.fault }, rw c.in_err-told-in-Ok.was refl),
    ))

pub returns-in_ok-told-in-Ok-clause-inspects : goal.returns-in_ok-told-in-Ok-clause-inspects
returns-in_ok-told-in-Ok-clause-inspects g c =
    rw (← c.as_str.ensures.value) (
      c.in_ok-connection.connection,
      c.in-Ok.connection,
      c.in_ok-connection.ensures.opened,
      tt,
      c.in-Ok.ensures.usable,
      c.in-Ok.ensures.others,
      (tt, record { unreported = refl; same = c.in-Ok.ensures.same; told = rw c.in_ok-told-in-Ok.was at c.in-Ok.ensures.told; fault = tt }),
      sym c.requires.worst,
    )

pub returns-in-Err-clause-inspects : goal.returns-in-Err-clause-inspects
returns-in-Err-clause-inspects g c =
    rw (← c.as_str.ensures.value) (inr (c.in_ok-connection.connection, c.in-Err.connection, c.in_ok-connection.ensures.opened, tt, inl (c.in-Err.refusal, c.in-Err.ensures.refused.0, refl, λ k. record c.args.reporter.now { out = c.in-Err.ensures.refused.1 k })))

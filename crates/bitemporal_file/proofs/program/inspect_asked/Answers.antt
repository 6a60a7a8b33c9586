use Rattle.std.proofs.Common.{◌∙◌, ap, inl, inr, refl, string_bytes, sym}
use Rattle.std.proofs.lemmas.Result.{err_from_is_err_and}
use Rattle.bitemporal_file.proofs.program.inspect_asked.Goals as goal

pub returns-in_err-connection-clause-inspects : goal.returns-in_err-connection-clause-inspects
returns-in_err-connection-clause-inspects g c =
    let p = err_from_is_err_and c.from_residual.result c.from_residual.ensures.1 in
    rw (p.1, p.2, ← c.as_str-name.ensures.value) (inl ((c.in_err-connection.ensures.refused, c.in_err-connection.ensures.sought), refl))

pub returns-in_err-end_over-in-Ok-clause-inspects : goal.returns-in_err-end_over-in-Ok-clause-inspects
returns-in_err-end_over-in-Ok-clause-inspects g c =
    let p = err_from_is_err_and c.from_residual-in_err-end_over-in-Ok.result c.from_residual-in_err-end_over-in-Ok.ensures.1 in
    rw (p.1, p.2, ← c.as_str-name.ensures.value) (inr (
      c.in_ok-connection.connection,
      c.in-Ok.connection,
      (c.in_ok-connection.ensures.opened, ap string_bytes c.in_err-end_over-in-Ok.ensures.same ∙ c.in_ok-connection.ensures.named),
      c.in_err-end_over-in-Ok.ensures.left,
      inr (c.in-Ok.told, c.in-Ok.ensures.usable, c.in-Ok.ensures.others, record { unreported = refl; same = c.in-Ok.ensures.same; told = c.in-Ok.ensures.told; fault = c.in-Ok.ensures.fault }, c.in_err-end_over-in-Ok.ensures.fault),
    ))

pub returns-in_ok-end_over-in-Ok-clause-inspects : goal.returns-in_ok-end_over-in-Ok-clause-inspects
returns-in_ok-end_over-in-Ok-clause-inspects g c =
    let (value, whole) = c.in_ok-end_over-in-Ok.ensures.whole in
    rw (← c.as_str-name.ensures.value) (
      c.in_ok-connection.connection,
      c.in-Ok.connection,
      (c.in_ok-connection.ensures.opened, ap string_bytes c.in_ok-end_over-in-Ok.ensures.same ∙ c.in_ok-connection.ensures.named),
      c.in_ok-end_over-in-Ok.ensures.kept,
      c.in-Ok.ensures.usable,
      c.in-Ok.ensures.others,
      (value, record { unreported = refl; same = c.in-Ok.ensures.same; told = rw whole at c.in-Ok.ensures.told; fault = tt }),
      sym c.requires.unused.worst,
    )

pub returns-in-Err-clause-inspects : goal.returns-in-Err-clause-inspects
returns-in-Err-clause-inspects g c =
    rw (← c.as_str-name.ensures.value) (inr (
      c.in_ok-connection.connection,
      c.in-Err.connection,
      (c.in_ok-connection.ensures.opened, ap string_bytes c.give_up.ensures.same ∙ c.in_ok-connection.ensures.named),
      c.give_up.ensures.left,
      inl (c.in-Err.refusal, c.in-Err.ensures.refused.0, refl, λ k. record c.args.reporter.now { out = c.in-Err.ensures.refused.1 k }),
    ))

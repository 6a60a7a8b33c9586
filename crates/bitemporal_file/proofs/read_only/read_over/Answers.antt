use Rattle.std.proofs.Common.{inl, inr, refl, sym, true≢false}
use Rattle.std.proofs.lemmas.Result.{err_from_is_err_and}
use Rattle.bitemporal_file.proofs.read_only.read_over.Goals as goal

pub returns-in_err-connection-clause-ran : goal.returns-in_err-connection-clause-ran
returns-in_err-connection-clause-ran g c =
    let p = err_from_is_err_and c.from_residual.result c.from_residual.ensures.1 in
    rw (p.1, p.2, ← c.as_str.ensures.value) (inl (c.in_err-connection.ensures.refused, (refl, refl)))

pub returns-in_err-ended-in-Ok-clause-ran : goal.returns-in_err-ended-in-Ok-clause-ran
returns-in_err-ended-in-Ok-clause-ran g c =
    let p = err_from_is_err_and c.from_residual-in_err-ended-in-Ok.result c.from_residual-in_err-ended-in-Ok.ensures.1 in
    rw (p.1, p.2, ← c.as_str.ensures.value) (inr (
      c.in_ok-connection.connection,
      c.in-Ok.connection,
      c.in_ok-connection.ensures.opened,
      tt,
      inr (c.in-Ok.ended, c.in-Ok.ensures.usable, c.in-Ok.ensures.others, c.in-Ok.ensures.ran, rw c.in_err-ended-in-Ok.was refl),
    ))

pub returns-in_ok-ended-in-Ok-clause-ran : goal.returns-in_ok-ended-in-Ok-clause-ran
returns-in_ok-ended-in-Ok-clause-ran g c =
    let ran = rw c.in_ok-ended-in-Ok.was at c.in-Ok.ensures.ran in
    rw (← c.as_str.ensures.value) (c.in_ok-connection.connection, c.in-Ok.connection, c.in_ok-connection.ensures.opened, tt, c.in-Ok.ensures.usable, c.in-Ok.ensures.others, (c.in_ok-ended-in-Ok.field-0, ran), refl)

pub returns-in-Err-clause-ran : goal.returns-in-Err-clause-ran
returns-in-Err-clause-ran g c =
    let (unused, reporter, input) = c.in-Err.ensures.refused in
    rw (← c.as_str.ensures.value) (elim unused [
      | inl (refusal, refuses, is) ↦ inr (c.in_ok-connection.connection, c.in-Err.connection, c.in_ok-connection.ensures.opened, tt, inl (refusal, refuses, is, (reporter, input)))
      | inr (in_time, is, ahead) ↦ absurd (true≢false (sym in_time))
    ])

use Rattle.std.proofs.Common.{◌∙◌, Err, ap, inl, inr, refl, string_bytes}
use Rattle.std.proofs.lemmas.Result.{err_from_is_err_and}
use Rattle.bitemporal_file.proofs.over.run_over.Goals as goal

pub run_opened-ran-requires-clause-fresh : goal.run_opened-ran-requires-clause-fresh
run_opened-ran-requires-clause-fresh g c = c.requires.unused.fault

pub give_up-requires : goal.give_up-requires
give_up-requires g c =
    let (refuses, reporter, input) = c.in-Err.ensures.refused in
    (λ k. (reporter k).is_unused) ∙ c.requires.unused.unused

pub returns-in_err-connection-clause-ran : goal.returns-in_err-connection-clause-ran
returns-in_err-connection-clause-ran g c =
    let p = err_from_is_err_and c.from_residual.result c.from_residual.ensures.1 in
    rw (p.1, p.2, ← c.as_str-name.ensures.value) (inl (inl ((c.in_err-connection.ensures.refused, c.in_err-connection.ensures.sought), (refl, refl))))

pub returns-in_err-end_over-in-Ok-clause-ran : goal.returns-in_err-end_over-in-Ok-clause-ran
returns-in_err-end_over-in-Ok-clause-ran g c =
    let p = err_from_is_err_and c.from_residual-in_err-end_over-in-Ok.result c.from_residual-in_err-end_over-in-Ok.ensures.1 in
    rw (p.1, p.2, ← c.as_str-name.ensures.value, ← c.is_in_time-in_time.ensures) (inl (inr (
      c.in_ok-connection.connection,
      c.in-Ok.connection,
      (c.in_ok-connection.ensures.opened, ap string_bytes c.in_err-end_over-in-Ok.ensures.same ∙ c.in_ok-connection.ensures.named),
      c.in_err-end_over-in-Ok.ensures.left,
      inr (c.in-Ok.ended, c.in-Ok.ensures.usable, c.in-Ok.ensures.others, (c.in-Ok.ensures.timely, c.in-Ok.ensures.ran), c.in_err-end_over-in-Ok.ensures.fault),
    )))

pub returns-in_ok-end_over-in-Ok-clause-ran : goal.returns-in_ok-end_over-in-Ok-clause-ran
returns-in_ok-end_over-in-Ok-clause-ran g c =
    let (goes_on, whole) = c.in_ok-end_over-in-Ok.ensures.whole in
    let ran = rw whole at c.in-Ok.ensures.ran in
    rw (← c.as_str-name.ensures.value, ← c.is_in_time-in_time.ensures) (inl (
      c.in_ok-connection.connection,
      c.in-Ok.connection,
      (c.in_ok-connection.ensures.opened, ap string_bytes c.in_ok-end_over-in-Ok.ensures.same ∙ c.in_ok-connection.ensures.named),
      c.in_ok-end_over-in-Ok.ensures.kept,
      c.in-Ok.ensures.usable,
      c.in-Ok.ensures.others,
      (goes_on, (c.in-Ok.ensures.timely, ran)),
      refl,
    ))

pub returns-in-Err-clause-ran : goal.returns-in-Err-clause-ran
returns-in-Err-clause-ran g c =
    let (unused, reporter, input) = c.in-Err.ensures.refused in
    let named = ap string_bytes c.give_up.ensures.same ∙ c.in_ok-connection.ensures.named in
    rw (← c.as_str-name.ensures.value, ← c.is_in_time-in_time.ensures) (elim unused [
      | inl (refusal, refuses, is) ↦ inl (inr (c.in_ok-connection.connection, c.in-Err.connection, (c.in_ok-connection.ensures.opened, named), c.give_up.ensures.left, inl (refusal, refuses, is, (reporter, input))))
      | inr (in_time, is, ahead) ↦ inr (in_time, ap Err is, reporter, input, c.in_ok-connection.connection, c.in-Err.connection, (c.in_ok-connection.ensures.opened, named), c.give_up.ensures.left, ahead)
    ])

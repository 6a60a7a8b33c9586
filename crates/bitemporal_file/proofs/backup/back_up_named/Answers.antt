use Rattle.std.proofs.Common.{◌∙◌, ap, inl, inr, refl, string_bytes, sym}
use Rattle.std.proofs.lemmas.Result.{err_from_is_err_and}
use Rattle.bitemporal_file.proofs.backup.back_up_named.Goals as goal

pub returns-in_err-end_over-in-Ok-clause-backs_up : goal.returns-in_err-end_over-in-Ok-clause-backs_up
returns-in_err-end_over-in-Ok-clause-backs_up g c =
    let p = err_from_is_err_and c.from_residual-in_err-end_over-in-Ok.result c.from_residual-in_err-end_over-in-Ok.ensures.1 in
    rw (p.1, p.2) (inr (
      c.in_ok-connection.connection,
      c.in-Ok.connection,
      (c.in_ok-connection.ensures.opened, ap string_bytes c.in_err-end_over-in-Ok.ensures.same ∙ c.in_ok-connection.ensures.named),
      c.in_err-end_over-in-Ok.ensures.left,
      inr (c.in-Ok.copied, c.in-Ok.ensures.usable, c.in-Ok.ensures.others, (c.in-Ok.ensures.copied, refl), c.in_err-end_over-in-Ok.ensures.fault),
    ))

pub returns-in_ok-end_over-in-Ok-clause-backs_up : goal.returns-in_ok-end_over-in-Ok-clause-backs_up
returns-in_ok-end_over-in-Ok-clause-backs_up g c =
    let (value, whole) = c.in_ok-end_over-in-Ok.ensures.whole in (
      c.in_ok-connection.connection,
      c.in-Ok.connection,
      (c.in_ok-connection.ensures.opened, ap string_bytes c.in_ok-end_over-in-Ok.ensures.same ∙ c.in_ok-connection.ensures.named),
      c.in_ok-end_over-in-Ok.ensures.kept,
      c.in-Ok.ensures.usable,
      c.in-Ok.ensures.others,
      (value, (rw whole at c.in-Ok.ensures.copied, refl)),
      sym c.requires.unused.worst,
    )

pub returns-in-Err-clause-backs_up : goal.returns-in-Err-clause-backs_up
returns-in-Err-clause-backs_up g c =
    inr (
      c.in_ok-connection.connection,
      c.in-Err.connection,
      (c.in_ok-connection.ensures.opened, ap string_bytes c.give_up.ensures.same ∙ c.in_ok-connection.ensures.named),
      c.give_up.ensures.left,
      inl (c.in-Err.refusal, c.in-Err.ensures.refused, refl, refl),
    )

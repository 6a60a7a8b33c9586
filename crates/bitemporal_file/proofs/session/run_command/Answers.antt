use Rattle.std.proofs.Common.{subst}
use Rattle.std.specs.Io.KnownBytes.{Appends}
use Rattle.bitemporal_file.proofs.Answered.{unheard, unheard_is}
use Rattle.bitemporal_file.proofs.session.run_command.Goals as goal

pub returns-in-Ok-clause-told : goal.returns-in-Ok-clause-told
returns-in-Ok-clause-told g c = (
  c.in-Ok.text.items,
  (λ on. subst (Appends (g.W.Write.contents c.args.reporter.now.out) (g.W.Write.contents c.tell.new.self.out)) c.as_slice.ensures.value (c.tell.ensures.written on)),
  λ usable history stands. (c.in-Ok.ensures.told usable history stands, c.answer_to_line.ensures.same usable history stands),
)

pub returns-in-Err-clause-told : goal.returns-in-Err-clause-told
returns-in-Err-clause-told g c = (
  unheard c.args.line.now,
  (λ on.
      let some = (c.tell-in-Err.ensures.some on).0 in
      let no : ⊥ = cc in absurd no),
  λ usable history stands. (unheard_is g.C.System.made history c.args.line.now, c.answer_to_line.ensures.same usable history stands),
)

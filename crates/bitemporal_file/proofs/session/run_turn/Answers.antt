use Rattle.std.proofs.Common.{◌∙◌, refl}
use Rattle.version_store.proofs.Beside.{spares_same}
use Rattle.period_core.specs.declared.refusal.Refusal.TheVariants.{ScriptTooLarge}
use Rattle.bitemporal_file.specs.Parts.{is_command}
use Rattle.bitemporal_file.proofs.SessionFacts.{command_turn, part_turn, refused_part, too_large}
use Rattle.bitemporal_file.proofs.session.run_turn.Goals as goal

pub returns-in-Whole-clause-ran : goal.returns-in-Whole-clause-ran
returns-in-Whole-clause-ran g c starts script left is =
    let (ends, none, kept) = rw c.in-Whole.is at is in
    part_turn g.S.Store g.C.System.made g.K.PieceResult.is_step g.K.PieceResult.is_step_over g.K.Reported.refused g.W.Write.contents g.E.Write.contents g.K.Reported.text g.K.Reported.status_of g.K.Reported.forgotten_of c.args.reporter.now c.run_whole.new.reporter c.args.engine.now c.run_whole.new.engine c.args.start starts c.as_slice-script.result.now script left (is_command c.args.part.now) c.run_whole.result
    (c.as_slice-script.ensures.value ∙ kept.0) (rw c.in-Whole.is refl) ends none c.run_whole.ensures.ran

pub returns-in-TooLarge-clause-ran : goal.returns-in-TooLarge-clause-ran
returns-in-TooLarge-clause-ran g c starts script left is =
    let (ends, none, sizes) = rw c.in-TooLarge.is at is in
    part_turn g.S.Store g.C.System.made g.K.PieceResult.is_step g.K.PieceResult.is_step_over g.K.Reported.refused g.W.Write.contents g.E.Write.contents g.K.Reported.text g.K.Reported.status_of g.K.Reported.forgotten_of c.args.reporter.now c.refuse_part.new.reporter c.args.engine.now c.args.engine.now c.args.start starts script script left (is_command c.args.part.now) c.refuse_part.result
    refl (rw c.in-TooLarge.is refl) ends none
    (refused_part g.S.Store g.K.PieceResult.is_step g.K.PieceResult.is_step_over g.K.Reported.refused g.W.Write.contents g.E.Write.contents g.K.Reported.text g.K.Reported.status_of g.K.Reported.forgotten_of c.args.reporter.now c.refuse_part.new.reporter c.args.engine.now c.args.engine.now c.args.start script ScriptTooLarge c.refuse_part.result (too_large script sizes.1) refl c.refuse_part.ensures.told)

pub returns-in-TooLarge-clause-others : goal.returns-in-TooLarge-clause-others
returns-in-TooLarge-clause-others g c = spares_same g.S.Store c.args.engine.now.connection c.args.engine.now.connection (λ usable. refl)

pub returns-in-Command-clause-ran : goal.returns-in-Command-clause-ran
returns-in-Command-clause-ran g c starts bytes left is =
    let line = rw c.in-Command.is at is in
    let (told, wrote, answered) = c.run_command.ensures.told in
    command_turn g.S.Store g.C.System.made g.K.PieceResult.is_step g.K.PieceResult.is_step_over g.K.Reported.refused g.W.Write.contents g.E.Write.contents g.K.Reported.text g.K.Reported.status_of g.K.Reported.forgotten_of c.args.reporter.now c.run_command.new.reporter c.args.engine.now c.run_command.new.engine c.args.start starts bytes c.as_slice-text.result.now c.in-Command.line.bytes.items told left (is_command c.args.part.now) c.run_command.result
    (rw c.in-Command.is refl) line.0 c.as_slice-text.ensures.value c.requires c.run_command.ensures.same wrote c.run_command.ensures.quiet c.run_command.ensures.fault c.run_command.ensures.usable c.run_command.ensures.others answered

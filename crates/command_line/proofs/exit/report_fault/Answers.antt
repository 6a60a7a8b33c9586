use Rattle.std.proofs.Common.{◌∙◌, inl, inr, refl, rules, sym}
use Rattle.command_line.specs.declared.fault.RunFault.TheVariants.{Memory, Script}
use Rattle.command_line.proofs.LineFacts.{line_of_fault}
use Rattle.command_line.proofs.exit.report_fault.Goals as goal

pub returns-in-Ok-clause-told : goal.returns-in-Ok-clause-told
returns-in-Ok-clause-told g c = line_of_fault c.args.program c.args.fault (Script c.in-Script.refusal) _ _ _ _ (search rules) (inl (sym c.in-Script.is)) c.write_text.ensures.reported

pub returns-in-Err-clause-told : goal.returns-in-Err-clause-told
returns-in-Err-clause-told g c = line_of_fault c.args.program c.args.fault Memory _ _ _ _ (c.as_bytes-in-Err.ensures.value ∙ c.ready_line.ensures) (rw c.in-Script.is (inr (tt, refl))) c.write_text-in-Err.ensures.reported

use Rattle.std.proofs.Common.{rules}
use Rattle.command_tool.specs.Program.{MayEndIn}
use Rattle.command_tool.proofs.ProgramFacts.{line_of_run}
use Rattle.command_tool.proofs.tool.run_tool.Goals as goal

pub returns-in-Err-clause-ends : goal.returns-in-Err-clause-ends
returns-in-Err-clause-ends g c =
    let status = c.end_in.ensures.status in
    let ended : MayEndIn c.args.mode (g.R.Read.remaining c.args.input.now.inner) c.report_in-ended.new.input.has_failed (g.W.Write.contents c.args.out.now) (g.W.Write.contents c.report_in-ended.new.out) c.in-Err.fault
    = search rules in
    (search rules, (λ other. absurd (other status)), (λ _. line_of_run _ _ _ _ _ _ _ _ c.in-Err.fault ended c.end_in.ensures.told), search rules)

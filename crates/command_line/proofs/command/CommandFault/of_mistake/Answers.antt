use Rattle.std.proofs.Common.{◌≡◌, ◌∙◌}
use Rattle.clap.specs.Words.{kind_of}
use Rattle.command_line.proofs.ClapClauses.{reported_wider}
use Rattle.command_line.proofs.command.CommandFault.of_mistake.Goals as goal

pub returns-in-Ok : goal.returns-in-Ok
returns-in-Ok c = reported_wider (λ found. found ≡ kind_of c.in-Ok.fault) (λ found. found ≡ c.args.kind) _ (λ found is. is ∙ c.in-Ok.ensures.kind) c.of_clap.ensures.told

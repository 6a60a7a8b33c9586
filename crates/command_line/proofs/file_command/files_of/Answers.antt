use Rattle.std.proofs.Common.{◌∙◌, codes, refl}
use Rattle.clap.proofs.WalkLemmas.{raw_values-rows}
use Rattle.clap.specs.Words.{found_of}
use Rattle.command_line.proofs.file_command.files_of.Goals as goal

pub returns-in-Some : goal.returns-in-Some
returns-in-Some c =
    let found = c.in-Some.ensures ∙ raw_values-rows (found_of c.args.matches.now) (codes "FILE") in
    rw (← found) c.owned.ensures

pub returns-in-None : goal.returns-in-None
returns-in-None c =
    let found = c.in-None.ensures ∙ raw_values-rows (found_of c.args.matches.now) (codes "FILE") in
    rw (← found, c.new.ensures.items) refl

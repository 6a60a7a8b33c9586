use Rattle.std.proofs.Common.{Err, Ok, refl}
use Rattle.command_line.proofs.file_command.seconds_in.Goals as goal

pub returns-in-Ok : goal.returns-in-Ok
returns-in-Ok c = (Ok c.in-Ok.seconds, c.in-Ok.ensures.value.0, refl)

pub returns-in-Err : goal.returns-in-Err
returns-in-Err c = (Err tt, c.in-Err.ensures.value.0, refl)

use Rattle.std.proofs.Common.{inr}
use Rattle.bitemporal_file.proofs.HeldFacts.{found_in}
use Rattle.bitemporal_file.proofs.read_only.open_held.Goals as goal

pub returns-in-Ok-clause-opened : goal.returns-in-Ok-clause-opened
returns-in-Ok-clause-opened c clean =
    (c.in-Ok.ensures.opened clean, found_in (record { log = c.args.held.now.log.items; db = c.args.held.now.db.items }) c.in_ok-files.files c.in-Ok.connection c.in_ok-files.ensures.held (c.in-Ok.ensures.found clean))

pub returns-in-Err-clause-refused : goal.returns-in-Err-clause-refused
returns-in-Err-clause-refused c =
    inr (c.in-Err.error, c.fault_of.ensures, c.in_ok-files.files, c.in_ok-files.ensures.held, c.in-Err._left, c.in-Err.ensures.cause)

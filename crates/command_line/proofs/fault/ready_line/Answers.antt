use Rattle.command_line.proofs.LineFacts.{memory_is, memory_is-second}
use Rattle.command_line.proofs.fault.ready_line.Goals as goal

pub returns-in-Script : goal.returns-in-Script
returns-in-Script c = rw (c.in-Bitemporal.is, c.in-Script.is) memory_is

pub returns-in-Memory : goal.returns-in-Memory
returns-in-Memory c = rw (c.in-Bitemporal.is, c.in-Memory.is) memory_is

pub returns-in-Script-fault : goal.returns-in-Script-fault
returns-in-Script-fault c = rw (c.in-BitemporalFile.is, c.in-Script-fault.is) memory_is-second

pub returns-in-Memory-fault : goal.returns-in-Memory-fault
returns-in-Memory-fault c = rw (c.in-BitemporalFile.is, c.in-Memory-fault.is) memory_is-second

use Rattle.std.proofs.lemmas.Slice.Zip.{either_empty_from_Zip}
use Rattle.bitemporal_file.proofs.VerificationFacts.{lines-end}
use Rattle.bitemporal_file.proofs.verification.push_lines.Goals as goal

pub returns : goal.returns
returns c = lines-end _ _ _ _ (either_empty_from_Zip c.loop-table.table-iterator c.next.new.self c.next.result c.in-None.is c.next.ensures.steps) c.loop-table.invariant

use Rattle.std.proofs.Common.{◌≡◌, take}
use Rattle.period_core.proofs.answer.copy_witnesses.Given as goal

abbrev pub invariant-loop-witness : goal.invariant-loop-witness
invariant-loop-witness l = l.copies.items ≡ take l.witness-index l.witness-items

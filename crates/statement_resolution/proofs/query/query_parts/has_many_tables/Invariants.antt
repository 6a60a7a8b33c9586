use Rattle.std.proofs.Common.{◌≡◌, ◌+◌, length}
use Rattle.statement_resolution.proofs.lemmas.query.ReferenceLists.{front_tables}
use Rattle.statement_resolution.proofs.query.query_parts.has_many_tables.Given as goal

abbrev pub invariant-loop-chain : goal.invariant-loop-chain
invariant-loop-chain l = l.room + length (front_tables l.chains l.chain-index) ≡ 4

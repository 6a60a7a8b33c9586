use Rattle.std.proofs.Common.{◌≡◌, map}
use Rattle.statement_resolution.proofs.lemmas.query.ReferenceLists.{Borrowed, front_tables}
use Rattle.statement_resolution.proofs.query.references.references_of.Given as goal

abbrev pub invariant-loop-chain : goal.invariant-loop-chain
invariant-loop-chain l = map (λ (r : Borrowed). r.now) l.references.items ≡ front_tables l.chain-items l.chain-index

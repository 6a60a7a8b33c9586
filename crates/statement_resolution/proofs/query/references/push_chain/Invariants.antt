use Rattle.std.proofs.Common.{◌≡◌, ◌++◌, ◌∷◌, map, take}
use Rattle.statement_resolution.proofs.lemmas.query.ReferenceLists.{Borrowed, join_tables}
use Rattle.statement_resolution.proofs.query.references.push_chain.Given as goal

abbrev pub invariant-loop-join : goal.invariant-loop-join
invariant-loop-join l = map (λ (r : Borrowed). r.now) l.references.items ≡ map (λ (r : Borrowed). r.now) l.fn.references.items ++ l.chain.first ∷ join_tables (take l.join-index l.join-items)

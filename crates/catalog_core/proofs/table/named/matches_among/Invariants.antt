use Rattle.std.specs.Prelude.{◌≡◌, take, bytes_eq, count_by}
use Rattle.catalog_core.proofs.table.named.matches_among.Given as goal

abbrev pub invariant-loop-x : goal.invariant-loop-x
invariant-loop-x g l = l.count ≡ count_by (λ x. bytes_eq l.name (g.T.Named.named x)) (take l.x-index l.elements)

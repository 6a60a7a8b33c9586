use Rattle.std.specs.Prelude.{◌≡◌, take, None, bytes_eq}
use Rattle.std.specs.List.{find}
use Rattle.catalog_core.proofs.table.named.find_among.Given as goal

abbrev pub invariant-loop-x : goal.invariant-loop-x
invariant-loop-x g l = find (λ x. bytes_eq l.name (g.T.Named.named x)) (take l.x-index l.elements) ≡ None

use Rattle.std.specs.Prelude.{◌≡◌, bytes_eq, take}
use Rattle.std.specs.List.{position_or_len}
use Rattle.catalog_core.proofs.table.named.place_among.Given as goal

abbrev pub invariant-loop-i : goal.invariant-loop-i
invariant-loop-i g l = position_or_len (λ x. bytes_eq l.name (g.T.Named.named x)) (take l.i l.elements) ≡ l.i

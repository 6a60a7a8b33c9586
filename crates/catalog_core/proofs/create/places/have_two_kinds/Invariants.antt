use Rattle.std.specs.Prelude.{◌≡◌, ℕ, take, false}
use Rattle.std.specs.List.{list_any, zip}
use Rattle.catalog_core.specs.create.Places.{kind_at}
use Rattle.catalog_core.specs.table.Kinds.{differ}
use Rattle.catalog_core.proofs.create.places.have_two_kinds.Given as goal

abbrev pub invariant-loop-i : goal.invariant-loop-i
invariant-loop-i l = list_any (λ (p : ℕ × ℕ). differ (kind_at l.columns p.0) (kind_at l.others p.1)) (take l.i (zip l.own l.keys)) ≡ false

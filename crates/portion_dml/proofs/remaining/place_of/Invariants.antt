use Rattle.std.proofs.Common.{◌≡◌, ◌<◌, ℕ, map, get_or}
use Rattle.std.specs.Borrow.{Bor}
use Rattle.period_core.specs.declared.version.VersionRow.{VersionRow}
use Rattle.portion_dml.proofs.remaining.place_of.Given as goal

abbrev pub invariant-loop-i : goal.invariant-loop-i
invariant-loop-i l = (k : ℕ) → k < l.i → get_or (map (λ (r : Bor VersionRow). r.now) l.versions) k l.version ≡ l.version → ⊥

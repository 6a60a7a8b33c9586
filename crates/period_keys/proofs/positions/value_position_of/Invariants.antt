use Rattle.std.specs.Prelude.{◌≡◌, ◌≤◌, ◌==◌, length}
use Rattle.std.specs.List.{position_or_len}
use Rattle.period_keys.proofs.Places.{places_before}
use Rattle.period_keys.proofs.positions.value_position_of.Given as goal

abbrev pub invariant-loop-i : goal.invariant-loop-i
invariant-loop-i l = record {
  bound : l.position ≤ l.i;
  count : length (places_before l.def l.columns l.i) ≡ l.position;
  before : position_or_len (λ other. l.place == other) (places_before l.def l.columns l.i) ≡ l.position;
}

use Rattle.std.specs.Prelude.{◌≡◌, ℕ, false, take}
use Rattle.std.specs.List.{list_any, zip}
use Rattle.period_core.specs.declared.value.Value.{Value}
use Rattle.statement_resolution.specs.change.InsertPlaces.{is_faulty_at}
use Rattle.statement_resolution.proofs.change.insert_values.gives_faulty_value_at.Given as goal

abbrev pub invariant-loop-i : goal.invariant-loop-i
invariant-loop-i l = list_any (λ (given : ℕ × Value). is_faulty_at l.fault l.columns given) (take l.i (zip l.places l.row)) ≡ false

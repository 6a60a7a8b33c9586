use Rattle.std.proofs.Common.{◌≡◌, ◌≤◌, ℕ, Some, length, map, take, vec_capacity, vec_len}
use Rattle.std.specs.Prelude.{slice_get}
use Rattle.period_core.specs.declared.value.Value.{Value}
use Rattle.statement_resolution.proofs.change.inserted_rows.row_values.Given as goal

abbrev pub invariant-loop-position : goal.invariant-loop-position
invariant-loop-position l = record {
  room : length l.positions ≤ vec_capacity l.values;
  count : vec_len l.values ≡ l.position-index;
  values : map (λ (k : ℕ). slice_get l.row k) (take l.position-index l.positions) ≡ map (λ (x : Value). Some x) l.values.items;
}

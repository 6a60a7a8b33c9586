use Rattle.std.proofs.Common.{◌≡◌, ◌≤◌, ℕ, map, take}
use Rattle.std.specs.Prelude.{slice_index_or}
use Rattle.ended_versions.specs.Found.{first_chained}
use Rattle.ended_versions.specs.declared.chained_values.ChainedValues.{ChainedValues}
use Rattle.ended_versions.proofs.list.truncate_each.Given as goal

abbrev pub invariant-loop-chained : goal.invariant-loop-chained
invariant-loop-chained l = record {
  done : take l.chained-index l.chained ≡ map (first_chained l.count) (take l.chained-index l.fn.chained);
  rest : (k : ℕ) (d : ChainedValues) → l.chained-index ≤ k → slice_index_or l.chained k d ≡ slice_index_or l.fn.chained k d;
}

use Rattle.std.proofs.Common.{◌≡◌, ◌++◌, map, take}
use Rattle.std.specs.Prelude.{IsPermutation}
use Rattle.period_keys.specs.Versions.{begun}
use Rattle.period_keys.proofs.current_rows.CurrentRows.add_all.Given as goal

abbrev pub invariant-loop-i : goal.invariant-loop-i
invariant-loop-i l = record {
  same : l.self.positions ≡ l.fn.self.positions;
  more : IsPermutation l.self.rows (map (begun l.moment) (take l.i l.rows) ++ l.fn.self.rows);
}

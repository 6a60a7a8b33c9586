use Rattle.std.proofs.Common.{◌≡◌, ◌++◌, List, drop}
use Rattle.std.specs.Prelude.{IsPermutation}
use Rattle.period_core.specs.declared.version.VersionRow.{VersionRow}
use Rattle.period_keys.proofs.current_rows.CurrentRows.take_all.Given as goal

abbrev pub invariant-loop-i : goal.invariant-loop-i
invariant-loop-i l = record {
  same : l.self.positions ≡ l.fn.self.positions;
  left : (rest : List VersionRow) → IsPermutation l.fn.self.rows (l.rows ++ rest) → IsPermutation l.self.rows (drop l.i l.rows ++ rest);
}

use Rattle.std.proofs.Common.{◌≡◌, ◌++◌, List, drop, map, take}
use Rattle.std.specs.Prelude.{IsPermutation}
use Rattle.period_core.specs.declared.version.VersionRow.{VersionRow}
use Rattle.period_keys.specs.Versions.{begun}
use Rattle.period_keys.proofs.current_rows.CurrentRows.remove_first_added.Given as goal

abbrev pub invariant-loop-i : goal.invariant-loop-i
invariant-loop-i l = record {
  same : l.self.positions ≡ l.fn.self.positions;
  left : (rest : List VersionRow) → IsPermutation l.fn.self.rows (map (begun l.moment) (take l.count l.rows) ++ rest)
      → IsPermutation l.self.rows (map (begun l.moment) (drop l.i (take l.count l.rows)) ++ rest);
}

use Rattle.std.proofs.Common.{◌≡◌, false, None}
use Rattle.version_store.proofs.Scanned.{HasVisited}
use Rattle.version_store.proofs.scans.scan_selected.Given as goal

abbrev pub invariant-rows : goal.invariant-rows
invariant-rows g l = record {
  same_reference : l.rows.conn.ghost_name ≡ l.initial.rows.conn.ghost_name;
  mode : l.rows.conn.now.in_transaction ≡ false;
  visited : HasVisited g.S.Store l.form g.V.RowVisitor.next l.table l.fn.selection l.fn.connection l.rows.conn.now (g.V.RowVisitor.meaning l.fn.visitor) (g.V.RowVisitor.meaning l.visitor);
  answered : g.V.RowVisitor.answered l.visitor None;
}

use Rattle.std.proofs.Common.{◌≡◌, false}
use Rattle.version_store.proofs.VersionLists.{HasBeenRead}
use Rattle.version_store.proofs.version_lists.fill_lists.Given as goal

abbrev pub invariant-rows : goal.invariant-rows
invariant-rows g l = record {
  same_reference : l.rows.conn.ghost_name ≡ l.initial.rows.conn.ghost_name;
  mode : l.rows.conn.now.in_transaction ≡ false;
  read : HasBeenRead g.S.Store l.form l.catalog.tables l.fn.clock l.fn.connection l.rows.conn.now l.lists.items;
}

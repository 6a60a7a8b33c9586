use Rattle.std.proofs.Common.{subst}
use Rattle.version_store.specs.Copies.{with_versions}
use Rattle.version_store.specs.Copies.{HasCommitted, up_to}
use Rattle.version_store.proofs.Copies.{table_copied}
use Rattle.version_store.proofs.store.VersionStore.copy_table.Goals as goal

pub returns-clause-made : goal.returns-clause-made
returns-clause-made g c usable copy_usable d stands before is has =
    let made = c.in_ok-write_versions.ensures.made copy_usable.0 (up_to before d) has.now in
    table_copied g.T.Store c.write_versions.new.connection d before c.args.number c.in_ok-rows.rows.items is (c.in_ok-rows.ensures.rows usable d stands)
    (subst (λ l. HasCommitted g.T.Store c.write_versions.new.connection (with_versions c.args.number l (up_to before d))) c.as_slice.ensures.value (record { now = made.0; committed = made.1 }))

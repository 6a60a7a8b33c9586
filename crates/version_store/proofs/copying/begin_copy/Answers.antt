use Rattle.std.proofs.Common.{◌≡◌, [], List, OnOk, refl, rules, subst, w64, to_z, of_z}
use Rattle.catalog_core.specs.declared.table.TableDef.{TableDef}
use Rattle.version_store.specs.Copies.{HasCommitted, without_versions}
use Rattle.version_store.proofs.copying.begin_copy.Goals as goal

pub returns-clause-made : goal.returns-clause-made
returns-clause-made g c usable =
    let f : to_z w64 (of_z w64 c.number.result) ≡ c.number.result = search rules in
    let t : to_z w64 (of_z w64 c.number-2.result) ≡ c.number-2.result = search rules in
    let made = rw (f, t, c.number.ensures, c.number-2.ensures.value) at (c.in_ok-create.ensures.made (c.write_definitions.ensures.usable usable).0 (c.is_new.ensures c.if-not-is_new.false)) in
    subst (λ (ts : List TableDef). OnOk c.write_definitions.result (HasCommitted g.S.Store c.write_definitions.new.connection (without_versions ts c.args.clock))) c.as_slice.ensures
    (c.write_definitions.ensures.made usable (without_versions [] c.args.clock) refl (record { now = record { rows = made.0; definitions = tt; values = tt }; committed = made.1 }))

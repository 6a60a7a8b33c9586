use Rattle.std.proofs.Common.{◌∙◌, refl, sym}
use Rattle.sqlite.specs.Held.{state}
use Rattle.version_store.specs.Written.{written}
use Rattle.version_store.proofs.AfterCalls.{next_number, on_ok, table_put}
use Rattle.version_store.proofs.copying.write_definition.Goals as goal

pub returns-clause-made : goal.returns-clause-made
returns-clause-made g c usable d number has =
    let new = (state g.S.Store c.write_table.new.connection).now in
    on_ok c.write_table.result
    (λ made. record {
      now = table_put new d c.args.definition.now c.as_slice.result.now (c.as_slice.ensures.value ∙ sym c.in_ok-bytes.ensures.2) made.0 has.now.definitions (c.in_ok-bytes.ensures.0, c.in_ok-bytes.ensures.1, refl) has.now.values;
      committed = made.1;
    })
    (c.write_table.ensures.made usable.0 (written d) (next_number d d.tables c.args.number refl number) has.now.rows)

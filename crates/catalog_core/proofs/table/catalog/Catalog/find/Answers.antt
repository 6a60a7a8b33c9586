use Rattle.std.proofs.Common.{◌≡◌, ◌∙◌, ◌+◌, ℕ, Bool, Some, add-one, ap, bytes_eq, refl, sym}
use Rattle.std.specs.Option.{option_map}
use Rattle.std.proofs.lemmas.Option.{slice_get_read}
use Rattle.catalog_core.specs.declared.table.TableDef.{TableDef}
use Rattle.catalog_core.proofs.lemmas.lists.Places.{place_by}
use Rattle.catalog_core.specs.table.TableWords.{number_of, table_of}
use Rattle.catalog_core.proofs.table.catalog.Catalog.find.Goals as goal

pub returns-then-is-clause-value : goal.returns-then-is-clause-value
unfolding number_of
returns-then-is-clause-value c =
    let p : TableDef → Bool = λ t. bytes_eq c.args.name.now t.name in
    let tables = c.args.self.now.tables in
    let items = c.as_slice-tables.result.now in
    let place = place_by p tables items c.loop-i.i c.index-tables-i.result c.as_slice-tables.ensures c.loop-i-test.true c.loop-i.invariant c.index-tables-i.is (sym c.is.ensures ∙ c.if-is.true) in
    ap (option_map (λ (n : ℕ). n + 1)) place

pub returns-then-is-clause-there : goal.returns-then-is-clause-there
returns-then-is-clause-there c =
    let tables = c.args.self.now.tables in
    let items = c.as_slice-tables.result.now in
    let there : table_of tables (c.loop-i.i + 1) ≡ Some c.index-tables-i.result =
    rw (← c.as_slice-tables.ensures, add-one) (slice_get_read items _ c.loop-i.i c.index-tables-i.result refl c.loop-i-test.true c.index-tables-i.is) in
    rw there refl

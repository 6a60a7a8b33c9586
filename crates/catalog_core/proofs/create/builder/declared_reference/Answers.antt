use Rattle.std.proofs.Common.{◌<◌, ◌∙◌, ℕ, Some, ap, arith, length, sym}
use Rattle.std.specs.Prelude.{is_none}
use Rattle.std.specs.Option.{option_and_then}
use Rattle.std.proofs.lemmas.Bool.{false≢true}
use Rattle.catalog_core.proofs.lemmas.create.Built.{counts_from_one, mapped_lengths, own_all_within, reference_kept, some_there}
use Rattle.catalog_core.proofs.lemmas.table.Named.{table_named}
use Rattle.catalog_core.proofs.lemmas.judged.Sound.{fails_there}
use Rattle.catalog_core.specs.create.Creation.{some_parent_match}
use Rattle.catalog_core.specs.create.Definition.{own_place}
use Rattle.catalog_core.specs.table.TableWords.{some_def_match, table_of, table_of_name}
use Rattle.catalog_core.specs.declared.table.match_counts.MatchCount.TheVariants.{Zero}
use Rattle.catalog_core.specs.declared.table.TableDef.{TableDef}
use Rattle.catalog_core.proofs.create.builder.declared_reference.Goals as goal

pub unreachable-requires : goal.unreachable-requires
unfolding table_of_name
unreachable-requires c =
    false≢true (sym c.requires.there ∙ ap (λ o. is_none (option_and_then (table_of c.args.catalog.now.tables) o)) c.in_default.ensures)

pub def_places-requires : goal.def_places-requires
unfolding some_parent_match
def_places-requires c =
    let catalog = c.args.catalog.now.tables in
    let name = c.args.element.now.parent in
    let t = c.in-Some.table.now in
    let there = table_named catalog name c.in-Some.parent t c.in-Some.ensures.0 c.in-Some.ensures.1 in
    rw c.as_slice-2.ensures.value (fails_there (λ (d : TableDef). some_def_match d Zero c.args.element.now.parent_columns) (table_of_name catalog name) t c.requires.keys there)

pub returns-clause-kept : goal.returns-clause-kept
returns-clause-kept c =
    let create = c.args.create.now in
    let own = c.in_ok-own.own.items in
    let keys = c.in_ok-keys.keys.items in
    let own_long = mapped_lengths (own_place create) (λ (i : ℕ). Some i) c.as_slice.result.now own c.in_ok-own.ensures in
    let some : 0 < length own = omega (arith, own_long, c.as_slice.ensures.filled) in
    rw (c.from_vec.ensures, c.from_vec-2.ensures)
    (reference_kept (length create.columns) (record { parent = c.in-Some.parent; own = own; keys = keys })
    (counts_from_one c.args.catalog.now.tables c.args.element.now.parent c.in-Some.parent c.in-Some.ensures.0)
    (some_there own some) (own_all_within create c.as_slice.result.now own c.in_ok-own.ensures) c.in_ok-keys.ensures.small)

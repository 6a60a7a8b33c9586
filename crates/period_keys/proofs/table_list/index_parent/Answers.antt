use Rattle.std.proofs.Common.{◌≡◌, ◌<◌, ◌-◌, ◌∙◌, ℕ, List, Some, ap, arith, get_or, length, set, subst, sym}
use Rattle.std.specs.List.{Contains}
use Rattle.std.proofs.lemmas.Option.{slice_get-get_or}
use Rattle.catalog_core.specs.declared.table.Reference.{Reference}
use Rattle.catalog_core.specs.declared.table.TableDef.{TableDef}
use Rattle.catalog_core.specs.table.TableWords.{table_of}
use Rattle.period_keys.specs.Lawful.{parent_positions}
use Rattle.period_keys.specs.Positions.{positions_of_places}
use Rattle.period_keys.specs.TableRows.{TableRows}
use Rattle.period_keys.proofs.Answered.{on_ok}
use Rattle.period_keys.proofs.TableLists.{have_more_set, number_inside, value_is, written_to}
use Rattle.period_keys.proofs.table_list.index_parent.Goals as goal

pub returns-clause-kept : goal.returns-clause-kept
returns-clause-kept c =
    let tables : List TableRows = c.args.tables.now in
    let place : ℕ = c.from-place.result - 1 in
    let inside : c.args.reference.now.parent - 1 < length c.args.definitions.now = number_inside c.args.definitions.now c.args.reference.now.parent c.in-Some.parent.now c.in-Some.ensures in
    let below : place < length tables = omega (arith, inside, c.from-place.ensures, c.requires) in
    have_more_set tables place (get_or tables place c.index-tables-place.result) c.index_once.new.self (slice_get-get_or tables place c.index-tables-place.result below) c.index_once.ensures.kept

pub returns-clause-ok : goal.returns-clause-ok
returns-clause-ok c =
    let tables : List TableRows = c.args.tables.now in
    let reference : Reference = c.args.reference.now in
    let parent : TableDef = c.in-Some.parent.now in
    let new : TableRows = c.index_once.new.self in
    let below : reference.parent - 1 < length tables = omega (arith, number_inside c.args.definitions.now reference.parent parent c.in-Some.ensures, c.requires) in
    let written : table_of (set tables (c.from-place.result - 1) new) reference.parent ≡ Some new =
    subst (λ n. table_of (set tables (n - 1) new) reference.parent ≡ Some new) (sym c.from-place.ensures) (written_to c.args.definitions.now tables reference.parent parent new c.in-Some.ensures below) in
    let keys : c.from_vec.result ≡ parent_positions parent reference = c.from_vec.ensures ∙ c.in_ok-keys.ensures ∙ ap (positions_of_places parent) c.as_slice.ensures in
    on_ok c.index_once.result
    (λ there other found.
    let same : parent ≡ other = value_is parent other (sym c.in-Some.ensures ∙ found) in
    (new, written, subst (Contains new.indexed) (keys ∙ ap (λ (def : TableDef). parent_positions def reference) same) there))
    c.index_once.ensures.ok

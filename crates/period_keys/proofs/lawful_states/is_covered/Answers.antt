use Rattle.std.proofs.Common.{◌≡◌, ◌↔◌, ◌∙◌, [], ℕ, ℤ, List, Option, Bool, true, false, ap, map, not, refl, subst}
use Rattle.std.specs.Prelude.{IsTrue, is_none, is_some}
use Rattle.std.proofs.lemmas.List.Sorted.{IsPermutation-refl}
use Rattle.period_core.specs.declared.row.PeriodRow.{PeriodRow}
use Rattle.temporal_model.proofs.Members.{Contains-nil}
use Rattle.catalog_core.specs.table.TableWords.{table_of}
use Rattle.catalog_core.specs.declared.table.Reference.{Reference}
use Rattle.catalog_core.specs.declared.table.TableDef.{TableDef}
use Rattle.history_model.specs.Versions.{row_of}
use Rattle.period_keys.specs.Gaps.{LacksKeyOf}
use Rattle.period_keys.specs.Keys.{IsUncovered}
use Rattle.period_keys.specs.Lawful.{IsCoveredBy, own_positions, parent_positions}
use Rattle.period_keys.specs.LookUps.{periods_by}
use Rattle.period_keys.specs.TableRows.{TableRows}
use Rattle.period_keys.proofs.Covered.{uncovered_after}
use Rattle.period_keys.proofs.Leasts.{IsLeastOf-same}
use Rattle.period_keys.proofs.ReferenceFacts.{held_by, indexed_as, worked_out}
use Rattle.period_keys.proofs.StateFacts.{covered_of_found}
use Rattle.period_keys.proofs.lawful_states.is_covered.Goals as goal

pub periods_by-children-requires : goal.periods_by-children-requires
periods_by-children-requires c =
    let child : TableDef = c.args.child.now in
    let reference : Reference = c.args.reference.now in
    indexed_as c.args.tables.now c.args.number c.args.number (own_positions child reference) c.as_slice-3.result.now (c.requires.indexed reference c.in-Some.parent.now c.requires.reference c.in-Some.ensures).children refl
    (worked_out child reference.own c.as_slice.result.now c.in_ok-own.own.items c.as_slice-3.result.now c.as_slice-3.ensures.value c.in_ok-own.ensures c.as_slice.ensures)

pub periods_by-parents-requires : goal.periods_by-parents-requires
periods_by-parents-requires c =
    let reference : Reference = c.args.reference.now in
    let parent : TableDef = c.in-Some.parent.now in
    indexed_as c.args.tables.now reference.parent c.from.result (parent_positions parent reference) c.as_slice-4.result.now (c.requires.indexed reference parent c.requires.reference c.in-Some.ensures).parents c.from.ensures
    (worked_out parent reference.keys c.as_slice-2.result.now c.in_ok-keys.keys.items c.as_slice-4.result.now c.as_slice-4.ensures.value c.in_ok-keys.ensures c.as_slice-2.ensures)

-- the test is the one that the code makes
tested : (found : Option ℤ) (none : Bool) → is_some found ≡ not none → is_none found ≡ none
tested found true e = ap not e
tested found false e = ap not e

pub returns : goal.returns
returns c = λ state hold.
    let definitions : List TableDef = c.args.definitions.now in
    let tables : List TableRows = c.args.tables.now in
    let child : TableDef = c.args.child.now in
    let reference : Reference = c.args.reference.now in
    let parent : TableDef = c.in-Some.parent.now in
    let own : List ℕ = c.as_slice-3.result.now in
    let keys : List ℕ = c.as_slice-4.result.now in
    let own_is : own ≡ own_positions child reference = worked_out child reference.own c.as_slice.result.now c.in_ok-own.own.items own c.as_slice-3.ensures.value c.in_ok-own.ensures c.as_slice.ensures in
    let keys_is : keys ≡ parent_positions parent reference = worked_out parent reference.keys c.as_slice-2.result.now c.in_ok-keys.keys.items keys c.as_slice-4.ensures.value c.in_ok-keys.ensures c.as_slice-2.ensures in
    let (table, there, held) = held_by definitions state tables c.args.number child hold c.requires.child in
    let rows : List PeriodRow = map row_of table.rows in
    let least = c.in_ok-found.ensures own rows (c.periods_by-children.ensures table there) in
    let law : IsTrue (is_none c.in_ok-found.found) ↔ IsCoveredBy definitions state c.args.number child reference =
    covered_of_found definitions tables state c.args.number child reference parent rows own keys c.in_ok-found.found hold held.holds c.in-Some.ensures own_is keys_is
    (λ above above_is.
    let parents : List PeriodRow = map row_of above.rows in
    IsLeastOf-same (LacksKeyOf own rows (periods_by c.periods_by-parents.result)) (IsUncovered own rows keys parents)
    (uncovered_after own keys parents [] [] [] rows (periods_by c.periods_by-parents.result) (c.periods_by-parents.ensures above (ap (table_of tables) c.from.ensures ∙ above_is))
    (λ day (child, there, within, alone). Contains-nil child there) (IsPermutation-refl [])) c.in_ok-found.found least) in
    subst (λ (b : Bool). IsTrue b ↔ IsCoveredBy definitions state c.args.number child reference) (tested c.in_ok-found.found c.is_none.result c.is_none.ensures) law

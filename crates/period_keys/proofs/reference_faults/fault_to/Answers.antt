use Rattle.std.proofs.Common.{◌≡◌, ◌∙◌, ℕ, List, Some, ap, map, refl, sym}
use Rattle.catalog_core.specs.table.TableWords.{table_of}
use Rattle.catalog_core.specs.declared.table.Reference.{Reference}
use Rattle.catalog_core.specs.declared.table.TableDef.{TableDef}
use Rattle.history_model.specs.Versions.{row_of}
use Rattle.period_keys.specs.Lawful.{own_positions, parent_positions}
use Rattle.period_keys.specs.LookUps.{periods_by}
use Rattle.period_keys.proofs.ReferenceFacts.{held_by, index_as, indexed_as, planned_over, worked_out}
use Rattle.period_keys.proofs.reference_faults.fault_to.Goals as goal

pub periods_by-parents-requires : goal.periods_by-parents-requires
periods_by-parents-requires c =
    let reference : Reference = c.args.reference.now in
    let parent : TableDef = c.args.parent.now in
    indexed_as c.args.tables.now reference.parent c.from.result (parent_positions parent reference) c.as_slice-4.result.now c.requires.parents c.from.ensures
    (worked_out parent reference.keys c.as_slice-2.result.now c.in_ok-keys.keys.items c.as_slice-4.result.now c.as_slice-4.ensures.value c.in_ok-keys.ensures c.as_slice-2.ensures)

pub periods_by-children-requires : goal.periods_by-children-requires
periods_by-children-requires c =
    let reference : Reference = c.args.reference.now in
    let child : TableDef = c.args.child.now in
    indexed_as c.args.tables.now c.args.number c.args.number (own_positions child reference) c.as_slice-3.result.now c.requires.children refl
    (worked_out child reference.own c.as_slice.result.now c.in_ok-own.own.items c.as_slice-3.result.now c.as_slice-3.ensures.value c.in_ok-own.ensures c.as_slice.ensures)

pub returns : goal.returns
returns c = λ catalog before change known refers changed other.
    let child : TableDef = c.args.child.now in
    let reference : Reference = c.args.reference.now in
    let parent : TableDef = c.args.parent.now in
    let own : List ℕ = own_positions child reference in
    let keys : List ℕ = parent_positions parent reference in
    let own_is : c.as_slice-3.result.now ≡ own = worked_out child reference.own c.as_slice.result.now c.in_ok-own.own.items c.as_slice-3.result.now c.as_slice-3.ensures.value c.in_ok-own.ensures c.as_slice.ensures in
    let keys_is : c.as_slice-4.result.now ≡ keys = worked_out parent reference.keys c.as_slice-2.result.now c.in_ok-keys.keys.items c.as_slice-4.result.now c.as_slice-4.ensures.value c.in_ok-keys.ensures c.as_slice-2.ensures in
    let given_is : c.as_slice-5.result.now ≡ keys = worked_out parent reference.keys c.as_slice-2.result.now c.in_ok-keys.keys.items c.as_slice-5.result.now c.as_slice-5.ensures.value c.in_ok-keys.ensures c.as_slice-2.ensures in
    let parent_is : table_of catalog change.table ≡ Some parent = ap (table_of catalog) (sym changed) ∙ refers.is_parent in
    let (table, there, planned) = planned_over catalog before c.args.tables.now change c.args.plan.now parent known parent_is in
    let (below, below_there, below_holds) = held_by catalog before c.args.tables.now c.args.number child known.holds refers.is_child in
    c.in_ok-found.ensures catalog before change table.rows c.args.number child reference parent given_is planned (record {
      refers = refers;
      changed = changed;
      other = other;
      below = map row_of below.rows;
      holds = below_holds.holds;
      children_indexed = index_as c.args.tables.now c.args.number c.args.number own c.as_slice-3.result.now (periods_by c.periods_by-children.result) below refl own_is below_there c.periods_by-children.ensures;
      parents_indexed = index_as c.args.tables.now change.table c.from.result keys c.as_slice-4.result.now (periods_by c.periods_by-parents.result) table (c.from.ensures ∙ changed) keys_is there c.periods_by-parents.ensures;
    })

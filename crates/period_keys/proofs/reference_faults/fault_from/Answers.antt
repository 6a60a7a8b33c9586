use Rattle.std.proofs.Common.{◌≡◌, ◌<◌, ◌∙◌, ℕ, List, arith, map, subst, sym}
use Rattle.catalog_core.specs.declared.table.Reference.{Reference}
use Rattle.catalog_core.specs.declared.table.TableDef.{TableDef}
use Rattle.history_model.specs.Versions.{row_of}
use Rattle.period_keys.specs.Keys.{IsLeastOf}
use Rattle.period_keys.specs.Lawful.{LacksParentBy, Refers, own_positions, parent_positions, state_after}
use Rattle.period_keys.specs.LookUps.{periods_by}
use Rattle.period_keys.proofs.ReferenceFacts.{held_by, index_as, indexed_as, planned_over, worked_out}
use Rattle.period_keys.proofs.reference_faults.fault_from.Goals as goal

pub periods_by-parents-requires : goal.periods_by-parents-requires
periods_by-parents-requires c =
    let reference : Reference = c.args.reference.now in
    let parent : TableDef = c.args.parent.now in
    indexed_as c.args.tables.now reference.parent c.from.result (parent_positions parent reference) c.as_slice-3.result.now c.requires.parents c.from.ensures
    (worked_out parent reference.keys c.as_slice-2.result.now c.in_ok-keys.keys.items c.as_slice-3.result.now c.as_slice-3.ensures.value c.in_ok-keys.ensures c.as_slice-2.ensures)

apart : (a b : ℕ) → a < b → a ≡ b → ⊥
apart a b less same = omega (arith, less, same)

pub returns : goal.returns
returns c = λ catalog before change known refers own_table.
    let child : TableDef = c.args.child.now in
    let reference : Reference = c.args.reference.now in
    let parent : TableDef = c.args.parent.now in
    let keys : List ℕ = parent_positions parent reference in
    let own_is : c.as_slice-4.result.now ≡ own_positions child reference = worked_out child reference.own c.as_slice.result.now c.in_ok-own.own.items c.as_slice-4.result.now c.as_slice-4.ensures.value c.in_ok-own.ensures c.as_slice.ensures in
    let keys_is : c.as_slice-3.result.now ≡ keys = worked_out parent reference.keys c.as_slice-2.result.now c.in_ok-keys.keys.items c.as_slice-3.result.now c.as_slice-3.ensures.value c.in_ok-keys.ensures c.as_slice-2.ensures in
    let own_refers : Refers catalog change.table child reference parent = subst (λ (n : ℕ). Refers catalog n child reference parent) own_table refers in
    let (table, there, planned) = planned_over catalog before c.args.tables.now change c.args.plan.now child known own_refers.is_child in
    let (above, above_there, above_holds) = held_by catalog before c.args.tables.now reference.parent parent known.holds refers.is_parent in
    subst (λ (n : ℕ). IsLeastOf (LacksParentBy (state_after change before) n child reference parent) c.in_ok-found.found) (sym own_table)
    (c.in_ok-found.ensures catalog before change table.rows child reference parent own_is planned (record {
      refers = own_refers;
      other = λ same. apart reference.parent c.args.number (known.earlier c.args.number child reference parent refers) (same ∙ sym own_table);
      above = map row_of above.rows;
      holds = above_holds.holds;
      indexed = index_as c.args.tables.now reference.parent c.from.result keys c.as_slice-3.result.now (periods_by c.periods_by-parents.result) above c.from.ensures keys_is above_there c.periods_by-parents.ensures;
    }))

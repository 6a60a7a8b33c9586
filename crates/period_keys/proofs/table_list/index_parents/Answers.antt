use Rattle.std.proofs.Common.{◌≡◌, ◌∙◌, List, arith, subst, sym, take}
use Rattle.std.specs.Prelude.{Contains}
use Rattle.std.proofs.lemmas.List.{take_all}
use Rattle.temporal_model.proofs.Members.{Contains-nil}
use Rattle.catalog_core.specs.declared.table.Reference.{Reference}
use Rattle.catalog_core.specs.declared.table.TableDef.{TableDef}
use Rattle.period_keys.specs.Current.{IsParentIndexed}
use Rattle.period_keys.specs.Lawful.{parent_positions}
use Rattle.period_keys.specs.TableRows.{TableRows}
use Rattle.period_keys.proofs.Members.{first_more}
use Rattle.period_keys.proofs.TableLists.{have_more_refl, have_more_trans, same_count}
use Rattle.period_keys.proofs.table_list.index_parents.Goals as goal

pub loop-reference-init : goal.loop-reference-init
loop-reference-init c = record { kept = have_more_refl c.args.tables.now; done = λ reference there. absurd (Contains-nil reference there) }

pub index_parent-requires : goal.index_parent-requires
index_parent-requires c = same_count c.args.tables.now c.loop-reference.tables c.loop-reference.invariant.kept ∙ c.requires

pub loop-reference-preserved : goal.loop-reference-preserved
loop-reference-preserved c =
    let definitions : List TableDef = c.args.definitions.now in
    let new : List TableRows = c.index_parent.new.tables in
    record {
      kept = have_more_trans c.args.tables.now c.loop-reference.tables new c.loop-reference.invariant.kept c.index_parent.ensures.kept;
      done = first_more (λ reference. IsParentIndexed definitions reference c.loop-reference.tables) (λ reference. IsParentIndexed definitions reference new) c.as_slice-references.result.now c.loop-reference.reference-index c.reference-item.result
          c.loop-reference-test.true c.reference-item.is (λ reference before parent is. c.index_parent.ensures.kept.indexed reference.parent (parent_positions parent reference) (before parent is)) c.in_ok-index_parent.ensures.ok c.loop-reference.invariant.done;
    }

pub returns-clause-ok : goal.returns-clause-ok
returns-clause-ok c = λ reference there.
    let references : List Reference = c.as_slice-references.result.now in
    let all : take c.loop-reference.reference-index references ≡ references = take_all _ _ (omega arith) in
    c.loop-reference.invariant.done reference (subst (λ (list : List Reference). Contains list reference) (sym (all ∙ c.as_slice-references.ensures)) there)

pub returns-clause-kept : goal.returns-clause-kept
returns-clause-kept c = c.loop-reference.invariant.kept

pub returns-in_err-index_parent-clause-kept : goal.returns-in_err-index_parent-clause-kept
returns-in_err-index_parent-clause-kept c = have_more_trans c.args.tables.now c.loop-reference.tables c.index_parent.new.tables c.loop-reference.invariant.kept c.index_parent.ensures.kept

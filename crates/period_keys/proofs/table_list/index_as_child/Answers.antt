use Rattle.std.proofs.Common.{◌≡◌, ◌∙◌, List, arith, subst, sym, take}
use Rattle.std.specs.Prelude.{Contains}
use Rattle.std.proofs.lemmas.List.{take_all}
use Rattle.temporal_model.proofs.Members.{Contains-nil}
use Rattle.catalog_core.specs.declared.table.Reference.{Reference}
use Rattle.catalog_core.specs.declared.table.TableDef.{TableDef}
use Rattle.period_keys.specs.Lawful.{own_positions}
use Rattle.period_keys.specs.TableRows.{TableRows}
use Rattle.period_keys.proofs.Members.{first_more}
use Rattle.period_keys.proofs.ReferenceFacts.{worked_out}
use Rattle.period_keys.proofs.TableLists.{has_more_refl, has_more_trans}
use Rattle.period_keys.proofs.table_list.index_as_child.Goals as goal

pub loop-reference-init : goal.loop-reference-init
loop-reference-init c = record { kept = has_more_refl c.args.table.now; done = λ reference there. absurd (Contains-nil reference there) }

pub loop-reference-preserved : goal.loop-reference-preserved
loop-reference-preserved c =
    let child : TableDef = c.args.child.now in
    let here : Reference = c.reference-item.result in
    let new : TableRows = c.index_once.new.self in
    let own_is : c.from_vec.result ≡ own_positions child here = worked_out child here.own c.as_slice.result.now c.in_ok-own.own.items c.from_vec.result c.from_vec.ensures c.in_ok-own.ensures c.as_slice.ensures in
    record {
      kept = has_more_trans c.args.table.now c.loop-reference.table new c.loop-reference.invariant.kept c.index_once.ensures.kept;
      done = first_more (λ reference. Contains c.loop-reference.table.indexed (own_positions child reference)) (λ reference. Contains new.indexed (own_positions child reference)) c.as_slice-references.result.now c.loop-reference.reference-index here
          c.loop-reference-test.true c.reference-item.is (λ reference. c.index_once.ensures.kept.indexed (own_positions child reference)) (subst (Contains new.indexed) own_is c.in_ok-index_once.ensures.ok) c.loop-reference.invariant.done;
    }

pub returns-clause-ok : goal.returns-clause-ok
returns-clause-ok c = λ reference there.
    let references : List Reference = c.as_slice-references.result.now in
    let all : take c.loop-reference.reference-index references ≡ references = take_all _ _ (omega arith) in
    c.loop-reference.invariant.done reference (subst (λ (list : List Reference). Contains list reference) (sym (all ∙ c.as_slice-references.ensures)) there)

pub returns-clause-kept : goal.returns-clause-kept
returns-clause-kept c = c.loop-reference.invariant.kept

pub returns-in_err-own-clause-kept : goal.returns-in_err-own-clause-kept
returns-in_err-own-clause-kept c = c.loop-reference.invariant.kept

pub returns-in_err-index_once-clause-kept : goal.returns-in_err-index_once-clause-kept
returns-in_err-index_once-clause-kept c = has_more_trans c.args.table.now c.loop-reference.table c.index_once.new.self c.loop-reference.invariant.kept c.index_once.ensures.kept

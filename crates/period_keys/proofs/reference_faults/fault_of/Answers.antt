use Rattle.std.proofs.Common.{◌≡◌, ℤ, List, take, subst, sym, arith}
use Rattle.std.specs.Prelude.{Contains}
use Rattle.std.specs.List.{Any}
use Rattle.std.proofs.lemmas.List.{take_all}
use Rattle.catalog_core.specs.declared.table.Reference.{Reference}
use Rattle.period_keys.specs.Faults.{IsFaultBy}
use Rattle.period_keys.specs.Keys.{IsLeastOf}
use Rattle.period_keys.proofs.Leasts.{least_more}
use Rattle.period_keys.proofs.reference_faults.fault_of.Goals as goal

pub fault_by-requires : goal.fault_by-requires
fault_by-requires c = record {
  indexed = c.requires.indexed;
  child = c.requires.child;
  reference = subst (λ (list : List Reference). Contains list c.reference-item.result) c.as_slice-references.ensures (c.loop-reference.reference-index, c.loop-reference-test.true, sym c.reference-item.is);
}

pub loop-reference-preserved : goal.loop-reference-preserved
loop-reference-preserved c = λ before change is known.
    least_more (λ reference day. IsFaultBy c.args.definitions.now before change c.args.number c.args.child.now day reference) c.as_slice-references.result.now c.loop-reference.reference-index c.reference-item.result
    c.loop-reference.found c.in_ok-by_it.by_it c.earlier-found.result c.loop-reference-test.true c.reference-item.is (c.loop-reference.invariant before change is known) (c.in_ok-by_it.ensures before change is known) c.earlier-found.ensures

pub returns : goal.returns
returns c = λ before change is known.
    let By : ℤ → Reference → Type 0 = IsFaultBy c.args.definitions.now before change c.args.number c.args.child.now in
    let references : List Reference = c.as_slice-references.result.now in
    let all : take c.loop-reference.reference-index references ≡ references = take_all _ _ (omega arith) in
    subst (λ (list : List Reference). IsLeastOf (λ day. Any (By day) list) c.loop-reference.found) c.as_slice-references.ensures
    (subst (λ (list : List Reference). IsLeastOf (λ day. Any (By day) list) c.loop-reference.found) all (c.loop-reference.invariant before change is known))

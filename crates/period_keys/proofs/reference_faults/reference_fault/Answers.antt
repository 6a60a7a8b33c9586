use Rattle.std.proofs.Common.{◌≤◌, List, arith, length, refl, sym, subst}
use Rattle.std.proofs.lemmas.Option.{slice_get_read}
use Rattle.catalog_core.specs.declared.table.TableDef.{TableDef}
use Rattle.period_keys.specs.Current.{HaveIndexes}
use Rattle.period_keys.specs.Faults.{IsPlannedIn}
use Rattle.period_keys.specs.Keys.{IsLeastOf}
use Rattle.period_keys.specs.Lawful.{IsReferenceFault}
use Rattle.period_keys.proofs.ReferenceFacts.{below_more, fault_of_all, none_below, number_at}
use Rattle.period_keys.proofs.reference_faults.reference_fault.Goals as goal

pub loop-place-init : goal.loop-place-init
loop-place-init c = λ before change is known. none_below c.as_slice-definitions.result.now before change

pub fault_of-requires : goal.fault_of-requires
fault_of-requires c = record {
  indexed = subst (λ (definitions : List TableDef). HaveIndexes definitions c.args.tables.now) (sym c.as_slice-definitions.ensures) c.requires;
  child = number_at c.as_slice-definitions.result.now c.loop-place.place c.index-definitions-place.result c.loop-place-test.true c.index-definitions-place.is;
}

pub loop-place-preserved : goal.loop-place-preserved
loop-place-preserved c = λ before change is known.
    let definitions : List TableDef = c.as_slice-definitions.result.now in
    let child : TableDef = c.index-definitions-place.result in
    below_more definitions before change c.loop-place.place child c.loop-place.found c.in_ok-here.here c.earlier-found.result
    (slice_get_read definitions (length definitions) c.loop-place.place child refl c.loop-place-test.true c.index-definitions-place.is)
    (c.loop-place.invariant before change is known) (c.in_ok-here.ensures before change is known) c.earlier-found.ensures

pub returns : goal.returns
returns c = λ before change is known.
    let definitions : List TableDef = c.as_slice-definitions.result.now in
    let all : length definitions ≤ c.loop-place.place = omega (arith, c.loop-place-test.false) in
    subst (λ (list : List TableDef). IsLeastOf (IsReferenceFault list before change) c.loop-place.found) c.as_slice-definitions.ensures
    (fault_of_all definitions before change c.loop-place.place c.loop-place.found all
    (c.loop-place.invariant before change is (subst (λ (list : List TableDef). IsPlannedIn list before c.args.tables.now change c.args.plan.now) (sym c.as_slice-definitions.ensures) known)))

use Rattle.std.proofs.Common.{◌≡◌, ◌≤◌, ◌∙◌, List, ap, arith, length, map, refl, sym, take_all}
use Rattle.statement_resolution.proofs.lemmas.conditions.Numbers.{map_more}
use Rattle.statement_resolution.proofs.lemmas.judged.FaultSums.{among_after, either_none}
use Rattle.statement_resolution.proofs.lemmas.query.ReferenceLists.{Borrowed, map_both}
use Rattle.statement_resolution.proofs.lemmas.query.ReferenceParts.{missing_sum, parts_count, placed_more}
use Rattle.catalog_core.specs.query.Fitting.{are_in_place}
use Rattle.statement_resolution.specs.Faults.{either, faults_among}
use Rattle.statement_resolution.specs.query.Faults.{lacks_one, missing_fault}
use Rattle.statement_resolution.specs.query.Places.{placed_reference}
use Rattle.statement_resolution.specs.query.Resolving.{reference_parts}
use Rattle.statement_resolution.proofs.query.conversion.convert_references.Goals as goal

pub loop-reference-init : goal.loop-reference-init
loop-reference-init c = record {
  parts = ap (map reference_parts) (sym c.new-numbered.ensures.items);
  placed = ap (are_in_place c.args.place) c.new-numbered.ensures.items;
  next = omega arith;
  faults = sym (either_none c.args.faults.now);
}

pub loop-reference-preserved : goal.loop-reference-preserved
loop-reference-preserved c =
    let f = λ (r : Borrowed). placed_reference c.args.catalog.now.tables r.now in
    let rs = c.args.references.now in
    let i = c.loop-reference.reference-index in
    let within : i ≤ length rs = omega (arith, c.loop-reference-test.true) in
    let count : length c.loop-reference.numbered.items ≡ i = parts_count f rs i c.loop-reference.numbered.items within c.loop-reference.invariant.parts in
    let here = c.in_ok-convert_reference.field-0 in
    let missing = λ (r : Borrowed). missing_fault (lacks_one c.args.catalog.now.tables r.now) in
    record {
      parts = map_more f reference_parts rs i c.reference-item.result c.loop-reference.numbered.items c.push.new.self.items here c.loop-reference-test.true c.reference-item.is
          c.loop-reference.invariant.parts c.in_ok-convert_reference.ensures.parts c.in_ok-push.ensures.items;
      placed = ap (are_in_place c.args.place) c.in_ok-push.ensures.items
          ∙ placed_more c.args.place c.loop-reference.numbered.items here c.loop-reference.invariant.placed (omega (arith, c.in_ok-convert_reference.ensures.placed, c.loop-reference.invariant.next, count));
      next = omega (arith, c.loop-reference.invariant.next);
      faults = c.in_ok-convert_reference.ensures.faults
          ∙ among_after missing c.args.faults.now rs i c.reference-item.result c.loop-reference.faults (missing c.reference-item.result)
          c.loop-reference-test.true c.reference-item.is c.loop-reference.invariant.faults refl;
    }

pub returns : goal.returns
returns c =
    let f = placed_reference c.args.catalog.now.tables in
    let now = λ (r : Borrowed). r.now in
    let rs = c.args.references.now in
    record {
      parts = map_both f now rs ∙ ap (map (λ (r : Borrowed). f r.now)) (sym (take_all c.loop-reference.reference-index rs c.loop-reference-test.false)) ∙ c.loop-reference.invariant.parts;
      placed = c.loop-reference.invariant.placed;
      faults = c.loop-reference.invariant.faults
          ∙ ap (λ (xs : List Borrowed). either c.args.faults.now (faults_among (λ (r : Borrowed). missing_fault (lacks_one c.args.catalog.now.tables r.now)) xs)) (take_all c.loop-reference.reference-index rs c.loop-reference-test.false)
          ∙ ap (either c.args.faults.now) (missing_sum c.args.catalog.now.tables rs);
    }

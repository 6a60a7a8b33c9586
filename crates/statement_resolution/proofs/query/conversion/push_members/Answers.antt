use Rattle.std.proofs.Common.{◌∙◌, map, refl, sym}
use Rattle.std.proofs.lemmas.List.{append-nil}
use Rattle.statement_resolution.proofs.lemmas.conditions.Numbers.{placed_by}
use Rattle.statement_resolution.proofs.lemmas.conditions.Parts.{faults_in}
use Rattle.statement_resolution.proofs.lemmas.judged.FaultSums.{among_after, either_none}
use Rattle.statement_resolution.proofs.lemmas.query.Members.{many_faults, many_members, members_next}
use Rattle.statement_resolution.specs.query.Faults.{compare_faults, matches_among}
use Rattle.statement_resolution.specs.query.Places.{place_among}
use Rattle.statement_resolution.specs.query.Resolving.{conjunct_parts}
use Rattle.statement_resolution.proofs.query.conversion.push_members.Goals as goal

pub loop-part-init : goal.loop-part-init
loop-part-init c = record {
  placed = sym (append-nil (map conjunct_parts c.push.new.self.items));
  faults = sym (either_none c.resolve_condition.new.found);
}

pub loop-part-preserved : goal.loop-part-preserved
loop-part-preserved c =
    let f = placed_by (place_among c.args.scope.now.before.now c.args.scope.now.seen.now) in
    let of = faults_in (compare_faults (matches_among c.args.scope.now.seen.now)) in
    record {
      placed = members_next f c.outer_and.result.1.now c.loop-part.part-index c.part-item.result (map conjunct_parts c.push.new.self.items) c.loop-part.conjuncts.items c.push-in-loop-part.new.self.items c.in_ok-resolve_condition-2.field-0
          c.loop-part-test.true c.part-item.is c.loop-part.invariant.placed c.in_ok-resolve_condition-2.ensures.numbered c.in_ok-push-2.ensures.items;
      faults = c.in_ok-resolve_condition-2.ensures.judged
          ∙ among_after of c.resolve_condition.new.found c.outer_and.result.1.now c.loop-part.part-index c.part-item.result c.loop-part.faults (of c.part-item.result)
          c.loop-part-test.true c.part-item.is c.loop-part.invariant.faults refl;
    }

pub returns : goal.returns
returns c =
    let f = placed_by (place_among c.args.scope.now.before.now c.args.scope.now.seen.now) in
    record {
      placed = many_members f c.args.condition.now c.outer_and.result.0.now c.outer_and.result.1.now c.args.conjuncts.now.items c.push.new.self.items c.loop-part.conjuncts.items c.loop-part.part-index c.in_ok-resolve_condition.field-0
          c.outer_and.ensures c.in_ok-push.ensures.items c.in_ok-resolve_condition.ensures.numbered c.loop-part-test.false c.loop-part.invariant.placed;
      faults = many_faults (compare_faults (matches_among c.args.scope.now.seen.now)) c.args.condition.now c.outer_and.result.0.now c.outer_and.result.1.now c.loop-part.part-index c.args.faults.now c.resolve_condition.new.found c.loop-part.faults
          c.outer_and.ensures c.in_ok-resolve_condition.ensures.judged c.loop-part-test.false c.loop-part.invariant.faults;
    }

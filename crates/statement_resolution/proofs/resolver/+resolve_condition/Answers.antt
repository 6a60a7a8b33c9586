use Rattle.std.proofs.Common.{◌∙◌, ap, map, refl, sym}
use Rattle.statement_resolution.proofs.lemmas.conditions.Numbers.{map_end, map_more, mapped, same_and, same_or}
use Rattle.statement_resolution.proofs.lemmas.conditions.Parts.{chain_faults, faults_in, is_and, is_or, test_part}
use Rattle.statement_resolution.proofs.lemmas.judged.FaultSums.{among_after, either_none}
use Rattle.statement_resolution.specs.Faults.{either}
use Rattle.statement_resolution.proofs.resolver.+resolve_condition.Goals as goal

pub loop-part-init : goal.loop-part-init
loop-part-init g t c = record { numbered = ap (map (mapped g.S.Resolver.parts)) (sym c.new-numbered.ensures.items); judged = sym (either_none c.args.found.now) }

pub loop-part-preserved : goal.loop-part-preserved
loop-part-preserved g t c =
    let items = c.deref-part-items.result.now in
    let part = c.part-item.result in
    let of = faults_in (g.S.Resolver.faults c.args.resolver.now) in
    record {
      numbered = map_more (mapped (g.S.Resolver.placed c.args.resolver.now)) (mapped g.S.Resolver.parts) items c.loop-part.part-index part
          c.loop-part.numbered.items c.push.new.self.items c.in_ok-resolve_condition-in-Or.field-0
          c.loop-part-test.true c.part-item.is c.loop-part.invariant.numbered c.in_ok-resolve_condition-in-Or.ensures.numbered c.in_ok-push-in-Or.ensures.items;
      judged = c.in_ok-resolve_condition-in-Or.ensures.judged
          ∙ among_after of c.args.found.now items c.loop-part.part-index part c.loop-part.found (of part) c.loop-part-test.true c.part-item.is c.loop-part.invariant.judged refl;
    }

pub returns-in_ok-resolve_test-in-Test-clause-judged : goal.returns-in_ok-resolve_test-in-Test-clause-judged
returns-in_ok-resolve_test-in-Test-clause-judged g t c =
    let of = g.S.Resolver.faults c.args.resolver.now in
    c.in_ok-resolve_test-in-Test.ensures.judged ∙ ap (either c.args.found.now) (sym (ap (faults_in of) c.in-Test.is ∙ test_part of c.in-Test.test))

pub returns-in-And : goal.returns-in-And
returns-in-And g t c =
    let f = g.S.Resolver.placed c.args.resolver.now in
    let h = g.S.Resolver.parts in
    let first = c.in-Or.first in
    let others = c.in-Or.others in
    record {
      numbered = ap (mapped f) (is_and c.args.condition.now first others c.in-Or.is c.in-And.field-0 c.in-And.field-1 c.in-And.is) ∙ same_and f h first others c.in_ok-first-in-Or-2.first c.loop-part.numbered
          (ap (mapped f) (sym c.deref-in-Or.ensures) ∙ c.in_ok-first-in-Or.ensures.numbered ∙ ap (mapped h) (sym c.in_ok-first-in-Or-2.ensures.ok))
          (map_end (mapped f) (mapped h) c.deref-part-items.result.now others.items c.loop-part.part-index c.loop-part.numbered.items c.loop-part-test.false c.deref-part-items.ensures.value c.loop-part.invariant.numbered);
      judged = chain_faults (g.S.Resolver.faults c.args.resolver.now) c.args.condition.now first others c.deref-part-items.result.now c.loop-part.part-index c.deref-in-Or.result.now c.args.found.now c.loop-part.found c.resolve_condition-in-Or.new.found
          c.in-Or.is c.loop-part-test.false c.deref-part-items.ensures.value c.deref-in-Or.ensures c.loop-part.invariant.judged c.in_ok-first-in-Or.ensures.judged;
    }

pub returns-in_default : goal.returns-in_default
returns-in_default g t c =
    let f = g.S.Resolver.placed c.args.resolver.now in
    let h = g.S.Resolver.parts in
    let first = c.in-Or.first in
    let others = c.in-Or.others in
    record {
      numbered = ap (mapped f) (is_or c.args.condition.now first others c.in-Or.is c.in_default.not-And) ∙ same_or f h first others c.in_ok-first-in-Or-2.first c.loop-part.numbered
          (ap (mapped f) (sym c.deref-in-Or.ensures) ∙ c.in_ok-first-in-Or.ensures.numbered ∙ ap (mapped h) (sym c.in_ok-first-in-Or-2.ensures.ok))
          (map_end (mapped f) (mapped h) c.deref-part-items.result.now others.items c.loop-part.part-index c.loop-part.numbered.items c.loop-part-test.false c.deref-part-items.ensures.value c.loop-part.invariant.numbered);
      judged = chain_faults (g.S.Resolver.faults c.args.resolver.now) c.args.condition.now first others c.deref-part-items.result.now c.loop-part.part-index c.deref-in-Or.result.now c.args.found.now c.loop-part.found c.resolve_condition-in-Or.new.found
          c.in-Or.is c.loop-part-test.false c.deref-part-items.ensures.value c.deref-in-Or.ensures c.loop-part.invariant.judged c.in_ok-first-in-Or.ensures.judged;
    }

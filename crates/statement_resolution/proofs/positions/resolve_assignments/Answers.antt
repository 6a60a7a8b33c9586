use Rattle.std.proofs.Common.{◌∙◌, arith, refl, sym}
use Rattle.std.proofs.lemmas.Grind.{common_steps}
use Rattle.statement_resolution.proofs.lemmas.judged.FaultSums.{among_after, either_none}
use Rattle.statement_resolution.specs.TableFaults.{set_faults}
use Rattle.statement_resolution.proofs.positions.resolve_assignments.Goals as goal

pub loop-set-init : goal.loop-set-init
loop-set-init c = record { numbered = sym c.in_ok-numbered.ensures.items; judged = sym (either_none c.args.found.now) }

pub loop-set-preserved : goal.loop-set-preserved
loop-set-preserved c =
    let of = set_faults c.args.table.now in
    record {
      numbered = grind (arith, common_steps);
      judged = c.in_ok-resolve_assignment.ensures.judged
          ∙ among_after of c.args.found.now c.args.assignments.now c.loop-set.set-index c.set-item.result c.loop-set.found (of c.set-item.result)
          c.loop-set-test.true c.set-item.is c.loop-set.invariant.judged refl;
    }

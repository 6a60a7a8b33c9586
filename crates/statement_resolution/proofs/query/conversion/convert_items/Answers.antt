use Rattle.std.proofs.Common.{◌∙◌, ap, arith, sym}
use Rattle.std.proofs.lemmas.Grind.{common_steps}
use Rattle.statement_resolution.proofs.lemmas.judged.FaultSums.{among_after, either_none}
use Rattle.statement_resolution.proofs.lemmas.query.Matching.{found_match}
use Rattle.statement_resolution.specs.query.Faults.{item_faults, matches_among}
use Rattle.statement_resolution.specs.query.Matched.{found_faults}
use Rattle.statement_resolution.proofs.query.conversion.convert_items.Goals as goal

pub loop-item-init : goal.loop-item-init
loop-item-init c = record {
  numbered = grind (arith, common_steps);
  kinds = c.requires;
  faults = sym (either_none c.args.faults.now);
}

pub loop-item-preserved : goal.loop-item-preserved
loop-item-preserved c =
    let columns = c.args.scope.now.seen.now in
    record {
      numbered = grind (arith, common_steps);
      kinds = grind (arith, common_steps);
      faults = c.or.ensures
          ∙ among_after (item_faults columns) c.args.faults.now c.args.items.now c.loop-item.item-index c.item-item.result c.loop-item.faults c.faults.result
          c.loop-item-test.true c.item-item.is c.loop-item.invariant.faults
          (c.faults.ensures ∙ ap found_faults c.look_up-named.ensures.matched ∙ found_match (matches_among columns c.item-item.result.column));
    }

use Rattle.period_keys.proofs.references.uncovered_by_parents.Goals as goal

pub returns : goal.returns
returns c = λ own below before stay children_is parents_is covered moved.
    c.in_ok-found.ensures own c.args.keys.now below before c.args.ended.now stay c.args.added.now children_is parents_is c.in_ok-gone.ensures c.in_ok-new.ensures covered moved

use Rattle.period_keys.proofs.references.least_lack_key_by_key.Goals as goal

pub returns : goal.returns
returns c = c.in_ok-found.ensures c.args.own.now c.args.children.now c.in_ok-by_key.ensures

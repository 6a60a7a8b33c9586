use Rattle.period_keys.proofs.table_index.TableIndex.prepare_for.Goals as goal

pub invariant_of-self : goal.invariant_of-self
invariant_of-self c = (c.self.invariant.0, c.add_index.ensures.kept c.self.invariant.1)

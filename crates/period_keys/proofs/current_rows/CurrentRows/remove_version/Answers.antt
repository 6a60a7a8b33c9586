use Rattle.period_keys.proofs.current_rows.CurrentRows.remove_version.Goals as goal

pub invariant_of-self : goal.invariant_of-self
invariant_of-self c = c.take_from.ensures.grouped c.self.inside.positions c.self.invariant

use Rattle.period_keys.proofs.near_rows.push_places.Goals as goal

pub returns-else-may_meet-clause-all : goal.returns-else-may_meet-clause-all
returns-else-may_meet-clause-all c = λ item there near. absurd (c.may_meet.ensures c.if-may_meet.false item there near)

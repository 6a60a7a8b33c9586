use Rattle.coalesce_core.proofs.Streams.{IsCoalescedRun-new}
use Rattle.coalesce_core.proofs.merging.Coalesce.new.Goals as goal

pub returns-clause-runs : goal.returns-clause-runs
returns-clause-runs g c = IsCoalescedRun-new g.I.Iterator.next_gives c.args.source c.next-ahead.new.self c.next-ahead.result c.next-ahead.ensures.steps c.requires.ordered

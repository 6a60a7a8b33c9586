use Rattle.sql_front.proofs.DepthFacts.{no_more}
use Rattle.sql_front.proofs.depth.Room.is_exceeded.Goals as goal

pub returns : goal.returns
returns c = no_more c.args.self.is_exceeded c.args.self.left

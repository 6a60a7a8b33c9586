use Rattle.script_engine.proofs.Needed.{read_on_more}
use Rattle.script_engine.proofs.engine.read_lists.read_one_more.Goals as goal

pub returns-clause-read : goal.returns-clause-read
returns-clause-read c =
    read_on_more c.args.tables.now c.read_next.new.tables c.args.select.now c.args.lists.now.items c.read_next.new.lists.items c.read_next-2.new.lists.items c.read_next.ensures.same c.in_ok-read_next.ensures.read c.in_ok-read_next-2.ensures.read

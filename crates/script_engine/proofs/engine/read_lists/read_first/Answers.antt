use Rattle.std.proofs.Common.{◌∙◌, refl}
use Rattle.script_engine.proofs.Needed.{read_on_more, read_on_none}
use Rattle.script_engine.proofs.engine.read_lists.read_first.Goals as goal

pub loop-more-init : goal.loop-more-init
loop-more-init c = record { same = refl; read = read_on_none c.args.tables.now c.args.select.now c.args.lists.now.items }

pub loop-more-preserved : goal.loop-more-preserved
loop-more-preserved c = record {
  same = c.read_one_more.ensures.same ∙ c.loop-more.invariant.same;
  read = read_on_more c.args.tables.now c.loop-more.tables c.args.select.now c.args.lists.now.items c.loop-more.lists.items c.read_one_more.new.lists.items c.loop-more.invariant.same c.loop-more.invariant.read c.in_ok-read_one_more.ensures.read;
}

pub returns-clause-read : goal.returns-clause-read
returns-clause-read c = c.loop-more.invariant.read

use Rattle.std.proofs.Common.{◌∙◌, refl}
use Rattle.script_engine.proofs.Needed.{read_on_more, read_on_none}
use Rattle.script_engine.proofs.engine.read_lists.read_next.Goals as goal

pub loop-place-init : goal.loop-place-init
loop-place-init c = record { same = refl; read = read_on_none c.args.tables.now c.args.select.now c.args.lists.now.items }

pub read_at-requires-clause-places : goal.read_at-requires-clause-places
read_at-requires-clause-places c = (c.requires.0, c.loop-place.invariant.read.count ∙ c.requires.1)

pub returns-then-branch-clause-read : goal.returns-then-branch-clause-read
returns-then-branch-clause-read c =
    read_on_more c.args.tables.now c.loop-place.tables c.args.select.now c.args.lists.now.items c.loop-place.lists.items c.read_at.new.lists.items c.loop-place.invariant.same c.loop-place.invariant.read c.in_ok-read_at.ensures.read

pub loop-place-preserved : goal.loop-place-preserved
loop-place-preserved c = record {
  same = c.read_at.ensures.same ∙ c.loop-place.invariant.same;
  read = read_on_more c.args.tables.now c.loop-place.tables c.args.select.now c.args.lists.now.items c.loop-place.lists.items c.read_at.new.lists.items c.loop-place.invariant.same c.loop-place.invariant.read c.in_ok-read_at.ensures.read;
}

pub returns-clause-read : goal.returns-clause-read
returns-clause-read c = c.loop-place.invariant.read

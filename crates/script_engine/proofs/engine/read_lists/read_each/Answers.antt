use Rattle.std.proofs.Common.{◌∙◌, arith, refl}
use Rattle.script_engine.proofs.Needed.{none_below, read_below_more, read_on_more}
use Rattle.script_engine.proofs.engine.read_lists.read_each.Goals as goal

pub loop-place-init : goal.loop-place-init
loop-place-init c = record {
  same = c.read_first.ensures.same;
  read = c.in_ok-read_first.ensures.read;
  all = none_below c.read_first.new.lists.items;
}

pub read_at-requires-clause-places : goal.read_at-requires-clause-places
read_at-requires-clause-places c = (c.requires.0, c.loop-place.invariant.read.count ∙ c.requires.1)

pub loop-place-preserved : goal.loop-place-preserved
loop-place-preserved c = record {
  same = c.read_at.ensures.same ∙ c.loop-place.invariant.same;
  read = read_on_more c.args.tables.now c.loop-place.tables c.args.select.now c.args.lists.now.items c.loop-place.lists.items c.read_at.new.lists.items c.loop-place.invariant.same c.loop-place.invariant.read c.in_ok-read_at.ensures.read;
  all = read_below_more c.loop-place.lists.items c.read_at.new.lists.items c.loop-place.place c.loop-place.invariant.all c.in_ok-read_at.ensures.read.kept (c.in_ok-read_at.ensures.there refl);
}

pub returns-clause-read : goal.returns-clause-read
returns-clause-read c = c.loop-place.invariant.read

pub returns-clause-all : goal.returns-clause-all
returns-clause-all c = λ place below. c.loop-place.invariant.all place (let over = c.loop-place-test.false in omega (arith, below, over))

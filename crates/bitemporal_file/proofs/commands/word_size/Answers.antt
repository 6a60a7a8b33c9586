use Rattle.std.specs.List.{prefix_len}
use Rattle.std.specs.Char.{is_ascii_alphabetic}
use Rattle.sql_statements.proofs.Counting.{prefix_on, prefix_stops, prefix_ends}
use Rattle.bitemporal_file.proofs.commands.word_size.Goals as goal

pub returns-then-not-is_ascii_alphabetic-clause-size : goal.returns-then-not-is_ascii_alphabetic-clause-size
returns-then-not-is_ascii_alphabetic-clause-size c = prefix_stops is_ascii_alphabetic c.args.line.now c.loop-i.i (prefix_len is_ascii_alphabetic c.args.line.now) c.loop-i-test.true c.if-not-is_ascii_alphabetic.ensures.value c.loop-i.invariant

pub loop-i-preserved : goal.loop-i-preserved
loop-i-preserved c = prefix_on is_ascii_alphabetic c.args.line.now c.loop-i.i (prefix_len is_ascii_alphabetic c.args.line.now) c.loop-i-test.true c.if-not-is_ascii_alphabetic.ensures.value c.loop-i.invariant

pub returns-clause-size : goal.returns-clause-size
returns-clause-size c = prefix_ends is_ascii_alphabetic c.args.line.now c.loop-i.i (prefix_len is_ascii_alphabetic c.args.line.now) c.loop-i-test.false c.loop-i.auto.i-end c.loop-i.invariant

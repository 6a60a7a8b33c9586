use Rattle.std.specs.List.{prefix_len}
use Rattle.sql_statements.specs.Lexis.{is_digit}
use Rattle.sql_statements.proofs.Counting.{prefix_on, prefix_stops, prefix_ends}
use Rattle.sql_statements.proofs.scan.number_size.Goals as goal

pub returns-then-not-is_digit-clause-size : goal.returns-then-not-is_digit-clause-size
returns-then-not-is_digit-clause-size c = prefix_stops is_digit c.args.bytes.now c.loop-i.i (prefix_len is_digit c.args.bytes.now) c.loop-i-test.true c.if-not-is_digit.ensures c.loop-i.invariant

pub loop-i-preserved : goal.loop-i-preserved
loop-i-preserved c = prefix_on is_digit c.args.bytes.now c.loop-i.i (prefix_len is_digit c.args.bytes.now) c.loop-i-test.true c.if-not-is_digit.ensures c.loop-i.invariant

pub returns-clause-size : goal.returns-clause-size
returns-clause-size c = prefix_ends is_digit c.args.bytes.now c.loop-i.i (prefix_len is_digit c.args.bytes.now) c.loop-i-test.false c.loop-i.auto.i-end c.loop-i.invariant

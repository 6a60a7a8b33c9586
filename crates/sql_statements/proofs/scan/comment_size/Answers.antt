use Rattle.std.proofs.Common.{length}
use Rattle.std.specs.Io.BufRead.{take_through}
use Rattle.sql_statements.proofs.Counting.{comment_on, comment_stops, comment_ends}
use Rattle.sql_statements.proofs.scan.comment_size.Goals as goal

pub returns-then-byte-eq10-clause-size : goal.returns-then-byte-eq10-clause-size
returns-then-byte-eq10-clause-size c = comment_stops c.args.bytes.now c.loop-i.i (length (take_through 10 c.args.bytes.now)) c.loop-i-test.true c.if-byte-eq10.true c.loop-i.invariant

pub loop-i-preserved : goal.loop-i-preserved
loop-i-preserved c = comment_on c.args.bytes.now c.loop-i.i (length (take_through 10 c.args.bytes.now)) c.loop-i-test.true c.if-byte-eq10.false c.loop-i.invariant

pub returns-clause-size : goal.returns-clause-size
returns-clause-size c = comment_ends c.args.bytes.now c.loop-i.i (length (take_through 10 c.args.bytes.now)) c.loop-i-test.false c.loop-i.auto.i-end c.loop-i.invariant

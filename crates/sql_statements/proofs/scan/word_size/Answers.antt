use Rattle.std.specs.List.{prefix_len}
use Rattle.sql_statements.specs.Lexis.{is_word_byte}
use Rattle.sql_statements.proofs.Counting.{prefix_on, prefix_stops, prefix_ends}
use Rattle.sql_statements.proofs.scan.word_size.Goals as goal

pub returns-then-not-is_word_byte-clause-size : goal.returns-then-not-is_word_byte-clause-size
returns-then-not-is_word_byte-clause-size c = prefix_stops is_word_byte c.args.bytes.now c.loop-i.i (prefix_len is_word_byte c.args.bytes.now) c.loop-i-test.true c.if-not-is_word_byte.ensures c.loop-i.invariant

pub loop-i-preserved : goal.loop-i-preserved
loop-i-preserved c = prefix_on is_word_byte c.args.bytes.now c.loop-i.i (prefix_len is_word_byte c.args.bytes.now) c.loop-i-test.true c.if-not-is_word_byte.ensures c.loop-i.invariant

pub returns-clause-size : goal.returns-clause-size
returns-clause-size c = prefix_ends is_word_byte c.args.bytes.now c.loop-i.i (prefix_len is_word_byte c.args.bytes.now) c.loop-i-test.false c.loop-i.auto.i-end c.loop-i.invariant

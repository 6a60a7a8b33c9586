use Rattle.std.proofs.Common.{◌≡◌, ◌+◌, true, false, drop, sym, ◌∙◌, ap, arith}
use Rattle.sql_statements.specs.Lexis.{quoted_size, begins_with}
use Rattle.sql_statements.proofs.Counting.{quoted_on, quoted_pair, quoted_stops, quoted_none, pair_fits, to_end}
use Rattle.sql_statements.proofs.scan.quoted_size.Goals as goal

pub loop-i-preserved-then-bytes-i-ne39 : goal.loop-i-preserved-then-bytes-i-ne39
loop-i-preserved-then-bytes-i-ne39 c = record {
  within = omega arith;
  rest = quoted_on c.args.bytes.now c.loop-i.i (quoted_size c.args.bytes.now) c.loop-i-test.true c.if-bytes-i-ne39.true c.loop-i.invariant.rest;
}

pub loop-i-preserved : goal.loop-i-preserved
loop-i-preserved c =
    let e : true ≡ begins_with "'" (drop (c.loop-i.i + 1) c.args.bytes.now) = c.if-begins_quote.ensures ∙ ap (begins_with "'") (to_end c.args.bytes.now (c.loop-i.i + 1)) in
    record {
      within = pair_fits c.args.bytes.now c.loop-i.i c.loop-i-test.true e;
      rest = quoted_pair c.args.bytes.now c.loop-i.i (quoted_size c.args.bytes.now) c.loop-i-test.true c.if-bytes-i-ne39.false e c.loop-i.invariant.rest;
    }

pub returns-else-begins_quote-clause-size : goal.returns-else-begins_quote-clause-size
returns-else-begins_quote-clause-size c =
    let e : false ≡ begins_with "'" (drop (c.loop-i.i + 1) c.args.bytes.now) = c.if-begins_quote.ensures ∙ ap (begins_with "'") (to_end c.args.bytes.now (c.loop-i.i + 1)) in
    quoted_stops c.args.bytes.now c.loop-i.i (quoted_size c.args.bytes.now) c.loop-i-test.true c.if-bytes-i-ne39.false e c.loop-i.invariant.rest

pub returns-clause-size : goal.returns-clause-size
returns-clause-size c = sym (quoted_none c.args.bytes.now c.loop-i.i (quoted_size c.args.bytes.now) c.loop-i-test.false c.loop-i.invariant.rest)

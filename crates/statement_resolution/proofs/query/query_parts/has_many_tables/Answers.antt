use Rattle.std.proofs.Common.{◌<◌, ◌+◌, arith, length}
use Rattle.std.proofs.lemmas.Bool.Decides.{nat_tests}
use Rattle.statement_resolution.proofs.lemmas.query.QueryWalks.{count_front, count_more}
use Rattle.statement_resolution.proofs.lemmas.query.ReferenceLists.{tables_in}
use Rattle.statement_resolution.proofs.query.query_parts.has_many_tables.Goals as goal

pub returns-then-joined-room : goal.returns-then-joined-room
returns-then-joined-room c =
    let chains = c.args.chains.now in
    let i = c.loop-chain.chain-index in
    let more = count_more chains i c.chain-item.result c.loop-chain-test.true c.chain-item.is in
    let front = count_front chains (i + 1) in
    let many : 4 < length (tables_in chains) = omega (arith, c.len-joined.ensures, c.loop-chain.invariant) in
    grind (arith, nat_tests)

pub loop-chain-preserved : goal.loop-chain-preserved
loop-chain-preserved c =
    let more = count_more c.args.chains.now c.loop-chain.chain-index c.chain-item.result c.loop-chain-test.true c.chain-item.is in
    omega (arith, c.len-joined.ensures, c.loop-chain.invariant)

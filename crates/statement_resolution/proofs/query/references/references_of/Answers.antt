use Rattle.std.proofs.Common.{◌∙◌, ◌++◌, List, ap, flat_map, map, sym, take_all}
use Rattle.sql_statements.specs.Plain.{plain_chain}
use Rattle.sql_statements.specs.declared.statement.JoinChain.{JoinChain}
use Rattle.sql_statements.specs.declared.statement.TableReference.{TableReference}
use Rattle.statement_resolution.proofs.lemmas.query.ReferenceLists.{borrowed_filled, front_tables_more}
use Rattle.statement_resolution.specs.query.Scopes.{chain_tables}
use Rattle.statement_resolution.proofs.query.references.references_of.Goals as goal

pub loop-chain-preserved : goal.loop-chain-preserved
loop-chain-preserved c =
    c.in_ok-push_chain.ensures
    ∙ ap (λ (rs : List TableReference). rs ++ chain_tables (plain_chain c.chain-item.result)) c.loop-chain.invariant
    ∙ sym (front_tables_more c.as_slice-chain-items.result.now c.loop-chain.chain-index c.chain-item.result c.loop-chain-test.true c.chain-item.is)

pub returns : goal.returns
returns c =
    let value =
    c.loop-chain.invariant
    ∙ ap (λ (cs : List JoinChain). flat_map chain_tables (map plain_chain cs))
    (take_all c.loop-chain.chain-index c.as_slice-chain-items.result.now c.loop-chain-test.false ∙ c.as_slice-chain-items.ensures.value) in
    record {
      value = value;
      filled = borrowed_filled c.loop-chain.references.items c.args.select.now.chains value (rw (← c.as_slice-chain-items.ensures.value) c.as_slice-chain-items.ensures.filled);
    }

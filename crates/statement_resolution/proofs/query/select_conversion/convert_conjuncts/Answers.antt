use Rattle.std.proofs.Common.{◌≡◌, ◌∙◌, List, [], ap, flat_map, map, refl, sym, take_all}
use Rattle.std.specs.Option.{option_map}
use Rattle.sql_statements.specs.Plain.{plain_chain, plain_condition, plain_select}
use Rattle.sql_statements.specs.declared.statement.JoinChain.{JoinChain}
use Rattle.statement_resolution.proofs.lemmas.judged.FaultSums.{among_front, either_none}
use Rattle.statement_resolution.proofs.lemmas.query.Converted.{chained_members, no_where, where_members}
use Rattle.statement_resolution.proofs.lemmas.query.ReferenceLists.{front_tables, tables_in}
use Rattle.statement_resolution.proofs.lemmas.query.ScopeFaults.{faults_on, front_step, no_where_sum, where_sum}
use Rattle.statement_resolution.specs.Faults.{either, faults_among}
use Rattle.statement_resolution.specs.query.Places.{scoped_members}
use Rattle.statement_resolution.specs.query.Resolving.{conjunct_parts}
use Rattle.statement_resolution.specs.query.Scopes.{on_conditions, seen_columns, tables_of}
use Rattle.statement_resolution.proofs.query.select_conversion.convert_conjuncts.Goals as goal
use Rattle.statement_resolution.proofs.query.select_conversion.convert_conjuncts.Goals.{in-Some+in_ok-push_members, in_default}

pub loop-chain-init : goal.loop-chain-init
loop-chain-init c = record {
  seen = c.requires;
  placed = ap (map conjunct_parts) c.new-conjuncts.ensures.items;
  faults = sym (either_none c.args.faults.now);
}

pub loop-chain-preserved : goal.loop-chain-preserved
loop-chain-preserved c =
    let catalog = c.args.catalog.now.tables in
    let chains = c.as_slice-chain-items.result.now in
    let i = c.loop-chain.chain-index in
    record {
      seen = front_step catalog chains i c.chain-item.result c.loop-chain.columns.items c.push_chain.new.columns.items c.loop-chain-test.true c.chain-item.is c.loop-chain.invariant.seen c.in_ok-push_chain.ensures.seen;
      placed = chained_members catalog chains i c.chain-item.result (map conjunct_parts c.loop-chain.conjuncts.items) (map conjunct_parts c.push_chain.new.conjuncts.items) c.loop-chain-test.true c.chain-item.is
          c.loop-chain.invariant.placed (c.in_ok-push_chain.ensures.placed (front_tables chains i) c.loop-chain.invariant.seen);
      faults = c.in_ok-push_chain.ensures.faults
          ∙ among_front (faults_on catalog) plain_chain c.args.faults.now chains i c.chain-item.result c.loop-chain.faults (faults_on catalog (plain_chain c.chain-item.result))
          c.loop-chain-test.true c.chain-item.is c.loop-chain.invariant.faults refl;
    }

pub returns-clause-placed : goal.returns-clause-placed
returns-clause-placed c =
    let catalog = c.args.catalog.now.tables in
    let s = plain_select c.args.select.now in
    let all = take_all c.loop-chain.chain-index c.as_slice-chain-items.result.now c.loop-chain-test.false ∙ c.as_slice-chain-items.ensures.value in
    let on : map conjunct_parts c.loop-chain.conjuncts.items ≡ flat_map (scoped_members catalog) (on_conditions [] s.chains) =
    c.loop-chain.invariant.placed ∙ ap (λ (cs : List JoinChain). flat_map (scoped_members catalog) (on_conditions [] (map plain_chain cs))) all in
    let seen : c.loop-chain.columns.items ≡ seen_columns catalog (tables_of s) = c.loop-chain.invariant.seen ∙ ap (λ (cs : List JoinChain). seen_columns catalog (tables_in cs)) all in
    elim c.match-select.branch [
      | in-Some+in_ok-push_members w ↦
          ap (λ v. map conjunct_parts v.items) w.conjuncts-is
          ∙ where_members catalog s (plain_condition w.in-Some.condition) w.as_slice.result.now (map conjunct_parts c.loop-chain.conjuncts.items) (map conjunct_parts w.push_members.new.conjuncts.items)
          (ap (option_map plain_condition) w.in-Some.is) on (w.as_slice.ensures.value ∙ seen) w.in_ok-push_members.ensures.placed
      | in_default w ↦
          ap (λ v. map conjunct_parts v.items) w.conjuncts-is
          ∙ no_where catalog s (map conjunct_parts c.loop-chain.conjuncts.items) (ap (option_map plain_condition) w.in_default.is) on
    ]

pub returns-clause-faults : goal.returns-clause-faults
returns-clause-faults c =
    let catalog = c.args.catalog.now.tables in
    let s = plain_select c.args.select.now in
    let all = take_all c.loop-chain.chain-index c.as_slice-chain-items.result.now c.loop-chain-test.false ∙ c.as_slice-chain-items.ensures.value in
    let on : c.loop-chain.faults ≡ either c.args.faults.now (faults_among (faults_on catalog) s.chains) =
    c.loop-chain.invariant.faults ∙ ap (λ (cs : List JoinChain). either c.args.faults.now (faults_among (faults_on catalog) (map plain_chain cs))) all in
    let seen : c.loop-chain.columns.items ≡ seen_columns catalog (tables_of s) = c.loop-chain.invariant.seen ∙ ap (λ (cs : List JoinChain). seen_columns catalog (tables_in cs)) all in
    elim c.match-select.branch [
      | in-Some+in_ok-push_members w ↦
          w.faults-is
          ∙ where_sum catalog s (plain_condition w.in-Some.condition) w.as_slice.result.now c.args.faults.now c.loop-chain.faults w.push_members.new.faults
          (ap (option_map plain_condition) w.in-Some.is) on (w.as_slice.ensures.value ∙ seen) w.in_ok-push_members.ensures.faults
      | in_default w ↦ w.faults-is ∙ no_where_sum catalog s c.args.faults.now c.loop-chain.faults (ap (option_map plain_condition) w.in_default.is) on
    ]

use Rattle.std.proofs.Common.{◌≡◌, ◌∙◌, ◌+◌, ◌++◌, ◌∷◌, List, [], ap, arith, flat_map, length, map, sym, take, take_all}
use Rattle.std.proofs.lemmas.List.{append-nil}
use Rattle.sql_statements.specs.Plain.{plain_join}
use Rattle.sql_statements.specs.declared.statement.Join.{Join}
use Rattle.statement_resolution.proofs.lemmas.judged.FaultSums.{either_none}
use Rattle.statement_resolution.proofs.lemmas.query.Converted.{joined_members}
use Rattle.statement_resolution.proofs.lemmas.query.ReferenceLists.{join_tables}
use Rattle.statement_resolution.proofs.lemmas.query.ScopeFaults.{behind, in_front, join_faults, join_faults_more, seen_first, seen_step}
use Rattle.statement_resolution.specs.Faults.{either}
use Rattle.statement_resolution.specs.query.Places.{scoped_members}
use Rattle.statement_resolution.specs.query.Resolving.{conjunct_parts}
use Rattle.statement_resolution.specs.query.Scopes.{SeenColumn, chain_conditions, seen_columns}
use Rattle.statement_resolution.proofs.query.select_conversion.push_chain.Goals as goal

pub loop-join-init : goal.loop-join-init
loop-join-init c = record {
  seen = seen_first c.args.catalog.now.tables c.args.chain.now.first c.args.columns.now.items c.push_columns.new.columns.items c.in_ok-push_columns.ensures;
  placed = λ before at. sym (append-nil (map conjunct_parts c.args.conjuncts.now.items));
  faults = sym (either_none c.args.faults.now);
}

pub loop-join-preserved : goal.loop-join-preserved
loop-join-preserved c =
    let catalog = c.args.catalog.now.tables in
    let first = c.args.chain.now.first in
    let joins = c.as_slice-join-items.result.now in
    let i = c.loop-join.join-index in
    let old = c.args.columns.now.items in
    let whole = c.push_columns-in-loop-join.new.columns.items in
    let now : List SeenColumn = seen_columns catalog (first ∷ join_tables (take (i + 1) joins)) in
    let seen : whole ≡ old ++ now =
    seen_step catalog first joins i c.join-item.result old c.loop-join.columns.items whole c.loop-join-test.true c.join-item.is c.loop-join.invariant.seen c.in_ok-push_columns-2.ensures in
    let start : c.len-start.result ≡ length old = omega (arith, c.len-start.ensures, c.args.columns.now.ok.0) in
    let front = in_front old c.deref.result.now now c.len-start.result start (c.deref.ensures.value ∙ seen) in
    let slice = behind old c.deref-in-loop-join.result.now now c.len-start.result start (c.deref-in-loop-join.ensures.value ∙ seen) in
    record {
      seen = seen;
      placed = λ before at. joined_members catalog before first joins i c.join-item.result _ _
          (map conjunct_parts c.args.conjuncts.now.items) (map conjunct_parts c.loop-join.conjuncts.items) (map conjunct_parts c.push_members.new.conjuncts.items)
          c.loop-join-test.true c.join-item.is (front ∙ at) slice (c.loop-join.invariant.placed before at) c.in_ok-push_members.ensures.placed;
      faults = join_faults_more catalog c.args.faults.now first joins i c.join-item.result _ c.loop-join.faults c.push_members.new.faults
          c.loop-join-test.true c.join-item.is c.loop-join.invariant.faults slice c.in_ok-push_members.ensures.faults;
    }

pub returns : goal.returns
returns c =
    let catalog = c.args.catalog.now.tables in
    let first = c.args.chain.now.first in
    let all = take_all c.loop-join.join-index c.as_slice-join-items.result.now c.loop-join-test.false ∙ c.as_slice-join-items.ensures in
    record {
      seen = c.loop-join.invariant.seen ∙ ap (λ (js : List Join). c.args.columns.now.items ++ seen_columns catalog (first ∷ join_tables js)) all;
      placed = λ before at. c.loop-join.invariant.placed before at
          ∙ ap (λ (js : List Join). map conjunct_parts c.args.conjuncts.now.items ++ flat_map (scoped_members catalog) (chain_conditions before (first ∷ []) (map plain_join js))) all;
      faults = c.loop-join.invariant.faults ∙ ap (λ (js : List Join). either c.args.faults.now (join_faults catalog first js)) all;
    }

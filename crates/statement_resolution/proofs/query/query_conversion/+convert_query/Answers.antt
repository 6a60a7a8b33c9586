use Rattle.std.proofs.Common.{◌≡◌, ◌<◌, ◌≤◌, ◌+◌, ◌∙◌, List, ap, arith, map, refl, rules, subst, sym}
use Rattle.std.specs.Prelude.{IfOk}
use Rattle.sql_statements.proofs.QueryViews.{combined_view, simple_view}
use Rattle.sql_statements.specs.Plain.{plain_query, plain_step, steps_of}
use Rattle.sql_statements.specs.Trees as written
use Rattle.sql_statements.specs.Trees.{Select}
use Rattle.statement_resolution.proofs.lemmas.judged.FaultSums.{among_end, either_assoc, either_none}
use Rattle.statement_resolution.proofs.lemmas.query.Accepted.{count_first, count_last, count_next, count_one, follows_first, follows_last, follows_next}
use Rattle.catalog_core.proofs.lemmas.query.InPlace.{both_within}
use Rattle.statement_resolution.proofs.lemmas.query.QuerySizes.{first_smaller, size_of, step_smaller}
use Rattle.statement_resolution.proofs.lemmas.query.QueryWalks.{Step, clear_first, clear_step, faults_many, step_faults, step_more}
use Rattle.statement_resolution.specs.Faults.{either, faults_among}
use Rattle.statement_resolution.specs.query.Faults.{query_faults, side_kinds}
use Rattle.statement_resolution.specs.query.Places.{Converts, table_count}
use Rattle.catalog_core.specs.query.Queries as resolved
use Rattle.catalog_core.specs.query.Queries.{Query, references_of}
use Rattle.statement_resolution.specs.query.QueryParts.{first_select, selects_of}
use Rattle.statement_resolution.specs.query.Resolving.{ResolvesTree}
use Rattle.statement_resolution.specs.declared.faults.Faults.{Faults}
use Rattle.statement_resolution.proofs.query.query_conversion.+convert_query.Goals as goal

pub convert_query-requires : goal.convert_query-requires
convert_query-requires t c =
    let query = c.args.query.now in
    let first = c.in-Combined.first in
    let steps = c.in-Combined.steps in
    let count : table_count (selects_of (plain_query c.deref.result.now)) ≡ table_count (selects_of (plain_query first.value)) = ap (λ q. table_count (selects_of (plain_query q))) c.deref.ensures in
    let room : c.args.place.now + table_count (selects_of (plain_query c.deref.result.now)) < 1000 =
    omega (arith, count, count_first query first steps steps.items c.in-Combined.is refl, c.requires) in
    let smaller : size_of (plain_query c.deref.result.now) < size_of (plain_query query) = first_smaller query c.deref.result.now first steps c.in-Combined.is c.deref.ensures in
    (search rules, room)

pub convert_query-requires-in-loop-step : goal.convert_query-requires-in-loop-step
convert_query-requires-in-loop-step t c =
    let items : List Step = c.deref-step-items.result.now in
    let i = c.loop-step.step-index in
    let room : c.loop-step.place + table_count (selects_of (plain_query c.step-item.result.1)) < 1000 =
    omega (arith, count_next items i c.step-item.result c.loop-step-test.true c.step-item.is, c.loop-step.invariant.room, c.requires) in
    let smaller : size_of (plain_query c.step-item.result.1) < size_of (plain_query c.args.query.now) =
    step_smaller c.args.query.now c.in-Combined.first c.in-Combined.steps items i c.step-item.result c.in-Combined.is c.deref-step-items.ensures.value c.loop-step-test.true c.step-item.is in
    (search rules, room)

pub convert_select-requires : goal.convert_select-requires
convert_select-requires t c = omega (arith, count_one c.args.query.now c.in-Select.select c.in-Select.is, c.requires)

pub returns-in-Select : goal.returns-in-Select
returns-in-Select t c =
    let catalog = c.args.catalog.now.tables in
    subst (λ (w : written.Query). IfOk c.convert_select.result (λ side. Converts catalog w c.args.place.now c.convert_select.new.place c.args.faults.now c.convert_select.new.faults side))
    (sym (ap plain_query c.in-Select.is ∙ simple_view c.in-Select.select)) c.convert_select.ensures

pub loop-step-init : goal.loop-step-init
loop-step-init t c =
    let catalog = c.args.catalog.now.tables in
    let query = c.args.query.now in
    let first = c.in-Combined.first in
    let steps = c.in-Combined.steps in
    let items : List Step = c.deref-step-items.result.now in
    let same : items ≡ steps.items = c.deref-step-items.ensures.value in
    let at : plain_query c.deref.result.now ≡ plain_query first.value = ap plain_query c.deref.ensures in
    let begun = c.in_ok-left-in-Combined.ensures in
    let left : Query = resolved.plain_query c.in_ok-left-in-Combined.left.query in
    let count : table_count (selects_of (plain_query c.deref.result.now)) ≡ table_count (selects_of (plain_query first.value)) = ap (λ (w : written.Query). table_count (selects_of w)) at in
    record {
      same = λ clean. follows_first catalog query first steps items left c.in-Combined.is same
          (subst (λ (w : written.Query). ResolvesTree catalog w left) at (begun.same (clear_first catalog query c.deref.result.now first steps c.in-Combined.is c.deref.ensures clean)));
      room = omega (arith, count, count_first query first steps items c.in-Combined.is same, begun.tables);
      placed = begun.placed;
      counted = begun.counted;
      kinds = begun.kinds ∙ ap (λ (w : written.Query). side_kinds catalog (first_select w)) at
          ∙ sym (ap (λ (w : written.Query). side_kinds catalog (first_select w)) (ap plain_query c.in-Combined.is ∙ combined_view first steps));
      faults = sym (either_none c.convert_query.new.faults);
    }

pub loop-step-preserved : goal.loop-step-preserved
loop-step-preserved t c =
    let catalog = c.args.catalog.now.tables in
    let items : List Step = c.deref-step-items.result.now in
    let i = c.loop-step.step-index in
    let s = c.step-item.result in
    let here = c.loop-step-test.true in
    let item = c.step-item.is in
    let so_far = c.loop-step.invariant in
    let found = c.in_ok-right-in-Combined.ensures in
    let joined = c.in_ok-left-in-Combined-2.ensures in
    let left : Query = resolved.plain_query c.loop-step.left.query in
    let right : Query = resolved.plain_query c.in_ok-right-in-Combined.right.query in
    let next : Query = resolved.plain_query c.in_ok-left-in-Combined-2.left.query in
    let end = c.convert_query-in-loop-step.new.place in
    let within : c.loop-step.place ≤ end = omega (arith, found.counted) in
    let last : end ≤ end = omega arith in
    let whole = both_within c.args.place.now c.loop-step.place end end (references_of next) (references_of left) (references_of right) (ap references_of joined.query)
    (so_far.placed, so_far.counted, within) (found.placed, found.counted, last) in
    let first : Select = first_select (plain_query c.args.query.now) in
    record {
      same = λ clean. follows_next catalog (plain_query c.args.query.now) left right next items i s here item (so_far.same clean)
          (found.same (clear_step catalog c.args.query.now c.in-Combined.first c.in-Combined.steps items i s c.in-Combined.is c.deref-step-items.ensures.value here item clean)) joined.query;
      room = omega (arith, count_next items i s here item, so_far.room, found.tables);
      placed = whole.0;
      counted = whole.1;
      kinds = joined.kinds ∙ so_far.kinds;
      faults = step_more catalog first c.convert_query.new.faults items i s c.loop-step.faults c.convert_query-in-loop-step.new.faults c.combine.new.faults c.loop-step.left.kinds.items c.in_ok-right-in-Combined.right.kinds.items
          here item so_far.faults found.faults so_far.kinds found.kinds joined.faults;
    }

pub returns-after-loop-step : goal.returns-after-loop-step
returns-after-loop-step t c =
    let catalog = c.args.catalog.now.tables in
    let query = c.args.query.now in
    let first = c.in-Combined.first in
    let steps = c.in-Combined.steps in
    let items : List Step = c.deref-step-items.result.now in
    let end = c.loop-step-test.false in
    let so_far = c.loop-step.invariant in
    let view : plain_query query ≡ written.combined (plain_query first.value) (steps_of (map plain_step steps.items)) = ap plain_query c.in-Combined.is ∙ combined_view first steps in
    let left : Select = first_select (plain_query first.value) in
    let others : Faults = faults_among (step_faults catalog left) steps.items in
    record {
      same = λ clean. follows_last catalog (plain_query query) (resolved.plain_query c.loop-step.left.query) items c.loop-step.step-index end (so_far.same clean);
      placed = so_far.placed;
      counted = so_far.counted;
      tables = omega (arith, so_far.room, count_last items c.loop-step.step-index end);
      kinds = so_far.kinds;
      faults = so_far.faults
          ∙ ap (either c.convert_query.new.faults)
          (among_end (step_faults catalog (first_select (plain_query query))) items steps.items c.loop-step.step-index end c.deref-step-items.ensures.value
          ∙ ap (λ (w : written.Query). faults_among (step_faults catalog (first_select w)) steps.items) view)
          ∙ ap (λ (f : Faults). either f others) (c.in_ok-left-in-Combined.ensures.faults ∙ ap (λ q. either c.args.faults.now (query_faults catalog (plain_query q))) c.deref.ensures)
          ∙ either_assoc c.args.faults.now (query_faults catalog (plain_query first.value)) others
          ∙ ap (either c.args.faults.now) (sym (faults_many catalog first steps) ∙ sym (ap (λ q. query_faults catalog (plain_query q)) c.in-Combined.is));
    }

use Rattle.std.proofs.Common.{◌∙◌, ap, inl, map, sym}
use Rattle.statement_resolution.proofs.lemmas.change.GivenValues.{all_at}
use Rattle.statement_resolution.proofs.lemmas.change.InsertFaults.{none_applies, shape_least, table_least, value_least}
use Rattle.statement_resolution.proofs.lemmas.change.RowFacts.{empty_change}
use Rattle.catalog_core.proofs.lemmas.table.Named.{table_named}
use Rattle.catalog_core.proofs.lemmas.judged.Sound.{all_false}
use Rattle.statement_resolution.specs.change.Insertion.{lists_unknown, shape_conditions, value_conditions}
use Rattle.statement_resolution.specs.change.Resolution.{ResolvesInsert, row_parts}
use Rattle.catalog_core.specs.table.TableWords.{has_date_period, has_distinct_names}
use Rattle.statement_resolution.proofs.change.resolution.resolve_insert.Goals as goal

pub returns-in_default-clause-refused : goal.returns-in_default-clause-refused
returns-in_default-clause-refused c = inl (table_least c.args.catalog.now.tables c.args.insert.now c.in_default.ensures)

pub returns-in-Some-shape_fault-clause-refused : goal.returns-in-Some-shape_fault-clause-refused
returns-in-Some-shape_fault-clause-refused c =
    let tables = c.args.catalog.now.tables in
    let insert = c.args.insert.now in
    let t = c.in-Some.table.now in
    let there = table_named tables insert.table c.in-Some.number t c.in-Some.ensures.0 c.in-Some.ensures.1 in
    inl (shape_least tables insert t c.in-Some-shape_fault.fault there (sym c.shape_fault.ensures ∙ c.in-Some-shape_fault.is))

pub given_places-requires : goal.given_places-requires
unfolding lists_unknown
given_places-requires c =
    let catalog = c.args.catalog.now in
    let insert = c.args.insert.now in
    let t = c.in-Some.table.now in
    record {
      distinct = all_at has_distinct_names catalog.tables c.in-Some.number t catalog.distinct c.in-Some.ensures.1;
      known = (all_false (shape_conditions t insert) (sym c.shape_fault.ensures ∙ c.in_default-shape_fault.is)).0;
    }

pub value_fault-requires-clause-distinct : goal.value_fault-requires-clause-distinct
value_fault-requires-clause-distinct c =
    let catalog = c.args.catalog.now in
    all_at has_distinct_names catalog.tables c.in-Some.number c.in-Some.table.now catalog.distinct c.in-Some.ensures.1

pub returns-in-Some-value_fault-clause-refused : goal.returns-in-Some-value_fault-clause-refused
returns-in-Some-value_fault-clause-refused c =
    let tables = c.args.catalog.now.tables in
    let insert = c.args.insert.now in
    let t = c.in-Some.table.now in
    let there = table_named tables insert.table c.in-Some.number t c.in-Some.ensures.0 c.in-Some.ensures.1 in
    inl (value_least tables insert t c.in-Some-value_fault.fault there (sym c.shape_fault.ensures ∙ c.in_default-shape_fault.is) (sym c.value_fault.ensures ∙ c.in-Some-value_fault.is))

pub inserted_rows-requires : goal.inserted_rows-requires
inserted_rows-requires c =
    let catalog = c.args.catalog.now in
    let insert = c.args.insert.now in
    let t = c.in-Some.table.now in
    record {
      placed = rw c.as_slice-2.ensures.value c.in_ok-places.ensures;
      distinct = all_at has_distinct_names catalog.tables c.in-Some.number t catalog.distinct c.in-Some.ensures.1;
      dated = all_at has_date_period catalog.tables c.in-Some.number t catalog.dated c.in-Some.ensures.1;
      count = (all_false (shape_conditions t insert) (sym c.shape_fault.ensures ∙ c.in_default-shape_fault.is)).1.1.1.1.0;
      kinds = (all_false (value_conditions t insert) (sym c.value_fault.ensures ∙ c.in_default-value_fault.is)).0;
    }

pub returns : goal.returns
returns c =
    let tables = c.args.catalog.now.tables in
    let insert = c.args.insert.now in
    let t = c.in-Some.table.now in
    let there = table_named tables insert.table c.in-Some.number t c.in-Some.ensures.0 c.in-Some.ensures.1 in
    let resolved : ResolvesInsert tables insert _ =
    record {
      definition = t;
      number = c.in-Some.ensures.0;
      table = c.in-Some.ensures.1;
      action = c.in_ok-rows.ensures ∙ ap (map row_parts) (sym c.from_vec.ensures);
    } in
    record {
      sound = none_applies tables insert t there (sym c.shape_fault.ensures ∙ c.in_default-shape_fault.is) (sym c.value_fault.ensures ∙ c.in_default-value_fault.is);
      resolved = resolved;
      empty = empty_change tables insert _ resolved;
      refused = tt;
    }

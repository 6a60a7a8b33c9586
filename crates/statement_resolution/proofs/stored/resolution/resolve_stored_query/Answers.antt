use Rattle.std.proofs.Common.{◌≡◌, ◌∙◌, List, Some, ap, inl, sym}
use Rattle.sql_statements.specs.Plain.{plain_stored}
use Rattle.catalog_core.proofs.lemmas.table.Named.{table_named}
use Rattle.statement_resolution.proofs.lemmas.judged.Refused.{against, clear_by, least_missing, missing, none_applies, refused_by}
use Rattle.statement_resolution.proofs.lemmas.stored.StoredNumbers.{stored_placed}
use Rattle.statement_resolution.specs.Faults.{either, no_faults, where_faults}
use Rattle.statement_resolution.specs.stored.StoredQueries.{stored_faults}
use Rattle.statement_resolution.specs.TableFaults.{named_faults, test_faults}
use Rattle.statement_resolution.specs.query.Scopes.{SeenColumn, own_columns}
use Rattle.sql_statements.specs.Trees.{Stored}
use Rattle.catalog_core.specs.table.TableWords.{table_of_name}
use Rattle.statement_resolution.specs.declared.faults.Faults.{Faults}
use Rattle.catalog_core.specs.declared.table.TableDef.{TableDef}
use Rattle.statement_resolution.proofs.stored.resolution.resolve_stored_query.Goals as goal

pub returns-in_default-clause-refused : goal.returns-in_default-clause-refused
returns-in_default-clause-refused c =
    let statement = plain_stored c.args.query.now in
    inl (least_missing _ (ap (λ (f : Faults). f.table) (missing (λ t. stored_faults t statement) c.args.catalog.now.tables statement.table c.in_default.ensures)))

-- the faults that are found in the condition are all that the statement has
judged : (tables : List TableDef) (s : Stored) (t : TableDef) (none found : Faults) → table_of_name tables s.table ≡ Some t → none ≡ no_faults → found ≡ either none (stored_faults t s)
    → found ≡ named_faults (λ x. stored_faults x s) tables s.table
judged tables s t none found there clean of_where =
    of_where ∙ ap (λ (f : Faults). either f (stored_faults t s)) clean ∙ sym (against (λ x. stored_faults x s) tables s.table t there)

pub returns-in-Some-first-clause-refused : goal.returns-in-Some-first-clause-refused
returns-in-Some-first-clause-refused c =
    let tables = c.args.catalog.now.tables in
    let s = plain_stored c.args.query.now in
    let t = c.in-Some.table.now in
    let there = table_named tables s.table c.in-Some.number t c.in-Some.ensures.0 c.in-Some.ensures.1 in
    let seen : c.as_slice.result.now ≡ own_columns t = c.as_slice.ensures.value ∙ c.in_ok-columns.ensures in
    let whole = judged tables s t c.none-found.result c.resolve_where.new.found there c.none-found.ensures (c.in_ok-condition.ensures.judged ∙ ap (λ (cs : List SeenColumn). either c.none-found.result (where_faults (test_faults t cs) s.condition)) seen) in
    inl (refused_by c.resolve_where.new.found _ whole c.in-Some-first.fault (sym c.first.ensures ∙ c.in-Some-first.is))

pub returns : goal.returns
returns c =
    let tables = c.args.catalog.now.tables in
    let s = plain_stored c.args.query.now in
    let t = c.in-Some.table.now in
    let there = table_named tables s.table c.in-Some.number t c.in-Some.ensures.0 c.in-Some.ensures.1 in
    let seen : c.as_slice.result.now ≡ own_columns t = c.as_slice.ensures.value ∙ c.in_ok-columns.ensures in
    let whole = judged tables s t c.none-found.result c.resolve_where.new.found there c.none-found.ensures (c.in_ok-condition.ensures.judged ∙ ap (λ (cs : List SeenColumn). either c.none-found.result (where_faults (test_faults t cs) s.condition)) seen) in
    let clean = clear_by c.resolve_where.new.found _ whole (sym c.first.ensures ∙ c.in_default-first.is) in
    record {
      sound = none_applies _ clean;
      resolved =
          record {
            definition = t;
            number = c.in-Some.ensures.0;
            table = c.in-Some.ensures.1;
            window = c.window_of.ensures;
            rows = stored_placed t c.as_slice.result.now s.condition c.in_ok-condition.condition seen (sym (against (λ x. stored_faults x s) tables s.table t there) ∙ clean) c.in_ok-condition.ensures.numbered;
          };
      refused = tt;
    }

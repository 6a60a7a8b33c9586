use Rattle.std.proofs.Common.{List, ◌≡◌, ◌∙◌, ap, inl, sym}
use Rattle.sql_statements.specs.Plain.{plain_delete}
use Rattle.catalog_core.proofs.lemmas.table.Named.{table_named}
use Rattle.statement_resolution.proofs.lemmas.change.PortionFaults.{delete_judged}
use Rattle.statement_resolution.proofs.lemmas.conditions.Numbers.{where_placed}
use Rattle.statement_resolution.proofs.lemmas.judged.FaultSums.{both_clear}
use Rattle.statement_resolution.proofs.lemmas.judged.Refused.{against, clear_by, least_missing, missing, none_applies, refused_by}
use Rattle.statement_resolution.specs.Faults.{either, where_faults}
use Rattle.statement_resolution.specs.TableFaults.{own_compare_faults, portion_faults}
use Rattle.statement_resolution.specs.change.PortionChanges.{delete_faults}
use Rattle.statement_resolution.specs.query.Faults.{compare_faults, matches_among}
use Rattle.statement_resolution.specs.query.Scopes.{SeenColumn, own_columns}
use Rattle.statement_resolution.specs.declared.faults.Faults.{Faults}
use Rattle.statement_resolution.proofs.change.portion_changes.resolve_delete.Goals as goal

pub returns-in_default-clause-refused : goal.returns-in_default-clause-refused
returns-in_default-clause-refused c =
    let statement = plain_delete c.args.delete.now in
    inl (least_missing _ (ap (λ (f : Faults). f.table) (missing (λ t. delete_faults t statement) c.args.catalog.now.tables statement.table c.in_default.ensures)))

pub returns-in-Some-first-clause-refused : goal.returns-in-Some-first-clause-refused
returns-in-Some-first-clause-refused c =
    let tables = c.args.catalog.now.tables in
    let d = plain_delete c.args.delete.now in
    let t = c.in-Some.table.now in
    let there = table_named tables d.table c.in-Some.number t c.in-Some.ensures.0 c.in-Some.ensures.1 in
    let seen : c.as_slice.result.now ≡ own_columns t = c.as_slice.ensures.value ∙ c.in_ok-columns.ensures in
    let of_where = c.in_ok-condition.ensures.judged ∙ ap (λ (cs : List SeenColumn). either c.resolve_portion-portion.new.found (where_faults (compare_faults (matches_among cs)) d.condition)) seen in
    let whole =
    delete_judged tables t d c.none-found.result c.resolve_portion-portion.new.found c.resolve_where.new.found there c.none-found.ensures
    c.resolve_portion-portion.ensures.judged of_where in
    inl (refused_by c.resolve_where.new.found _ whole c.in-Some-first.fault (sym c.first.ensures ∙ c.in-Some-first.is))

pub returns : goal.returns
returns c =
    let tables = c.args.catalog.now.tables in
    let d = plain_delete c.args.delete.now in
    let t = c.in-Some.table.now in
    let there = table_named tables d.table c.in-Some.number t c.in-Some.ensures.0 c.in-Some.ensures.1 in
    let seen : c.as_slice.result.now ≡ own_columns t = c.as_slice.ensures.value ∙ c.in_ok-columns.ensures in
    let of_where = c.in_ok-condition.ensures.judged ∙ ap (λ (cs : List SeenColumn). either c.resolve_portion-portion.new.found (where_faults (compare_faults (matches_among cs)) d.condition)) seen in
    let whole =
    delete_judged tables t d c.none-found.result c.resolve_portion-portion.new.found c.resolve_where.new.found there c.none-found.ensures
    c.resolve_portion-portion.ensures.judged of_where in
    let clean = clear_by c.resolve_where.new.found _ whole (sym c.first.ensures ∙ c.in_default-first.is) in
    let rows =
    both_clear (portion_faults t d.portion) (where_faults (own_compare_faults t) d.condition) (sym (against (λ x. delete_faults x d) tables d.table t there) ∙ clean) in
    record {
      sound = none_applies _ clean;
      resolved =
          record {
            definition = t;
            number = c.in-Some.ensures.0;
            table = c.in-Some.ensures.1;
            action = record {
              days = c.resolve_portion-portion.ensures.days rows.0;
              rows = where_placed t c.as_slice.result.now d.condition c.in_ok-condition.condition seen rows.1 c.in_ok-condition.ensures.numbered;
            };
          };
      refused = tt;
    }

use Rattle.std.proofs.Common.{List, ◌≡◌, ◌∙◌, Some, ap, inl, map, sym}
use Rattle.sql_statements.specs.Plain.{plain_update}
use Rattle.catalog_core.proofs.lemmas.table.Named.{table_named}
use Rattle.statement_resolution.proofs.lemmas.change.PortionFaults.{update_judged}
use Rattle.statement_resolution.proofs.lemmas.conditions.Numbers.{sets_placed, where_placed}
use Rattle.statement_resolution.proofs.lemmas.judged.FaultSums.{both_clear}
use Rattle.statement_resolution.proofs.lemmas.judged.Refused.{against, clear_by, least_missing, missing, none_applies, refused_by}
use Rattle.statement_resolution.specs.Faults.{either, faults_among, where_faults}
use Rattle.statement_resolution.specs.Placing.{placed_assignment}
use Rattle.statement_resolution.specs.TableFaults.{named_faults, own_compare_faults, portion_faults, rows_faults, set_faults, twice_fault}
use Rattle.statement_resolution.specs.change.PortionChanges.{update_faults}
use Rattle.statement_resolution.specs.query.Faults.{compare_faults, matches_among}
use Rattle.statement_resolution.specs.query.Scopes.{SeenColumn, own_columns}
use Rattle.statement_resolution.specs.declared.faults.Faults.{Faults}
use Rattle.statement_resolution.proofs.change.portion_changes.resolve_update.Goals as goal

pub returns-in_default-clause-refused : goal.returns-in_default-clause-refused
returns-in_default-clause-refused c =
    let statement = plain_update c.args.update.now in
    let lacking = missing (λ t. update_faults t statement) c.args.catalog.now.tables statement.table c.in_default.ensures in
    inl (least_missing _ (ap (λ (f : Faults). (either f (twice_fault statement.assignments)).table) lacking))

pub returns-in-Some-first-clause-refused : goal.returns-in-Some-first-clause-refused
returns-in-Some-first-clause-refused c =
    let tables = c.args.catalog.now.tables in
    let u = plain_update c.args.update.now in
    let t = c.in-Some.table.now in
    let there = table_named tables u.table c.in-Some.number t c.in-Some.ensures.0 c.in-Some.ensures.1 in
    let seen : c.as_slice.result.now ≡ own_columns t = c.as_slice.ensures.value ∙ c.in_ok-columns.ensures in
    let of_where = c.in_ok-condition.ensures.judged ∙ ap (λ (cs : List SeenColumn). either c.resolve_portion-portion.new.found (where_faults (compare_faults (matches_among cs)) u.condition)) seen in
    let whole =
    update_judged tables t u c.as_slice-sets.result.now c.none-found.result c.resolve_portion-portion.new.found c.resolve_where.new.found c.resolve_assignments.new.found c.twice_fault.result c.or.result
    there c.as_slice-sets.ensures.value c.none-found.ensures c.resolve_portion-portion.ensures.judged of_where c.in_ok-assignments.ensures.judged c.twice_fault.ensures c.or.ensures in
    inl (refused_by c.or.result _ whole c.in-Some-first.fault (sym c.first.ensures ∙ c.in-Some-first.is))

pub returns : goal.returns
unfolding update_faults
returns c =
    let tables = c.args.catalog.now.tables in
    let u = plain_update c.args.update.now in
    let t = c.in-Some.table.now in
    let there = table_named tables u.table c.in-Some.number t c.in-Some.ensures.0 c.in-Some.ensures.1 in
    let seen : c.as_slice.result.now ≡ own_columns t = c.as_slice.ensures.value ∙ c.in_ok-columns.ensures in
    let of_where = c.in_ok-condition.ensures.judged ∙ ap (λ (cs : List SeenColumn). either c.resolve_portion-portion.new.found (where_faults (compare_faults (matches_among cs)) u.condition)) seen in
    let whole =
    update_judged tables t u c.as_slice-sets.result.now c.none-found.result c.resolve_portion-portion.new.found c.resolve_where.new.found c.resolve_assignments.new.found c.twice_fault.result c.or.result
    there c.as_slice-sets.ensures.value c.none-found.ensures c.resolve_portion-portion.ensures.judged of_where c.in_ok-assignments.ensures.judged c.twice_fault.ensures c.or.ensures in
    let clean = clear_by c.or.result _ whole (sym c.first.ensures ∙ c.in_default-first.is) in
    let own = sym (against (λ x. update_faults x u) tables u.table t there) ∙ (both_clear (named_faults (λ x. update_faults x u) tables u.table) (twice_fault u.assignments) clean).0 in
    let parts = both_clear (rows_faults t u.portion u.condition) (faults_among (set_faults t) u.assignments) own in
    let rows = both_clear (portion_faults t u.portion) (where_faults (own_compare_faults t) u.condition) parts.0 in
    record {
      sound = none_applies _ clean;
      resolved =
          record {
            definition = t;
            number = c.in-Some.ensures.0;
            table = c.in-Some.ensures.1;
            action = record {
              days = c.resolve_portion-portion.ensures.days rows.0;
              sets = sets_placed t u.assignments parts.1
                  ∙ ap (map (λ a. Some a)) (ap (map (placed_assignment t)) (sym c.as_slice-sets.ensures.value) ∙ c.in_ok-assignments.ensures.numbered);
              rows = where_placed t c.as_slice.result.now u.condition c.in_ok-condition.condition seen rows.1 c.in_ok-condition.ensures.numbered;
            };
          };
      refused = tt;
    }

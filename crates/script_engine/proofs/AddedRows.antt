-- The rows that a change adds are of its table: a value for each of its columns.
use Rattle.std.proofs.Common.{◌≡◌, ◌∷◌, ◌∙◌, ℤ, Bool, true, false, List, [], Option, None, Some, ap, inl, inr, map, refl, subst, sym}
use Rattle.std.specs.Prelude.{◌==◌, int_lt, slice_get, if◌then◌else◌}
use Rattle.std.specs.Int.{int_max, int_min}
use Rattle.std.specs.List.{AllByRecursion, list_all, list_any}
use Rattle.std.specs.List.Sorted.{IsPermutation}
use Rattle.std.proofs.lemmas.Bool.{or_parts}
use Rattle.std.proofs.lemmas.Option.{same_Some}
use Rattle.sqlite_trees.proofs.ListLemmas.{all-append, all-filter, all-flat_map, all-map, all-permutation, all_from_map, all_of, all_weaker}
use Rattle.period_core.specs.Leasts.{NoneApplies}
use Rattle.period_core.specs.Windows.{window_sees}
use Rattle.period_core.specs.declared.period.Period.{Period}
use Rattle.period_core.specs.declared.refusal.Refusal.TheVariants.{TextTooLong, TypeMismatch}
use Rattle.period_core.specs.declared.row.PeriodRow.{PeriodRow}
use Rattle.period_core.specs.declared.value.Value.{Value}
use Rattle.period_core.specs.declared.version.VersionRow.{VersionRow}
use Rattle.period_core.specs.declared.window.Window.TheVariants.{Now}
use Rattle.sql_statements.specs.Trees.{Delete, Statement, Update}
use Rattle.sql_statements.specs.Trees as statement
use Rattle.sql_statements.specs.declared.statement.Assignment as written
use Rattle.sql_statements.specs.declared.statement.InsertRows.{InsertRows}
use Rattle.statement_resolution.proofs.lemmas.change.GivenValues.{all_at}
use Rattle.catalog_core.proofs.lemmas.table.Named.{table_named}
use Rattle.statement_resolution.proofs.lemmas.judged.FaultSums.{both_clear}
use Rattle.statement_resolution.proofs.lemmas.judged.Refused.{against, clear_if_none}
use Rattle.statement_resolution.specs.Faults.{faults_among, no_faults}
use Rattle.statement_resolution.specs.TableFaults.{named_faults, rows_faults, set_faults, twice_fault}
use Rattle.catalog_core.specs.RefusalConditions.{Holds}
use Rattle.statement_resolution.specs.Positions.{resolved_assignment}
use Rattle.statement_resolution.specs.change.Insertion.{gives_faulty_value, has_faulty_value}
use Rattle.statement_resolution.specs.change.PortionChanges.{DeletesAs, UpdatesAs, update_faults}
use Rattle.statement_resolution.specs.change.Resolution.{ResolvesAction, ResolvesChange, RowParts, change_conditions, row_parts, written_row}
use Rattle.catalog_core.specs.table.Naming.{Name, passes}
use Rattle.catalog_core.specs.table.TableWords.{has_distinct_names, table_of, table_of_name, value_columns}
use Rattle.catalog_core.specs.declared.change.Action.{Action}
use Rattle.catalog_core.specs.declared.change.Action.TheVariants as action
use Rattle.catalog_core.specs.declared.change.Assignment.{Assignment}
use Rattle.catalog_core.specs.declared.change.Change.{Change}
use Rattle.catalog_core.specs.declared.change.InsertedRow.{InsertedRow}
use Rattle.catalog_core.specs.declared.change.Plan.{Plan}
use Rattle.statement_resolution.specs.declared.change.insert_values.ValueFault.TheVariants as fault
use Rattle.statement_resolution.specs.declared.faults.Faults.{Faults}
use Rattle.catalog_core.specs.declared.table.TableDef.{TableDef}
use Rattle.history_model.specs.Effects.{with_set}
use Rattle.history_model.specs.Portions.{PlainRow, added, leftovers, part, plain_given, plain_row, replacements, touches, within}
use Rattle.history_model.specs.Versions.{current}
use Rattle.portion_dml.specs.Plans.{Plans, version_row}
use Rattle.version_store.specs.Contents.{TableVersion, of_table, version_in}
use Rattle.version_store.specs.GoodStore.{IsGoodVersion}
use Rattle.version_store.specs.RowValues.{are_row_values, is_of_column}
use Rattle.script_engine.proofs.ColumnValues.{fits_row, fits_set, set_each}

-- the row has a value for each of the table's value columns
abbrev pub IsOf : TableDef → PlainRow → Type 0
IsOf d row = are_row_values d row.values ≡ true

holds_not : (b : Bool) → (b ≡ true → ⊥) → b ≡ false
holds_not true never = absurd (never refl)
holds_not false never = refl

-- ---- parts of a row

part_is : (d : TableDef) (values : List Value) (start end : ℤ) → are_row_values d values ≡ true → AllByRecursion (IsOf d) (part values start end)
part_is d values start end is = go (int_lt start end)
  where
    go : (b : Bool) → AllByRecursion (IsOf d) (if b then record { values = values; start = start; end = end } ∷ [] else [])
    go true = (is, tt)
    go false = tt

leftovers_are : (d : TableDef) (portion : Option Period) (row : PlainRow) → IsOf d row → AllByRecursion (IsOf d) (leftovers portion row)
leftovers_are d None row is = tt
leftovers_are d (Some portion) row is =
    all-append (IsOf d) (part row.values row.start (int_min row.end portion.start)) (part row.values (int_max row.start portion.end) row.end)
    (part_is d row.values row.start (int_min row.end portion.start) is) (part_is d row.values (int_max row.start portion.end) row.end is)

within_is : (d : TableDef) (portion : Option Period) (values : List Value) (row : PlainRow) → are_row_values d values ≡ true → AllByRecursion (IsOf d) (within portion values row)
within_is d None values row is = part_is d values row.start row.end is
within_is d (Some portion) values row is = part_is d values (int_max row.start portion.start) (int_min row.end portion.end) is

-- ---- the actions

module _ (d : TableDef) (distinct : has_distinct_names d ≡ true) where
  given_are : (list : Option (List Name)) (rows : List (List Value)) (given : List InsertedRow) → list_any (gives_faulty_value fault.Kind d list) rows ≡ false → list_any (gives_faulty_value fault.Length d list) rows ≡ false →
      map (written_row d list) rows ≡ map row_parts given → AllByRecursion (λ (g : InsertedRow). are_row_values d g.values ≡ true) given
  given_are list [] [] kinds lengths same = tt
  given_are list [] (g ∷ given) kinds lengths same = cc
  given_are list (row ∷ rows) [] kinds lengths same = tt
  given_are list (row ∷ rows) (g ∷ given) kinds lengths same =
      let first : written_row d list row ≡ row_parts g = cc in
      let later : map (written_row d list) rows ≡ map row_parts given = cc in
      let kind = or_parts (gives_faulty_value fault.Kind d list row) (list_any (gives_faulty_value fault.Kind d list) rows) kinds in
      let long = or_parts (gives_faulty_value fault.Length d list row) (list_any (gives_faulty_value fault.Length d list) rows) lengths in
      (fits_row d distinct list row g.values kind.0 long.0 (ap (λ (p : RowParts). p.values) first), given_are list rows given kind.1 long.1 later)

  insert_adds : (i : InsertRows) (a : Action) → has_faulty_value fault.Kind d i ≡ false → has_faulty_value fault.Length d i ≡ false → ResolvesAction d i a → (touched : List PlainRow) → AllByRecursion (IsOf d) (added a touched)
  unfolding has_faulty_value
  insert_adds i (action.Insert given) kinds lengths same touched =
      all-append (IsOf d) (map plain_given given) _ (all-map (IsOf d) plain_given given (given_are i.columns i.rows given kinds lengths same))
      (all-flat_map (IsOf d) (replacements (action.Insert given)) touched (all_of (λ (r : PlainRow). AllByRecursion (IsOf d) (replacements (action.Insert given) r)) (λ r. tt) touched))
  insert_adds i (action.Update portion assignments condition) kinds lengths same touched = absurd same
  insert_adds i (action.Delete portion condition) kinds lengths same touched = absurd same

  abbrev Fits : Assignment → Type 0
  Fits a = (c : _) → slice_get (value_columns d) a.position ≡ Some c → is_of_column c.1.kind a.value ≡ true

  sets_are : (ws : List written.Assignment) (assignments : List Assignment) → map (resolved_assignment d) ws ≡ map (λ (a : Assignment). Some a) assignments → faults_among (set_faults d) ws ≡ no_faults →
      AllByRecursion Fits assignments
  sets_are [] [] same clean = tt
  sets_are [] (a ∷ assignments) same clean = cc
  sets_are (w ∷ ws) [] same clean = tt
  sets_are (w ∷ ws) (a ∷ assignments) same clean =
      let first : resolved_assignment d w ≡ Some a = cc in
      let later : map (resolved_assignment d) ws ≡ map (λ (b : Assignment). Some b) assignments = cc in
      let parts = both_clear (set_faults d w) (faults_among (set_faults d) ws) clean in
      (fits_set d distinct w a first parts.0, sets_are ws assignments later parts.1)

  update_adds : (u : Update) (a : Action) → update_faults d u ≡ no_faults → UpdatesAs d u a → (touched : List PlainRow) → AllByRecursion (IsOf d) touched → AllByRecursion (IsOf d) (added a touched)
  unfolding update_faults
  update_adds u (action.Insert given) clean same touched are = absurd same
  update_adds u (action.Update portion assignments condition) clean same touched are =
      let fits = sets_are u.assignments assignments same.sets (both_clear (rows_faults d u.portion u.condition) (faults_among (set_faults d) u.assignments) clean).1 in
      all-flat_map (IsOf d) (replacements (action.Update portion assignments condition)) touched
      (all_weaker (IsOf d) (λ (r : PlainRow). AllByRecursion (IsOf d) (replacements (action.Update portion assignments condition) r))
      (λ r is. all-append (IsOf d) (leftovers portion r) (within portion (with_set assignments r.values) r) (leftovers_are d portion r is)
      (within_is d portion (with_set assignments r.values) r (set_each (value_columns d) assignments r.values fits is))) touched are)
  update_adds u (action.Delete portion condition) clean same touched are = absurd same

  delete_adds : (s : Delete) (a : Action) → DeletesAs d s a → (touched : List PlainRow) → AllByRecursion (IsOf d) touched → AllByRecursion (IsOf d) (added a touched)
  delete_adds s (action.Insert given) same touched are = absurd same
  delete_adds s (action.Update portion assignments condition) same touched are = absurd same
  delete_adds s (action.Delete portion condition) same touched are =
      all-flat_map (IsOf d) (replacements (action.Delete portion condition)) touched
      (all_weaker (IsOf d) (λ (r : PlainRow). AllByRecursion (IsOf d) (replacements (action.Delete portion condition) r)) (λ r is. leftovers_are d portion r is) touched are)

-- ---- the changes

-- a test that no table of the name passes
at_table : (tables : List TableDef) (name : Name) (d : TableDef) (test : TableDef → Bool) → table_of_name tables name ≡ Some d → (passes test (table_of_name tables name) ≡ true → ⊥) → test d ≡ false
at_table tables name d test there never = holds_not (test d) (λ is. never (ap (passes test) there ∙ is))

module _ (tables : List TableDef) (distinct : list_all has_distinct_names tables ≡ true) (change : Change) where
  its_names : (d : TableDef) → table_of tables change.table ≡ Some d → has_distinct_names d ≡ true
  its_names d there = all_at has_distinct_names tables change.table d distinct there

  -- the rows that a change adds in the place of rows of its table
  adds : (s : Statement) → NoneApplies (Holds (change_conditions tables s)) → ResolvesChange tables s change → (d : TableDef) → table_of tables change.table ≡ Some d → (touched : List PlainRow) → AllByRecursion (IsOf d) touched →
      AllByRecursion (IsOf d) (added change.action touched)
  adds (statement.insert i) sound resolved d there touched are =
      let same : resolved.definition ≡ d = same_Some resolved.definition d (sym resolved.table ∙ there) in
      let named = table_named tables i.table change.table resolved.definition resolved.number resolved.table in
      let all = insert_adds resolved.definition (its_names resolved.definition resolved.table) i change.action
      (at_table tables i.table resolved.definition (λ t. has_faulty_value fault.Kind t i) named (λ is. sound TypeMismatch (inr (inr (inr (inr (inr (inr (inl (refl, is))))))))))
      (at_table tables i.table resolved.definition (λ t. has_faulty_value fault.Length t i) named (λ is. sound TextTooLong (inr (inr (inr (inr (inr (inr (inr (inl (refl, is)))))))))))
      resolved.action touched in
      subst (λ (t : TableDef). AllByRecursion (IsOf t) (added change.action touched)) same all
  adds (statement.update u) sound resolved d there touched are =
      let same : resolved.definition ≡ d = same_Some resolved.definition d (sym resolved.table ∙ there) in
      let named = table_named tables u.table change.table resolved.definition resolved.number resolved.table in
      let faults : TableDef → Faults = λ t. update_faults t u in
      let clean = (both_clear (named_faults faults tables u.table) (twice_fault u.assignments) (clear_if_none _ sound)).0 in
      let all = update_adds resolved.definition (its_names resolved.definition resolved.table) u change.action
      (sym (against faults tables u.table resolved.definition named) ∙ clean)
      resolved.action touched (subst (λ (t : TableDef). AllByRecursion (IsOf t) touched) (sym same) are) in
      subst (λ (t : TableDef). AllByRecursion (IsOf t) (added change.action touched)) same all
  adds (statement.delete s) sound resolved d there touched are =
      let same : resolved.definition ≡ d = same_Some resolved.definition d (sym resolved.table ∙ there) in
      let all = delete_adds resolved.definition (its_names resolved.definition resolved.table) s change.action resolved.action touched (subst (λ (t : TableDef). AllByRecursion (IsOf t) touched) (sym same) are) in
      subst (λ (t : TableDef). AllByRecursion (IsOf t) (added change.action touched)) same all
  adds _ sound resolved d there touched are = absurd resolved

  -- the rows of a plan over current versions of a good store
  pub added_are : (s : Statement) → NoneApplies (Holds (change_conditions tables s)) → ResolvesChange tables s change → (d : TableDef) → table_of tables change.table ≡ Some d →
      (clock : ℤ) (versions : List TableVersion) (rows listed : List VersionRow) (plan : Plan) → AllByRecursion (IsGoodVersion tables clock) versions → IsPermutation (of_table change.table versions) (map (version_in change.table) rows) →
      IsPermutation (current rows) listed → Plans change.action listed plan → AllByRecursion (λ (r : PeriodRow). are_row_values d r.values ≡ true) plan.added
  added_are s sound resolved d there clock versions rows listed plan good all are plans =
      let IsGood : VersionRow → Type 0 = λ row. IsGoodVersion tables clock (version_in change.table row) in
      let its : AllByRecursion IsGood rows =
      all_from_map (IsGoodVersion tables clock) (version_in change.table) rows
      (all-permutation (IsGoodVersion tables clock) (of_table change.table versions) (map (version_in change.table) rows) all (all-filter (IsGoodVersion tables clock) (λ (v : TableVersion). v.table == change.table) versions good)) in
      let current_are : AllByRecursion IsGood listed =
      all-permutation IsGood (current rows) listed are (all-filter IsGood (λ (v : VersionRow). window_sees Now v.from v.to) rows its) in
      let ended : AllByRecursion IsGood plan.ended =
      subst (AllByRecursion IsGood) (sym plans.ended) (all-filter IsGood (λ (v : VersionRow). touches change.action (version_row v)) listed current_are) in
      let touched : AllByRecursion (IsOf d) (map version_row plan.ended) =
      all-map (IsOf d) version_row plan.ended
      (all_weaker IsGood (λ (row : VersionRow). IsOf d (version_row row))
      (λ row is. subst (λ (t : TableDef). are_row_values t row.values ≡ true) (same_Some is.definition d (sym is.table ∙ there)) is.values) plan.ended ended) in
      all_from_map (IsOf d) plain_row plan.added (subst (AllByRecursion (IsOf d)) (sym plans.added) (adds s sound resolved d there (map version_row plan.ended) touched))

-- The plan of a lawful change can be made of a store's contents: its rows are short, and no two versions have one key afterwards.
use Rattle.std.proofs.Common.{◌≡◌, ◌==◌, ◌++◌, ◌∷◌, ◌∙◌, ℕ, ℤ, zero, suc, true, List, [], Some, ap, arith, length, length-append, map, subst, sym, take}
use Rattle.std.specs.List.{AllByRecursion, filter, flat_map, list_all}
use Rattle.std.specs.List.Sorted.{IsPermutation}
use Rattle.std.proofs.lemmas.List.{length-map}
use Rattle.std.proofs.lemmas.List.Sorted.{IsPermutation-map, IsPermutation-sym, IsPermutation-trans, length_permutation}
use Rattle.std.proofs.lemmas.Option.{none-some}
use Rattle.sqlite_trees.proofs.ListLemmas.{IsPermutation-filter, IsPermutation-flat_map, all-filter, all-permutation, all_from_map, all_weaker, filter-map, map-map}
use Rattle.period_core.specs.Encoding.{encoded}
use Rattle.period_core.specs.Leasts.{NoneApplies}
use Rattle.period_core.specs.declared.row.PeriodRow.{PeriodRow}
use Rattle.period_core.specs.declared.version.VersionRow.{VersionRow}
use Rattle.sqlite.specs.Store.{Ghosts}
use Rattle.sql_statements.specs.Trees.{Statement}
use Rattle.catalog_core.specs.RefusalConditions.{Holds}
use Rattle.statement_resolution.specs.change.Resolution.{ResolvesChange, change_conditions}
use Rattle.catalog_core.specs.create.Lawful.{IsLawful}
use Rattle.catalog_core.specs.table.TableWords.{has_distinct_names, table_of}
use Rattle.catalog_core.specs.declared.change.Change.{Change}
use Rattle.catalog_core.specs.declared.change.Plan.{Plan}
use Rattle.catalog_core.specs.declared.table.TableDef.{TableDef}
use Rattle.history_model.specs.Histories.{History, catalog_of, last_state}
use Rattle.history_model.specs.HistoryVersions.{is_touched, its_row, touched_rows, versions_of}
use Rattle.history_model.specs.Portions.{PlainRow, added, plain_given, plain_row, replacements}
use Rattle.history_model.specs.Effects.{inserted_by}
use Rattle.history_model.specs.Versions.{PlainVersion, plain_version}
use Rattle.period_keys.specs.Lawful.{IsLawfulChange}
use Rattle.period_keys.specs.Planned.{IsPlanOf}
use Rattle.portion_dml.specs.Plans.{version_row}
use Rattle.version_tables.specs.Healthy.{IsShort}
use Rattle.version_store.specs.Changed.{CanMake}
use Rattle.version_store.specs.Contents.{Contents, TableVersion, of_table, version_in}
use Rattle.version_store.specs.DistinctKeys.{HaveDistinctKeys}
use Rattle.version_store.specs.GoodStore.{AreLawful, IsGoodVersion}
use Rattle.version_store.specs.RowValues.{are_row_values}
use Rattle.script_engine.specs.engine.EngineState.{EngineState}
use Rattle.script_engine.specs.engine.Healthy.{added_count}
use Rattle.script_engine.specs.engine.InMemory.{rows_in}
use Rattle.script_engine.specs.engine.Stored.{EngineRepresents}
use Rattle.script_engine.proofs.AddedRows.{added_are}
use Rattle.script_engine.proofs.Changed.{resolved_table}
use Rattle.script_engine.proofs.Contents.{IsOver, over_history, stay_in, taken}
use Rattle.script_engine.proofs.LastState.{each_lawful}
use Rattle.script_engine.proofs.PlanFacts.{hits_end, is_hit}
use Rattle.script_engine.proofs.PlannedKeys.{planned_distinct}
use Rattle.script_engine.proofs.ShortRows.{short_row}
use Rattle.script_engine.proofs.Steps.{tables_of}

-- each table of lawful ones is lawful over some of them
lawful_at : (tables : List TableDef) (number : ℕ) (d : TableDef) → AreLawful [] tables → table_of tables number ≡ Some d → (before : List TableDef) × IsLawful before d
lawful_at tables zero d lawful there = absurd (none-some d there)
lawful_at tables (suc place) d lawful there = (take place tables, each_lawful [] tables place d lawful there)

-- a property of each element of two lists together holds of each of the first
all_front : {A : Type 0} (P : A → Type 0) (xs ys : List A) → AllByRecursion P (xs ++ ys) → AllByRecursion P xs
all_front P [] ys all = tt
all_front P (x ∷ xs) ys all = (all.0, all_front P xs ys all.1)

-- the rows of a lawful table are short
short_values : (tables : List TableDef) (number : ℕ) (d : TableDef) → AreLawful [] tables → table_of tables number ≡ Some d → (row : PeriodRow) → are_row_values d row.values ≡ true → IsShort (encoded row.values)
short_values tables number d lawful there row are = let (before, is) = lawful_at tables number d lawful there in short_row before d row.values is are

short_version : (tables : List TableDef) (clock : ℤ) → AreLawful [] tables → (v : TableVersion) → IsGoodVersion tables clock v → IsShort (encoded v.values)
short_version tables clock lawful v is = let (before, defined) = lawful_at tables v.table is.definition lawful is.table in short_row before is.definition v.values defined is.values

module _ {S : Type 0} (g : Ghosts S) (history : History) (old : EngineState S) (s : Statement) (kept : EngineRepresents g history old) (change : Change) (plan : Plan)
    (of : IsPlanOf change.action (rows_in old.tables change.table) plan) where
  over : IsOver (kept.said.versions change.table).rows change.action plan
  over = over_history history kept.contents change.table change.action (rows_in old.tables change.table) plan (kept.said.versions change.table) (kept.current.rows change.table) of

  -- the plan adds as many rows as the change does in the history
  pub counted_added : length plan.added ≡ added_count change.action (versions_of history change.table)
  counted_added =
      let holds = kept.said.versions change.table in
      let rows : List VersionRow = holds.rows in
      let versions : List PlainVersion = versions_of history change.table in
      let hit : List VersionRow = filter (is_hit change.action) rows in
      let ours : List PlainRow = map version_row plan.ended in
      let its : List PlainRow = touched_rows change.action versions in
      let found : IsPermutation (map plain_version hit) (filter (is_touched change.action) versions) =
      subst (λ (l : List PlainVersion). IsPermutation l (filter (is_touched change.action) versions)) (filter-map (is_touched change.action) plain_version rows)
      (IsPermutation-filter (is_touched change.action) (map plain_version rows) versions holds.left) in
      let touched : IsPermutation (map version_row hit) its =
      subst (λ (l : List PlainRow). IsPermutation l its) (map-map its_row plain_version hit) (IsPermutation-map its_row (map plain_version hit) (filter (is_touched change.action) versions) found) in
      let same : IsPermutation ours its =
      IsPermutation-trans ours (map version_row hit) its
      (IsPermutation-map version_row plan.ended hit (IsPermutation-sym hit plan.ended (hits_end change.action rows over.listed plan over.are_current over.plans))) touched in
      let replaced = length_permutation (flat_map (replacements change.action) ours) (flat_map (replacements change.action) its) (IsPermutation-flat_map (replacements change.action) ours its same) in
      let given : List PlainRow = map plain_given (inserted_by change.action) in
      let whole : length plan.added ≡ length (added change.action ours) = sym (length-map plan.added plain_row) ∙ ap length over.plans.added in
      omega (arith, whole, length-append given (flat_map (replacements change.action) ours), length-append given (flat_map (replacements change.action) its), replaced)

  -- the rows that the plan ends are short
  ended_short : AllByRecursion (λ (row : VersionRow). IsShort (encoded row.values)) plan.ended
  ended_short =
      let c : Contents = kept.contents in
      let holds = kept.said.versions change.table in
      let Short : VersionRow → Type 0 = λ row. IsShort (encoded row.values) in
      let ShortVersion : TableVersion → Type 0 = λ v. IsShort (encoded v.values) in
      let good = kept.said.good in
      let all = all_weaker (IsGoodVersion c.tables c.clock) ShortVersion (short_version c.tables c.clock good.lawful) c.versions good.versions in
      let its = all-permutation ShortVersion (of_table change.table c.versions) (map (version_in change.table) holds.rows) holds.all (all-filter ShortVersion (λ (v : TableVersion). v.table == change.table) c.versions all) in
      all_front Short plan.ended (stay_in change.action holds.rows)
      (all-permutation Short holds.rows (plan.ended ++ stay_in change.action holds.rows) (taken c.clock change.action plan holds.rows over)
      (all_from_map ShortVersion (version_in change.table) holds.rows its))

  module _ (sound : NoneApplies (Holds (change_conditions old.catalog.tables s))) (resolved : ResolvesChange old.catalog.tables s change) where
    -- the rows that the plan adds are short too
    added_short : AllByRecursion (λ (row : PeriodRow). IsShort (encoded row.values)) plan.added
    added_short =
        let c : Contents = kept.contents in
        let same : old.catalog.tables ≡ c.tables = kept.stored.catalog in
        let ours : ResolvesChange c.tables s change = subst (λ (tables : List TableDef). ResolvesChange tables s change) same resolved in
        let (d, there) = resolved_table c.tables s change ours in
        let holds = kept.said.versions change.table in
        let fits =
        added_are c.tables (subst (λ (tables : List TableDef). list_all has_distinct_names tables ≡ true) same old.catalog.distinct) change
        s (subst (λ (tables : List TableDef). NoneApplies (Holds (change_conditions tables s))) same sound) ours d there
        c.clock c.versions holds.rows over.listed plan kept.said.good.versions holds.all over.are_current over.plans in
        all_weaker (λ (row : PeriodRow). are_row_values d row.values ≡ true) (λ (row : PeriodRow). IsShort (encoded row.values))
        (short_values c.tables change.table d kept.said.good.lawful there) plan.added fits

    -- the plan can be made of the contents
    pub can_make : HaveDistinctKeys kept.contents.versions → IsLawfulChange old.catalog.tables (last_state history) change → CanMake change.table old.clock plan.ended plan.added kept.contents
    can_make apart allowed =
        let tables : old.catalog.tables ≡ catalog_of history = tables_of g history old kept in
        let (d, there) = resolved_table old.catalog.tables s change resolved in
        subst (λ (m : ℤ). CanMake change.table m plan.ended plan.added kept.contents) (sym kept.stored.clock) (record {
          ended_short = ended_short;
          added_short = added_short;
          distinct =
              planned_distinct history kept.contents change plan kept.said over apart d (subst (λ (l : List TableDef). table_of l change.table ≡ Some d) tables there)
              (subst (λ (l : List TableDef). IsLawfulChange l (last_state history) change) tables allowed);
        })

-- A change that is run is a step of the histories that the engine represents.
use Rattle.std.proofs.Common.{◌≡◌, ◌∷◌, ◌++◌, ◌⊎◌, ℤ, true, false, List, [], Ok, Err, Some, map, refl, sym, ap, subst, inr}
use Rattle.std.specs.List.{All, AllByRecursion, flat_map, list_all}
use Rattle.std.specs.List.Sorted.{IsPermutation}
use Rattle.sqlite_trees.proofs.ListLemmas.{all_from_map}
use Rattle.period_core.specs.Encoding.{IsColumnValue}
use Rattle.period_core.specs.Moments.{forever}
use Rattle.period_core.specs.Leasts.{MayAnswer, NoneApplies}
use Rattle.period_core.specs.declared.refusal.Refusal.{Refusal}
use Rattle.period_core.specs.declared.refusal.Refusal.TheVariants.{EmptyPeriod}
use Rattle.period_core.specs.declared.version.VersionRow.{VersionRow}
use Rattle.sqlite.specs.Store.{Ghosts}
use Rattle.sql_statements.specs.Trees.{Statement}
use Rattle.sql_statements.specs.Trees as statement
use Rattle.catalog_core.specs.RefusalConditions.{Holds}
use Rattle.statement_resolution.specs.change.Resolution.{IsChange, ResolvesChange, change_conditions}
use Rattle.catalog_core.specs.change.EmptyRows.{has_empty_row}
use Rattle.catalog_core.specs.table.TableWords.{has_distinct_names, table_of}
use Rattle.catalog_core.specs.declared.change.Change.{Change}
use Rattle.catalog_core.specs.declared.change.Plan.{Plan}
use Rattle.catalog_core.specs.declared.table.TableDef.{TableDef}
use Rattle.version_store.specs.Changed.{remains_of, planned}
use Rattle.version_store.specs.Contents.{Contents, HaveColumnValues, TableVersion, added_in}
use Rattle.version_store.specs.DistinctKeys.{HaveDistinctKeys}
use Rattle.version_store.specs.GoodStore.{IsGoodVersion}
use Rattle.version_store.specs.StoreState.{IsStoreRefusal, StoreRepresents}
use Rattle.version_store.proofs.Spared.{other_tables}
use Rattle.history_model.specs.Histories.{Changed, History, catalog_of, clock_of, last_state, with_event}
use Rattle.period_keys.specs.Current.{HoldCurrent}
use Rattle.period_keys.specs.Lawful.{IsLawfulChange, IsLawfulState}
use Rattle.period_keys.specs.Planned.{IsPlanOf}
use Rattle.period_keys.specs.Rows.{RowsByKey}
use Rattle.period_keys.specs.Versions.{begun}
use Rattle.ended_versions.specs.Packed.{PackedVersion, closed_at}
use Rattle.script_engine.specs.engine.Ended.{HaveClosed, HaveEnded, ended_in}
use Rattle.script_engine.proofs.EndedAfter.{ended-changed, ended_planned}
use Rattle.script_engine.specs.engine.EngineState.{EngineState, store_of}
use Rattle.script_engine.specs.engine.Faults.{IsFault}
use Rattle.script_engine.specs.engine.InMemory.{HaveCurrentRows, HaveRows, rows_in}
use Rattle.script_engine.specs.engine.Planned.{planned_count, word_of}
use Rattle.script_engine.specs.engine.Runs.{Accepts, AppliesOver, Changes, IsUnlawful, MayRefuse, MayRefuseStatement, StatementApplies, StepsTo}
use Rattle.script_engine.specs.engine.Stored.{EngineRepresents, HasContents}
use Rattle.statement_reports.specs.declared.outcome.Outcome.{Outcome}
use Rattle.statement_reports.specs.declared.outcome.Outcome.TheVariants.{Done}
use Rattle.script_engine.proofs.Contents.{IsOver, count_said, is_left, over_history, said-changed}
use Rattle.script_engine.proofs.CurrentAfter.{current_planned, parted_current, staying}
use Rattle.script_engine.proofs.Ended.{good_planned}
use Rattle.script_engine.proofs.InMemory.{current-changed}
use Rattle.script_engine.proofs.LastState.{hold_now, state_said}
use Rattle.script_engine.proofs.AddedRows.{added_are}
use Rattle.script_engine.proofs.ChangeRefusals.{gives_empty, none_without_empty, unplanned, unresolved}
use Rattle.script_engine.proofs.Refused.{days-planned}
use Rattle.script_engine.proofs.Steps.{failed_step, refused_step, tables_of}

-- ---- the forms of changes

-- the history that follows a change, in one way for each form of change
accepts_change : (history new : History) (s : Statement) (outcome : Outcome) → IsChange s → Changes history s outcome new → Accepts history s outcome new
accepts_change history new (statement.insert i) outcome is changes = changes
accepts_change history new (statement.update u) outcome is changes = changes
accepts_change history new (statement.delete d) outcome is changes = changes
accepts_change history new _ outcome is changes = absurd is

-- the table of a change exists
pub resolved_table : (tables : List TableDef) (s : Statement) (change : Change) → ResolvesChange tables s change → (d : TableDef) × (table_of tables change.table ≡ Some d)
resolved_table tables (statement.insert i) change resolved = (resolved.definition, resolved.table)
resolved_table tables (statement.update u) change resolved = (resolved.definition, resolved.table)
resolved_table tables (statement.delete d) change resolved = (resolved.definition, resolved.table)
resolved_table tables _ change resolved = absurd resolved

-- a fact of each element of two lists together, of the second
all_of_second : {A : Type 0} (P : A → Type 0) (xs ys : List A) → AllByRecursion P (xs ++ ys) → AllByRecursion P ys
all_of_second P [] ys all = all
all_of_second P (x ∷ xs) ys all = all_of_second P xs ys all.1

-- ---- steps

module _ {S : Type 0} (g : Ghosts S) (history : History) (old : EngineState S) (s : Statement) (is : IsChange s) (kept : EngineRepresents g history old) where
  -- the tables in memory are the history's
  of_history : (P : (Refusal → Type 0) → Type 0) → P (AppliesOver old.catalog.tables (clock_of history) s) → P (StatementApplies history s)
  of_history P p = subst (λ (tables : List TableDef). P (AppliesOver tables (clock_of history) s)) (tables_of g history old kept) p

  pub unresolved_step : (refusal : Refusal) → MayAnswer (Holds (change_conditions old.catalog.tables s)) refusal → StepsTo g history s (Err refusal) old
  unresolved_step refusal may =
      refused_step g history old s refusal kept (of_history (λ A. MayRefuse A refusal) (unresolved old.catalog.tables (clock_of history) s is refusal may))

  -- a form of change may be refused with its fault too
  by_fault : (refusal : Refusal) → IsUnlawful history s refusal → MayRefuseStatement history s refusal
  by_fault refusal unlawful = go s is unlawful
    where
      go : (s : Statement) → IsChange s → IsUnlawful history s refusal → MayRefuseStatement history s refusal
      go (statement.insert i) is unlawful = inr unlawful
      go (statement.update u) is unlawful = inr unlawful
      go (statement.delete d) is unlawful = inr unlawful
      go _ is unlawful = absurd is

  -- the rows in memory hold the last state, which is lawful
  pub lawful_before : IsLawfulState old.catalog.tables (last_state history)
  lawful_before = subst (λ (tables : List TableDef). IsLawfulState tables (last_state history)) (sym (tables_of g history old kept)) kept.said.lawful

  pub hold_before : HoldCurrent old.catalog.tables (last_state history) old.tables
  hold_before =
      subst (λ (tables : List TableDef). HoldCurrent tables (last_state history) old.tables) (sym kept.stored.catalog)
      (hold_now kept.contents old.tables kept.current (last_state history) (λ table day. state_said history kept.contents table day (is_left history kept.contents kept.said)))

  module _ (change : Change) (sound : NoneApplies (Holds (change_conditions old.catalog.tables s))) (empty : gives_empty old.catalog.tables s ≡ has_empty_row change.action) where
    -- there is no plan, if a given row has no day or memory fails
    pub unplanned_step : (refusal : Refusal) →
        ((refusal ≡ EmptyPeriod) × (has_empty_row change.action ≡ true)) ⊎ IsStoreRefusal refusal → StepsTo g history s (Err refusal) old
    unplanned_step refusal why =
        refused_step g history old s refusal kept (of_history (λ A. MayRefuse A refusal) (unplanned old.catalog.tables (clock_of history) s is change.action sound empty refusal why))

    -- if no given row is empty, no condition of 1 to 41 holds
    pub none_applies : (has_empty_row change.action ≡ true → ⊥) → NoneApplies (StatementApplies history s)
    none_applies days = of_history NoneApplies (none_without_empty old.catalog.tables (clock_of history) s is change.action sound empty days)

    -- a change that is not lawful is refused by its fault in the history
    pub unlawful_in : (refusal : Refusal) → ResolvesChange old.catalog.tables s change → (has_empty_row change.action ≡ true → ⊥) → IsFault old.catalog.tables (last_state history) change refusal → IsUnlawful history s refusal
    unlawful_in refusal resolved days fault =
        let same = tables_of g history old kept in record {
          sound = none_applies days;
          change = change;
          resolved = subst (λ (tables : List TableDef). ResolvesChange tables s change) same resolved;
          fault = subst (λ (tables : List TableDef). IsFault tables (last_state history) change refusal) same fault;
        }

    pub unlawful_step : (refusal : Refusal) → ResolvesChange old.catalog.tables s change → (has_empty_row change.action ≡ true → ⊥) → IsFault old.catalog.tables (last_state history) change refusal → StepsTo g history s (Err refusal) old
    unlawful_step refusal resolved days fault = (history, (by_fault refusal (unlawful_in refusal resolved days fault), refl), kept)

    module _ (plan : Plan) (of : IsPlanOf change.action (rows_in old.tables change.table) plan) where
      over : IsOver (kept.said.versions change.table).rows change.action plan
      over = over_history history kept.contents change.table change.action (rows_in old.tables change.table) plan (kept.said.versions change.table) (kept.current.rows change.table) of

      none_holds : NoneApplies (StatementApplies history s)
      none_holds = none_applies (λ found. let off : has_empty_row change.action ≡ false = days-planned change.action of.listed plan of.plans in absurd cc)

      abbrev after : Contents
      after = planned change.table kept.contents.clock plan.ended plan.added kept.contents

      abbrev rest : List VersionRow
      rest = staying history kept.contents change plan kept.said over

      -- the rows in memory after the change
      current_after : (tables : List RowsByKey) → HaveDistinctKeys kept.contents.versions →
          ((stay : List VersionRow) → IsPermutation (rows_in old.tables change.table) (plan.ended ++ stay) → HaveRows change.table (map (begun old.clock) plan.added ++ stay) old.tables tables) →
          HaveCurrentRows after tables
      current_after tables apart made =
          let split = parted_current history kept.contents change plan kept.said over (rows_in old.tables change.table) (kept.current.rows change.table) in
          current-changed kept.contents after change.table (map (begun kept.contents.clock) plan.added ++ rest) old.tables tables
          (subst (λ (m : ℤ). HaveRows change.table (map (begun m) plan.added ++ rest) old.tables tables) kept.stored.clock (made rest split))
          kept.current refl
          (current_planned history kept.contents change plan kept.said over apart)
          (λ other off. other_tables change.table other kept.contents.clock plan.ended plan.added kept.contents off)

      -- the versions that have ended after the change are the store's
      ended_after : (lists : List (List PackedVersion)) → HaveDistinctKeys kept.contents.versions → HaveClosed change.table (closed_at old.clock plan.ended) old.ended lists → HaveEnded after lists
      ended_after lists apart closed =
          let c = kept.contents in
          let made : HaveClosed change.table (closed_at c.clock plan.ended) old.ended lists = subst (λ (m : ℤ). HaveClosed change.table (closed_at m plan.ended) old.ended lists) kept.stored.clock closed in
          ended-changed c after change.table (closed_at c.clock plan.ended) old.ended lists made kept.ended
          (ended_planned history c change plan kept.said over (ended_in old.ended change.table) apart (kept.ended change.table) made.held)
          (λ other off. other_tables change.table other c.clock plan.ended plan.added c off)

      -- the versions after the change are good
      good_after : ResolvesChange old.catalog.tables s change → HaveColumnValues after.versions → AllByRecursion (IsGoodVersion kept.contents.tables kept.contents.clock) after.versions
      good_after resolved held =
          let c = kept.contents in
          let same : old.catalog.tables ≡ c.tables = kept.stored.catalog in
          let ours : ResolvesChange c.tables s change = subst (λ (tables : List TableDef). ResolvesChange tables s change) same resolved in
          let (d, there) = resolved_table c.tables s change ours in
          let holds = kept.said.versions change.table in
          let fits =
          added_are c.tables (subst (λ (tables : List TableDef). list_all has_distinct_names tables ≡ true) same old.catalog.distinct) change
          s (subst (λ (tables : List TableDef). NoneApplies (Holds (change_conditions tables s))) same sound) ours d there
          c.clock c.versions holds.rows over.listed plan kept.said.good.versions holds.all over.are_current over.plans in
          let values = all_from_map (λ (v : TableVersion). All IsColumnValue v.values) (added_in change.table c.clock forever) plan.added
          (all_of_second (λ (v : TableVersion). All IsColumnValue v.values) (flat_map (remains_of change.table c.clock plan.ended) c.versions) (map (added_in change.table c.clock forever) plan.added) held) in
          good_planned c change.table d plan.ended plan.added there kept.said.good.clock kept.said.good.versions fits values

      -- a change whose plan is applied is a step
      pub changed_step : (new : EngineState S) → ResolvesChange old.catalog.tables s change → IsLawfulChange old.catalog.tables (last_state history) change → HaveDistinctKeys kept.contents.versions →
          StoreRepresents g (store_of new) (planned change.table old.clock plan.ended plan.added kept.contents) →
          ((stay : List VersionRow) → IsPermutation (rows_in old.tables change.table) (plan.ended ++ stay) → HaveRows change.table (map (begun old.clock) plan.added ++ stay) old.tables new.tables) →
          HaveClosed change.table (closed_at old.clock plan.ended) old.ended new.ended →
          StepsTo g history s (Ok (Done (word_of change.action) (planned_count change.action plan))) new
      changed_step new resolved allowed apart stored made closed =
          let its : StoreRepresents g (store_of new) after = subst (λ (m : ℤ). StoreRepresents g (store_of new) (planned change.table m plan.ended plan.added kept.contents)) kept.stored.clock stored in
          let lawful : IsLawfulChange (catalog_of history) (last_state history) change = subst (λ (tables : List TableDef). IsLawfulChange tables (last_state history) change) (tables_of g history old kept) allowed in (
            with_event history (Changed kept.contents.clock change),
            (
              none_holds,
              accepts_change history (with_event history (Changed kept.contents.clock change)) s (Done (word_of change.action) (planned_count change.action plan)) is (record {
                change = change;
                resolved = subst (λ (tables : List TableDef). ResolvesChange tables s change) (tables_of g history old kept) resolved;
                lawful = lawful;
                done = ap (λ n. Done (word_of change.action) n) (sym (count_said history kept.contents change plan kept.said over));
                after = ap (λ (c : ℤ). with_event history (Changed c change)) kept.said.clock;
              }),
            ),
            record {
              contents = after;
              stored = its;
              said = said-changed history kept.contents change plan kept.said over apart lawful (good_after resolved its.now.values);
              current = current_after new.tables apart made;
              ended = ended_after new.ended apart closed;
            },
          )

      -- a failure of the database leaves the history as it was
      pub unchanged_step : (new : EngineState S) (refusal : Refusal) → HasContents g new kept.contents → IsStoreRefusal refusal → StepsTo g history s (Err refusal) new
      unchanged_step new refusal has failure = failed_step g history old new s refusal kept has failure none_holds

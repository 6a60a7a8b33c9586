-- One table reference sees, as period rows, the versions that its window sees.
use Rattle.std.proofs.Common.{◌≡◌, ◌↔◌, ◌++◌, ◌∙◌, ℕ, ℤ, Bool, List, filter, map, refl, reverse, sym, ap, subst}
use Rattle.std.proofs.lemmas.List.{map-append}
use Rattle.std.specs.List.Sorted.{IsPermutation}
use Rattle.std.proofs.lemmas.List.Sorted.{Contains-permutation, IsPermutation-append, IsPermutation-append_right, IsPermutation-filter_both, IsPermutation-map, IsPermutation-reverse, IsPermutation-sym, IsPermutation-trans}
use Rattle.sqlite_trees.proofs.ListLemmas.{IsPermutation-filter, filter-map, map-map}
use Rattle.period_core.specs.Windows.{window_sees}
use Rattle.period_core.specs.declared.row.PeriodRow.{PeriodRow}
use Rattle.period_core.specs.declared.value.Value.{Value}
use Rattle.period_core.specs.declared.version.VersionRow.{VersionRow}
use Rattle.period_core.specs.declared.window.Window.{Window}
use Rattle.period_core.specs.declared.window.Window.TheVariants.{Now}
use Rattle.temporal_model.specs.Snapshot.{InSnapshot, covers_day, values_on}
use Rattle.period_keys.specs.Rows.{RowsByKey}
use Rattle.version_store.specs.Contents.{Contents, TableVersion, of_table, version_in}
use Rattle.version_store.specs.Scans.{seen_of}
use Rattle.history_model.specs.Histories.{History, state_at}
use Rattle.history_model.specs.SystemWindows.{SeesThrough}
use Rattle.history_model.specs.Versions.{row_of, values_seen}
use Rattle.history_model.proofs.HistoryVersionFacts.{left_hold}
use Rattle.history_model.proofs.Shown.{seen_at_moments}
use Rattle.catalog_core.specs.declared.query.resolved.QueryReference.{QueryReference}
use Rattle.ended_versions.specs.Packed.{PackedVersion, seen_through}
use Rattle.script_engine.specs.engine.Ended.{HasEnded, table_ended}
use Rattle.script_engine.specs.engine.Answering.{AreRowsSeen, SeesRows}
use Rattle.script_engine.specs.engine.InMemory.{HaveCurrentRows, rows_in}
use Rattle.script_engine.specs.engine.Reading.{versions_in}
use Rattle.script_engine.specs.engine.Stored.{AreOfHistory}
use Rattle.script_engine.proofs.LastState.{recorded_rows, values_along}
use Rattle.script_engine.proofs.PlanFacts.{filtered_twice, seen_rows}
use Rattle.script_engine.proofs.Recorded.{recorded_of}

-- ---- the stored rows are what the window sees

-- all versions of a table are in memory: the current ones, and those that have ended
pub all_in_memory :
    (c : Contents) (tables : List RowsByKey) (number : ℕ) (list : List PackedVersion) (current : HaveCurrentRows c tables) (ended : HasEnded c number list)
    → IsPermutation (of_table number c.versions) (map (version_in number) (versions_in tables number ended.versions))
all_in_memory c tables number list current ended =
    let versions : List TableVersion = of_table number c.versions in
    let is_current : TableVersion → Bool = λ v. window_sees Now v.from v.to in
    let now : List VersionRow = rows_in tables number in
    let both : IsPermutation versions (map (version_in number) (now ++ ended.versions)) =
    subst (IsPermutation versions) (sym (map-append (version_in number) now ended.versions))
    (IsPermutation-trans versions (filter is_current versions ++ filter table_ended versions) (map (version_in number) now ++ map (version_in number) ended.versions)
    (IsPermutation-filter_both is_current table_ended (λ v. refl) versions)
    (IsPermutation-append (filter is_current versions) (map (version_in number) now) (filter table_ended versions) (map (version_in number) ended.versions) (current.rows number) ended.all)) in
    IsPermutation-trans versions (map (version_in number) (now ++ ended.versions)) (map (version_in number) (now ++ reverse ended.versions)) both
    (IsPermutation-map (version_in number) (now ++ ended.versions) (now ++ reverse ended.versions) (IsPermutation-append_right now ended.versions (reverse ended.versions) (IsPermutation-reverse ended.versions)))

-- of the versions in memory a window sees all that it sees
pub memory_seen :
    (c : Contents) (tables : List RowsByKey) (number : ℕ) (list : List PackedVersion) (window : Window) (current : HaveCurrentRows c tables) (ended : HasEnded c number list)
    → AreRowsSeen c number window (map row_of (seen_through window (versions_in tables number ended.versions)))
memory_seen c tables number list window current ended =
    let sees : TableVersion → Bool = λ v. window_sees window v.from v.to in
    let all : List VersionRow = versions_in tables number ended.versions in
    record {
      versions = seen_through window all;
      all =
          subst (IsPermutation (seen_of number window c.versions)) (filter-map sees (version_in number) all)
          (IsPermutation-filter sees (of_table number c.versions) (map (version_in number) all) (all_in_memory c tables number list current ended));
      made = refl;
    }

-- ---- rows that the window sees are what the reference sees

abbrev holds_on : ℤ → PeriodRow → Bool
holds_on day row = covers_day row.period.start row.period.end day

abbrev its_values : PeriodRow → List Value
its_values row = row.values

-- versions that the window sees hold on a day, without their system times, what the window sees on it
seen_values : (window : Window) (versions : List VersionRow) (day : ℤ) → values_on (map row_of (filter (λ (v : VersionRow). window_sees window v.from v.to) versions)) day ≡ values_seen window versions day
seen_values window versions day =
    let sees : VersionRow → Bool = λ v. window_sees window v.from v.to in
    let holds : VersionRow → Bool = λ v. covers_day v.period.start v.period.end day in
    ap (map its_values) (filter-map (holds_on day) row_of (filter sees versions))
    ∙ map-map its_values row_of (filter holds (filter sees versions))
    ∙ ap (map (λ (v : VersionRow). v.values)) (filtered_twice sees holds versions)

rows_seen_hold : (history : History) (c : Contents) (table : ℕ) (window : Window) (rows : List PeriodRow) → AreOfHistory history c → AreRowsSeen c table window rows → (day : ℤ) (values : List Value) →
    (InSnapshot rows day values ↔ SeesThrough history window day table values)
rows_seen_hold history c table window rows said seen day values =
    let holds = said.versions table in
    let sees : VersionRow → Bool = λ v. window_sees window v.from v.to in
    let ours : List PeriodRow = map row_of (filter sees holds.rows) in
    let whole : List (List Value) = values_seen window holds.rows day in
    let here : List (List Value) = values_on rows day in
    let versions : IsPermutation (filter sees holds.rows) seen.versions = seen_rows table window c.versions holds.rows seen.versions holds.all seen.all in
    let along : IsPermutation (values_on ours day) (values_on (map row_of seen.versions) day) =
    values_along ours (map row_of seen.versions) day (IsPermutation-map row_of (filter sees holds.rows) seen.versions versions) in
    let same : IsPermutation whole here = subst (λ (l : List PeriodRow). IsPermutation whole (values_on l day)) (sym seen.made) (subst (λ (l : List (List Value)). IsPermutation l (values_on (map row_of seen.versions) day)) (seen_values window holds.rows day) along) in
    let (there, back) =
    seen_at_moments c.clock holds.rows said.good.clock.1 (recorded_rows c table holds.rows (recorded_of c said.good) holds.all) day (λ moment. state_at history moment table day)
    (λ moment before. left_hold history table holds.rows said.order holds.left moment day before) window values in (
      λ held. there (Contains-permutation here whole values (IsPermutation-sym whole here same) held),
      λ through. Contains-permutation whole here values same (back through),
    )

-- a reference sees the rows that it is handed
pub sees_rows : (history : History) (c : Contents) (reference : QueryReference) (rows : List PeriodRow) → AreOfHistory history c → AreRowsSeen c reference.table reference.window rows → SeesRows history reference rows
sees_rows history c reference rows said seen =
    let holds = said.versions reference.table in
    let its : List VersionRow = seen_through reference.window holds.rows in
    record {
      versions = holds.rows;
      left = holds.left;
      all =
          subst (IsPermutation (map row_of its)) (sym seen.made)
          (IsPermutation-map row_of its seen.versions (seen_rows reference.table reference.window c.versions holds.rows seen.versions holds.all seen.all));
      daily = rows_seen_hold history c reference.table reference.window rows said seen;
    }

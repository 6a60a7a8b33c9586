-- The current versions of a table after a plan: those that it does not end, and those that it adds.
use Rattle.std.proofs.Common.{◌≡◌, ◌<ℤ◌, ◌++◌, ◌∷◌, ◌∙◌, ℤ, Bool, true, false, cond, List, [], map, refl, sym, ap, ap₂, subst, arith}
use Rattle.std.specs.List.{AllByRecursion, flat_map}
use Rattle.std.specs.List.Sorted.{IsPermutation}
use Rattle.std.specs.Ordering.{int_eq}
use Rattle.std.proofs.lemmas.Int.{ints}
use Rattle.std.proofs.lemmas.List.Elements.{filter-append}
use Rattle.std.proofs.lemmas.List.Sorted.{IsPermutation-append_comm, IsPermutation-map, IsPermutation-sym, IsPermutation-trans}
use Rattle.sqlite_trees.proofs.ListLemmas.{IsPermutation-filter, all-filter, all-flat_map, all-map, all-permutation, all_of, filter-map, filter_all, filter_none}
use Rattle.period_core.specs.Moments.{forever}
use Rattle.period_core.specs.Windows.{window_sees}
use Rattle.period_core.specs.declared.row.PeriodRow.{PeriodRow}
use Rattle.period_core.specs.declared.version.VersionRow.{VersionRow}
use Rattle.period_core.specs.declared.window.Window.TheVariants.{Now}
use Rattle.catalog_core.specs.declared.change.Change.{Change}
use Rattle.catalog_core.specs.declared.change.Plan.{Plan}
use Rattle.history_model.specs.Histories.{History}
use Rattle.history_model.specs.Portions.{touches}
use Rattle.history_model.specs.Versions.{current}
use Rattle.period_keys.specs.Versions.{begun}
use Rattle.portion_dml.specs.Plans.{version_row}
use Rattle.version_store.specs.Changed.{planned}
use Rattle.version_store.specs.Contents.{Contents, TableVersion, of_table, version_in}
use Rattle.version_store.specs.DistinctKeys.{HaveDistinctKeys}
use Rattle.version_store.specs.Scans.{seen_of}
use Rattle.script_engine.specs.engine.InMemory.{AreCurrentOf}
use Rattle.script_engine.specs.engine.Stored.{AreOfHistory}
use Rattle.script_engine.proofs.Contents.{IsOver, held_planned, rows_after, stay_in, taken}
use Rattle.ended_versions.specs.Packed.{closed_row}
use Rattle.script_engine.proofs.KeyFacts.{int_same}
use Rattle.script_engine.proofs.PlanFacts.{current_listed}

abbrev pub is_current : VersionRow → Bool
is_current v = window_sees Now v.from v.to

all_current : (rows : List VersionRow) → AllByRecursion (λ (v : VersionRow). is_current v ≡ true) (current rows)
all_current [] = tt
all_current (v ∷ rows) = go (is_current v) refl (all_current rows)
  where
    go : (b : Bool) → is_current v ≡ b → AllByRecursion (λ (w : VersionRow). is_current w ≡ true) (current rows) → AllByRecursion (λ (w : VersionRow). is_current w ≡ true) (cond b (v ∷ current rows) (current rows))
    go true is more = (is, more)
    go false off more = more

pub not_forever : (moment : ℤ) → moment <ℤ forever → int_eq moment forever ≡ false
not_forever moment before = grind (arith, ints)

-- a version that is closed before FOREVER is not current
pub none_current : (moment : ℤ) → moment <ℤ forever → (rows : List VersionRow) → AllByRecursion (λ (v : VersionRow). is_current v ≡ false) (flat_map (closed_row moment) rows)
none_current moment before rows =
    all-flat_map (λ (v : VersionRow). is_current v ≡ false) (closed_row moment) rows
    (all_of (λ (v : VersionRow). AllByRecursion (λ (w : VersionRow). is_current w ≡ false) (closed_row moment v)) (λ v. one v (int_eq v.from moment)) rows)
  where
    one : (v : VersionRow) (b : Bool) → AllByRecursion (λ (w : VersionRow). is_current w ≡ false) (cond b [] (record v { to = moment } ∷ []))
    one v true = tt
    one v false = (not_forever moment before, tt)

-- each version that begins is current
pub all_begun : (moment : ℤ) (added : List PeriodRow) → AllByRecursion (λ (v : VersionRow). is_current v ≡ true) (map (begun moment) added)
all_begun moment added = all-map (λ (v : VersionRow). is_current v ≡ true) (begun moment) added (all_of (λ (r : PeriodRow). is_current (begun moment r) ≡ true) (λ r. int_same forever) added)

module _ (history : History) (c : Contents) (change : Change) (plan : Plan) (said : AreOfHistory history c) (over : IsOver (said.versions change.table).rows change.action plan) where
  abbrev pub rows : List VersionRow
  rows = (said.versions change.table).rows

  abbrev pub S : List VersionRow
  S = stay_in change.action rows

  -- the current versions that the plan does not end
  abbrev pub staying : List VersionRow
  staying = current S

  -- the versions that the plan ends were current
  pub ended_current : AllByRecursion (λ (v : VersionRow). is_current v ≡ true) plan.ended
  ended_current =
      subst (AllByRecursion (λ (v : VersionRow). is_current v ≡ true)) (sym over.plans.ended)
      (all-filter (λ (v : VersionRow). is_current v ≡ true) (λ (v : VersionRow). touches change.action (version_row v)) over.listed
      (all-permutation (λ (v : VersionRow). is_current v ≡ true) (current rows) over.listed over.are_current (all_current rows)))

  -- the rows in memory are those that end and those that stay
  pub parted_current : (kept : List VersionRow) → AreCurrentOf c change.table kept → IsPermutation kept (plan.ended ++ staying)
  parted_current kept are =
      IsPermutation-trans kept (current rows) (plan.ended ++ staying)
      (IsPermutation-sym (current rows) kept (current_listed change.table c.versions rows kept (said.versions change.table).all are))
      (subst (IsPermutation (current rows)) (filter-append is_current plan.ended S ∙ ap (λ (l : List VersionRow). l ++ staying) (filter_all is_current plan.ended ended_current))
      (IsPermutation-filter is_current rows (plan.ended ++ S) (taken c.clock change.action plan rows over)))

  -- the rows that stay and those that begin are the current ones afterwards
  pub current_planned : HaveDistinctKeys c.versions → AreCurrentOf (planned change.table c.clock plan.ended plan.added c) change.table (map (begun c.clock) plan.added ++ staying)
  current_planned apart =
      let table = change.table in
      let R : List VersionRow = rows_after c.clock change.action plan rows in
      let C : List VersionRow = flat_map (closed_row c.clock) plan.ended in
      let B : List VersionRow = map (begun c.clock) plan.added in
      let after : Contents = planned change.table c.clock plan.ended plan.added c in
      let sees : TableVersion → Bool = λ v. window_sees Now v.from v.to in
      let all : IsPermutation (of_table table after.versions) (map (version_in table) R) = held_planned c.clock change.action plan rows over table c.versions (said.versions table).all apart in
      let left : current R ≡ staying ++ B =
      filter-append is_current S (C ++ B)
      ∙ ap (λ (l : List VersionRow). staying ++ l)
      (filter-append is_current C B
      ∙ ap₂ (λ (a b : List VersionRow). a ++ b) (filter_none is_current C (none_current c.clock said.good.clock.1 plan.ended)) (filter_all is_current B (all_begun c.clock plan.added))) in
      IsPermutation-trans (seen_of table Now after.versions) (map (version_in table) (current R)) (map (version_in table) (B ++ staying))
      (subst (IsPermutation (seen_of table Now after.versions)) (filter-map sees (version_in table) R) (IsPermutation-filter sees (of_table table after.versions) (map (version_in table) R) all))
      (IsPermutation-map (version_in table) (current R) (B ++ staying)
      (subst (λ (l : List VersionRow). IsPermutation l (B ++ staying)) (sym left) (IsPermutation-append_comm staying B)))

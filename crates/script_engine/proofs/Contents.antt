-- The contents of a store after each event go on being what the history says.
use Rattle.std.proofs.Common.{◌≡◌, ◌<◌, ◌++◌, ◌∷◌, ◌<ℤ◌, ◌≤ℤ◌, ◌==◌, ℕ, ℤ, Bool, true, false, not, List, [], map, nat_eq, refl, sym, ap, ap₂, ◌∙◌, append-nil, append_assoc, filter_map, fold, length, length-append, suc, zero, Some, subst, subst₂, inl, inr, arith}
use Rattle.std.specs.List.{AllByRecursion, filter, flat_map}
use Rattle.std.specs.List.Sorted.{IsPermutation}
use Rattle.std.proofs.lemmas.Bool.Decides.{nat_tests}
use Rattle.std.proofs.lemmas.Int.{ints}
use Rattle.std.proofs.lemmas.List.{map-append}
use Rattle.std.proofs.lemmas.List.Concat.{flat_map-append}
use Rattle.std.proofs.lemmas.List.Elements.{filter-append}
use Rattle.std.proofs.lemmas.Option.{none-some}
use Rattle.std.proofs.lemmas.List.Sorted.{IsPermutation-append_left, IsPermutation-filter_both, IsPermutation-map, IsPermutation-trans}
use Rattle.sqlite_trees.proofs.ListLemmas.{IsPermutation-flat_map, IsPermutation-same, all-map, all_of, all_weaker, ascending-filter, filter_all, map-map}
use Rattle.period_core.specs.Moments.{first_moment, forever}
use Rattle.period_core.specs.declared.row.PeriodRow.{PeriodRow}
use Rattle.period_core.specs.declared.version.VersionRow.{VersionRow}
use Rattle.catalog_core.specs.declared.change.Action.{Action}
use Rattle.catalog_core.specs.declared.change.Change.{Change}
use Rattle.catalog_core.specs.declared.change.Plan.{Plan}
use Rattle.catalog_core.specs.Limits.{most_tables}
use Rattle.catalog_core.specs.create.Lawful.{IsLawful}
use Rattle.catalog_core.specs.declared.table.TableDef.{TableDef}
use Rattle.catalog_core.specs.table.TableWords.{table_of}
use Rattle.version_tables.specs.Good.{AreMoments}
use Rattle.version_store.specs.Changed.{is_ended, remains_of, planned, with_clock, with_table}
use Rattle.version_store.specs.Contents.{Contents, TableVersion, added_in, of_table, same_version, version_in}
use Rattle.version_store.specs.DistinctKeys.{HaveDistinctKeys}
use Rattle.version_store.specs.GoodStore.{AreLawful, IsGoodVersion}
use Rattle.version_store.proofs.Spared.{other_tables}
use Rattle.history_model.specs.Effects.{effect}
use Rattle.history_model.specs.Histories.{Advanced, Queried, Changed, Created, Event, History, catalog_of, changed_until, created_by, last_state, with_event}
use Rattle.history_model.specs.HistoryVersions.{AppliesAction, begun_at, closed_at, versions_of}
use Rattle.history_model.specs.Portions.{plain_row}
use Rattle.history_model.specs.Versions.{PlainVersion, current, last_moment, plain_version}
use Rattle.history_model.proofs.HistoryLemmas.{catalog_of-event, clock_of-event, state_at-event}
use Rattle.history_model.proofs.Lists.{exchange}
use Rattle.portion_dml.specs.Plans.{Plans}
use Rattle.portion_dml.proofs.Applied.{applied_makes}
use Rattle.period_keys.specs.Lawful.{IsLawfulChange, IsLawfulState}
use Rattle.period_keys.specs.Planned.{IsPlanOf}
use Rattle.period_keys.specs.Versions.{begun}
use Rattle.script_engine.specs.engine.InMemory.{AreCurrentOf}
use Rattle.script_engine.specs.engine.Planned.{count_of, planned_count}
use Rattle.script_engine.specs.engine.Stored.{AreOfHistory, HoldsTable}
use Rattle.script_engine.proofs.Ended.{all_closed, closed_in, closed_plain, none_closed, of_left}
use Rattle.ended_versions.specs.Packed.{closed_row}
use Rattle.script_engine.proofs.KeyFacts.{are_ended, distinct_along, rest_stays}
use Rattle.script_engine.proofs.LastState.{IsLeft, lawful_changed, lawful_same, lawful_with_table}
use Rattle.script_engine.proofs.LeftSteps.{left-advanced, left-asked, left-changed_elsewhere, left-changed_there, left-created, order-event}
use Rattle.script_engine.proofs.PlanFacts.{counted, current_listed, hits_end, is_hit}
use Rattle.script_engine.proofs.Recorded.{recorded_of}
use Rattle.version_tables.specs.declared.form.Form.TheVariants.{Microseconds}

-- ---- AT

-- a version recorded up to the clock is recorded up to a later one
recorded_later : (clock later : ℤ) → clock ≤ℤ later → (v : TableVersion) → AreMoments Microseconds clock v.from v.to → AreMoments Microseconds later v.from v.to
recorded_later clock later late v was =
    let begun : v.from ≤ℤ clock = was.past.0 in
    record {
      from_is = was.from_is;
      to_is = was.to_is;
      rise = was.rise;
      past = (
        omega (arith, ints),
        elim was.past.1 [
          | inl ended ↦ inl (omega (arith, ints))
          | inr never ↦ inr never
        ],
      );
    }

good_later : (tables : List TableDef) (clock later : ℤ) → clock ≤ℤ later → (v : TableVersion) → IsGoodVersion tables clock v → IsGoodVersion tables later v
good_later tables clock later late v is = record {
  definition = is.definition;
  table = is.table;
  values = is.values;
  held = is.held;
  days = is.days;
  moments = recorded_later clock later late v is.moments;
}

-- the versions that a history leaves, as the contents have them
pub is_left : (history : History) (c : Contents) → AreOfHistory history c → IsLeft history c
is_left history c said = record { order = said.order; versions = said.versions; is_clock = said.good.clock; recorded = recorded_of c said.good }

-- an event that adds no table and changes no row leaves the last state lawful
lawful_still : (history : History) (event : Event) (c : Contents) → AreOfHistory history c → filter_map created_by (event ∷ []) ≡ [] → filter_map (changed_until last_moment) (event ∷ []) ≡ [] →
    IsLawfulState (catalog_of (with_event history event)) (last_state (with_event history event))
lawful_still history event c said no_table no_change =
    subst (λ (tables : List TableDef). IsLawfulState tables (last_state (with_event history event)))
    (sym (catalog_of-event history event ∙ ap (λ (more : List TableDef). catalog_of history ++ more) no_table ∙ append-nil (catalog_of history)))
    (lawful_same (catalog_of history) (last_state history) (last_state (with_event history event))
    (λ table day. state_at-event history event last_moment table day ∙ ap (λ (changes : List Change). fold (λ rows change. effect change table day rows) (last_state history table day) changes) no_change)
    said.lawful)

pub said-advanced : (history : History) (c : Contents) (moment : ℤ) → AreOfHistory history c → c.clock ≤ℤ moment → moment <ℤ forever → AreOfHistory (with_event history (Advanced moment)) (with_clock moment c)
said-advanced history c moment said late before =
    let first : first_moment ≤ℤ c.clock = said.good.clock.0 in
    record {
      order = order-event history (Advanced moment) said.order (subst (λ (k : ℤ). k ≤ℤ moment) said.clock late, before, tt);
      clock = sym (clock_of-event history (Advanced moment));
      tables = said.tables ∙ sym (catalog_of-event history (Advanced moment) ∙ append-nil (catalog_of history));
      versions = λ table.
          let holds = said.versions table in
          record { rows = holds.rows; left = left-advanced history moment table holds.rows holds.left; all = holds.all };
      good = record {
        clock = (omega (arith, ints), before);
        few = said.good.few;
        lawful = said.good.lawful;
        versions = all_weaker (IsGoodVersion c.tables c.clock) (IsGoodVersion c.tables moment) (good_later c.tables c.clock moment late) c.versions said.good.versions;
        constrained = tt;
      };
      lawful = lawful_still history (Advanced moment) c said refl refl;
    }

-- ---- CREATE

-- the tables of the numbers stay as they are after one more
more_tables : (tables : List TableDef) (definition : TableDef) (number : ℕ) (d : TableDef) → table_of tables number ≡ Some d → table_of (tables ++ definition ∷ []) number ≡ Some d
more_tables tables definition zero d there = there
more_tables [] definition (suc place) d there = absurd (none-some d there)
more_tables (first ∷ tables) definition (suc zero) d there = there
more_tables (first ∷ tables) definition (suc (suc place)) d there = more_tables tables definition (suc place) d there

-- a definition that CREATE gives over lawful ones is lawful after them
lawful_more : (before tables : List TableDef) (definition : TableDef) → AreLawful before tables → IsLawful (before ++ tables) definition → AreLawful before (tables ++ definition ∷ [])
lawful_more before [] definition lawful next = (subst (λ (l : List TableDef). IsLawful l definition) (append-nil before) next, tt)
lawful_more before (first ∷ tables) definition lawful next =
    (lawful.0, lawful_more (before ++ first ∷ []) tables definition lawful.1 (subst (λ (l : List TableDef). IsLawful l definition) (sym (append_assoc before (first ∷ []) tables)) next))

pub said-created : (history : History) (c : Contents) (definition : TableDef) → length c.tables < most_tables → IsLawful c.tables definition → ((day : ℤ) → last_state history (suc (length c.tables)) day ≡ []) → AreOfHistory history c → AreOfHistory (with_event history (Created definition)) (with_table definition c)
said-created history c definition room next none said = record {
  order = order-event history (Created definition) said.order tt;
  clock = said.clock ∙ sym (clock_of-event history (Created definition));
  tables = ap (λ (tables : List TableDef). tables ++ definition ∷ []) said.tables ∙ sym (catalog_of-event history (Created definition));
  versions = λ table.
      let holds = said.versions table in
      record { rows = holds.rows; left = left-created history definition table holds.rows holds.left; all = holds.all };
  good = record {
    clock = said.good.clock;
    few = (let one = length-append c.tables (definition ∷ []) in omega (arith, one, room));
    lawful = lawful_more [] c.tables definition said.good.lawful next;
    versions =
        all_weaker (IsGoodVersion c.tables c.clock) (IsGoodVersion (c.tables ++ definition ∷ []) c.clock)
        (λ v is. record { definition = is.definition; table = more_tables c.tables definition v.table is.definition is.table; values = is.values; held = is.held; days = is.days; moments = is.moments })
        c.versions said.good.versions;
    constrained = tt;
  };
  lawful =
      subst (λ (tables : List TableDef). IsLawfulState tables (last_state (with_event history (Created definition)))) (sym (catalog_of-event history (Created definition)))
      (lawful_same (catalog_of history ++ definition ∷ []) (last_state history) (last_state (with_event history (Created definition))) (λ table day. state_at-event history (Created definition) last_moment table day)
      (subst (λ (tables : List TableDef). IsLawfulState (tables ++ definition ∷ []) (last_state history)) said.tables
      (lawful_with_table c.tables definition (last_state history) said.good.lawful none
      (subst (λ (tables : List TableDef). IsLawfulState tables (last_state history)) (sym said.tables) said.lawful))));
}

-- ---- queries

pub said-asked : (history : History) (c : Contents) → AreOfHistory history c → AreOfHistory (with_event history Queried) c
said-asked history c said = record {
  order = order-event history Queried said.order tt;
  clock = said.clock ∙ sym (clock_of-event history Queried);
  tables = said.tables ∙ sym (catalog_of-event history Queried ∙ append-nil (catalog_of history));
  versions = λ table.
      let holds = said.versions table in
      record { rows = holds.rows; left = left-asked history table holds.rows holds.left; all = holds.all };
  good = record { clock = said.good.clock; few = said.good.few; lawful = said.good.lawful; versions = said.good.versions; constrained = tt };
  lawful = lawful_still history Queried c said refl refl;
}

-- ---- changes

begun_plain : (moment : ℤ) (added : List PeriodRow) → map plain_version (map (begun moment) added) ≡ map (begun_at moment) (map plain_row added)
begun_plain moment added = map-map plain_version (begun moment) added ∙ sym (map-map (begun_at moment) plain_row added)

-- the added versions of a table, and of another
pub added_there : (table other : ℕ) (moment : ℤ) (added : List PeriodRow) → (table == other) ≡ true → of_table other (map (added_in table moment forever) added) ≡ map (added_in table moment forever) added
added_there table other moment added here =
    filter_all (λ (v : TableVersion). v.table == other) (map (added_in table moment forever) added)
    (all-map (λ (v : TableVersion). (v.table == other) ≡ true) (added_in table moment forever) added
    (all_of (λ (r : PeriodRow). (table == other) ≡ true) (λ r. here) added))

-- a plan over the current ones of a table's versions
pub record IsOver (rows : List VersionRow) (action : Action) (plan : Plan) : Type 0 where
  pub listed : List VersionRow
  pub are_current : IsPermutation (current rows) listed
  pub plans : Plans action listed plan

-- the versions after the plan: those that stay, those that are closed, and those that begin
abbrev pub stay_in : Action → List VersionRow → List VersionRow
stay_in action rows = filter (λ (v : VersionRow). not (is_hit action v)) rows

abbrev pub rows_after : ℤ → Action → Plan → List VersionRow → List VersionRow
rows_after moment action plan rows = stay_in action rows ++ (flat_map (closed_row moment) plan.ended ++ map (begun moment) plan.added)

module _ (moment : ℤ) (action : Action) (plan : Plan) (rows : List VersionRow) (over : IsOver rows action plan) where
  abbrev E : List VersionRow
  E = plan.ended

  abbrev S : List VersionRow
  S = stay_in action rows

  -- the versions are those that end and those that stay
  pub taken : IsPermutation rows (E ++ S)
  taken =
      IsPermutation-trans rows (filter (is_hit action) rows ++ S) (E ++ S)
      (IsPermutation-filter_both (is_hit action) (λ (v : VersionRow). not (is_hit action v)) (λ v. refl) rows)
      (IsPermutation-append_left S (filter (is_hit action) rows) E (hits_end action rows over.listed plan over.are_current over.plans))

  -- the rows after the plan are those that the action makes
  makes_planned : AppliesAction moment action rows (rows_after moment action plan rows)
  makes_planned =
      let C : List VersionRow = flat_map (closed_row moment) E in
      let B : List VersionRow = map (begun moment) plan.added in
      let made : map plain_version (S ++ (C ++ B)) ≡ map plain_version S ++ (flat_map (closed_at moment) (map plain_version E) ++ map (begun_at moment) (map plain_row plan.added)) =
      map-append plain_version S (C ++ B)
      ∙ ap (λ (l : List PlainVersion). map plain_version S ++ l)
      (map-append plain_version C B ∙ ap₂ (λ (a b : List PlainVersion). a ++ b) (sym (closed_plain moment E)) (begun_plain moment plan.added)) in
      applied_makes moment action rows (S ++ (C ++ B)) (record {
        listed = over.listed;
        are_current = over.are_current;
        plan = plan;
        plans = over.plans;
        applies = record { stay = S; taken = taken; made = IsPermutation-same _ _ made };
      })

  -- the rows so planned are what the store then has of the table
  module _ (table : ℕ) (versions : List TableVersion) (all : IsPermutation (of_table table versions) (map (version_in table) rows)) (apart : HaveDistinctKeys versions) where
    abbrev left : List TableVersion → List TableVersion
    left = flat_map (remains_of table moment E)

    parted : IsPermutation (of_table table versions) (map (version_in table) (E ++ S))
    parted = IsPermutation-trans (of_table table versions) (map (version_in table) rows) (map (version_in table) (E ++ S)) all (IsPermutation-map (version_in table) rows (E ++ S) taken)

    -- no other version has the key of one that ends
    stays : AllByRecursion (λ (v : VersionRow). is_ended table E (version_in table v) ≡ false) S
    stays =
        rest_stays table E S
        (distinct_along (of_table table versions) (map (version_in table) (E ++ S)) parted
        (ascending-filter (λ (a b : TableVersion). same_version a b ≡ false) (λ (v : TableVersion). v.table == table) versions apart))

    left_planned : IsPermutation (left (of_table table versions)) (map (version_in table) (flat_map (closed_row moment) E) ++ map (version_in table) S)
    left_planned =
        let both : left (map (version_in table) (E ++ S)) ≡ map (version_in table) (flat_map (closed_row moment) E) ++ map (version_in table) S =
        ap left (map-append (version_in table) E S)
        ∙ flat_map-append (remains_of table moment E) (map (version_in table) E) (map (version_in table) S)
        ∙ ap₂ (λ (a b : List TableVersion). a ++ b) (all_closed table moment E E (are_ended table E) ∙ closed_in table moment E) (none_closed table moment E S stays) in
        subst (IsPermutation (left (of_table table versions))) both (IsPermutation-flat_map (remains_of table moment E) (of_table table versions) (map (version_in table) (E ++ S)) parted)

    begun_in : map (version_in table) (map (begun moment) plan.added) ≡ map (added_in table moment forever) plan.added
    begun_in = map-map (version_in table) (begun moment) plan.added

    pub held_planned : IsPermutation (of_table table (left versions ++ map (added_in table moment forever) plan.added)) (map (version_in table) (rows_after moment action plan rows))
    held_planned =
        let C : List TableVersion = map (version_in table) (flat_map (closed_row moment) E) in
        let Q : List TableVersion = map (version_in table) S in
        let A : List TableVersion = map (added_in table moment forever) plan.added in
        let same : (table == table) ≡ true = grind (arith, nat_tests) in
        let now : of_table table (left versions ++ A) ≡ left (of_table table versions) ++ A =
        filter-append (λ (v : TableVersion). v.table == table) (left versions) A
        ∙ ap₂ (λ (a b : List TableVersion). a ++ b) (of_left table table moment E versions) (added_there table table moment plan.added same) in
        let whole : map (version_in table) (rows_after moment action plan rows) ≡ Q ++ (C ++ A) =
        map-append (version_in table) S (flat_map (closed_row moment) E ++ map (begun moment) plan.added)
        ∙ ap (λ (l : List TableVersion). Q ++ l)
        (map-append (version_in table) (flat_map (closed_row moment) E) (map (begun moment) plan.added) ∙ ap (λ (l : List TableVersion). C ++ l) begun_in) in
        subst₂ IsPermutation (sym now) (sym whole)
        (IsPermutation-trans (left (of_table table versions) ++ A) ((C ++ Q) ++ A) (Q ++ (C ++ A))
        (IsPermutation-append_left A (left (of_table table versions)) (C ++ Q) left_planned)
        (subst (λ (l : List TableVersion). IsPermutation l (Q ++ (C ++ A))) (sym (append_assoc C Q A)) (exchange C Q A)))

-- a plan over the rows in memory is one over the versions that the history leaves
pub over_history : (history : History) (c : Contents) (table : ℕ) (action : Action) (rows : List VersionRow) (plan : Plan) (holds : HoldsTable history c.versions table) → AreCurrentOf c table rows → IsPlanOf action rows plan →
    IsOver holds.rows action plan
over_history history c table action rows plan holds are of = record {
  listed = of.listed;
  are_current = IsPermutation-trans (current holds.rows) rows of.listed (current_listed table c.versions holds.rows rows holds.all are) of.are_rows;
  plans = of.plans;
}

module _ (history : History) (c : Contents) (change : Change) (plan : Plan) (said : AreOfHistory history c) (over_said : IsOver (said.versions change.table).rows change.action plan) where
  abbrev after : Contents
  after = planned change.table c.clock plan.ended plan.added c

  -- the count of the plan is the count of the history
  pub count_said : count_of change.action (versions_of history change.table) ≡ planned_count change.action plan
  count_said =
      let holds = said.versions change.table in
      counted change.action holds.rows (versions_of history change.table) plan over_said.listed over_said.are_current over_said.plans holds.left

  module _ (apart : HaveDistinctKeys c.versions) where
    holds_there : HoldsTable (with_event history (Changed c.clock change)) after.versions change.table
    holds_there =
        let holds = said.versions change.table in
        let same : nat_eq change.table change.table ≡ true = grind (arith, nat_tests) in
        record {
          rows = rows_after c.clock change.action plan holds.rows;
          left = left-changed_there history c.clock change change.table holds.rows (rows_after c.clock change.action plan holds.rows) holds.left same (makes_planned c.clock change.action plan holds.rows over_said);
          all = held_planned c.clock change.action plan holds.rows over_said change.table c.versions holds.all apart;
        }

    holds_elsewhere : (table : ℕ) → HoldsTable history c.versions table → nat_eq table change.table ≡ false → HoldsTable (with_event history (Changed c.clock change)) after.versions table
    holds_elsewhere table holds off =
        let others : of_table table after.versions ≡ of_table table c.versions =
        other_tables change.table table c.clock plan.ended plan.added c (λ e. let same : nat_eq table change.table ≡ true = grind (arith, nat_tests, e) in cc) in
        record {
          rows = holds.rows;
          left = left-changed_elsewhere history c.clock change table holds.rows holds.left off;
          all = subst (λ (l : List TableVersion). IsPermutation l (map (version_in table) holds.rows)) (sym others) holds.all;
        }

    pub holds_after : (table : ℕ) → HoldsTable history c.versions table → (b : Bool) → nat_eq table change.table ≡ b → HoldsTable (with_event history (Changed c.clock change)) after.versions table
    holds_after table holds true here =
        let same : change.table ≡ table = grind (arith, nat_tests, here) in
        subst (HoldsTable (with_event history (Changed c.clock change)) after.versions) same holds_there
    holds_after table holds false off = holds_elsewhere table holds off

    pub said-changed : IsLawfulChange (catalog_of history) (last_state history) change → AllByRecursion (IsGoodVersion c.tables c.clock) after.versions → AreOfHistory (with_event history (Changed c.clock change)) after
    said-changed allowed good = record {
      order = order-event history (Changed c.clock change) said.order (said.clock, tt);
      clock = said.clock ∙ sym (clock_of-event history (Changed c.clock change));
      tables = said.tables ∙ sym (catalog_of-event history (Changed c.clock change) ∙ append-nil (catalog_of history));
      versions = λ table. holds_after table (said.versions table) (nat_eq table change.table) refl;
      good = record { clock = said.good.clock; few = said.good.few; lawful = said.good.lawful; versions = good; constrained = tt };
      lawful =
          subst (λ (tables : List TableDef). IsLawfulState tables (last_state (with_event history (Changed c.clock change)))) (sym (catalog_of-event history (Changed c.clock change) ∙ append-nil (catalog_of history)))
          (lawful_changed history c.clock change said.good.clock.1 said.lawful allowed);
    }

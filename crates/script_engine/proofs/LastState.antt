-- The last state of a history, by the current versions of a store; it stays lawful with each event.
use Rattle.std.proofs.Common.{◌≡◌, ◌≤◌, ◌<◌, ◌++◌, ◌∷◌, ◌==◌, ◌∙◌, ◌≤ℤ◌, ◌<ℤ◌, ◌⊎◌, Bool, ℕ, zero, suc, ℤ, List, [], Option, Some, append-nil, append_assoc, length, map, refl, subst, sym, ap, take, inl, inr, arith}
use Rattle.std.specs.List.{All, Contains, filter, slice_get}
use Rattle.std.specs.List.Sorted.{IsPermutation}
use Rattle.std.specs.Option.{option_map_or}
use Rattle.std.proofs.lemmas.Int.{ints}
use Rattle.std.proofs.lemmas.List.{length-map, length-take-le}
use Rattle.std.proofs.lemmas.List.Elements.{All-from_recursion}
use Rattle.std.proofs.lemmas.List.Sorted.{Contains-permutation, IsPermutation-map, IsPermutation-sym, IsPermutation-trans, length_permutation}
use Rattle.std.proofs.lemmas.Option.{slice_get_past, slice_get_within}
use Rattle.sqlite_trees.proofs.ListLemmas.{IsPermutation-filter, IsPermutation-same, all-filter, all-permutation, all_from_map, all_weaker, filter-map, map-map}
use Rattle.period_core.specs.Moments.{forever}
use Rattle.period_core.specs.Windows.{window_sees}
use Rattle.period_core.specs.declared.row.PeriodRow.{PeriodRow}
use Rattle.period_core.specs.declared.value.Value.{Value}
use Rattle.period_core.specs.declared.version.VersionRow.{VersionRow}
use Rattle.period_core.specs.declared.window.Window.TheVariants.{Now}
use Rattle.temporal_model.specs.Snapshot.{covers_day, values_on}
use Rattle.catalog_core.specs.create.Lawful.{IsLawful}
use Rattle.catalog_core.specs.table.TableWords.{table_of}
use Rattle.catalog_core.specs.declared.change.Change.{Change}
use Rattle.catalog_core.specs.declared.table.Reference.{Reference}
use Rattle.catalog_core.specs.declared.table.TableDef.{TableDef}
use Rattle.version_tables.specs.Good.{AreMoments, IsClock}
use Rattle.version_store.specs.Contents.{Contents, TableVersion, of_table, version_in}
use Rattle.version_store.specs.GoodStore.{AreLawful}
use Rattle.version_store.specs.Scans.{seen_of}
use Rattle.history_model.specs.Histories.{Changed, History, IsInOrder, State, catalog_of, last_state, with_event}
use Rattle.history_model.specs.Versions.{IsRecorded, current, last_moment, row_of}
use Rattle.history_model.proofs.HistoryLemmas.{state_at-changed_later}
use Rattle.history_model.proofs.HistoryVersionFacts.{left_hold}
use Rattle.history_model.proofs.VersionFacts.{current_hold}
use Rattle.period_keys.specs.Current.{HoldCurrent, ReferToEarlier}
use Rattle.period_keys.specs.Days.{LacksParent, ShareKey}
use Rattle.period_keys.specs.Keys.{values_at}
use Rattle.period_keys.specs.Lawful.{IsLawfulChange, IsLawfulState, LacksParentBy, key_positions, own_positions, parent_positions, state_after}
use Rattle.period_keys.specs.Rows.{RowsByKey}
use Rattle.period_keys.proofs.LawfulFacts.{stays_lawful}
use Rattle.period_keys.proofs.Earlier.{earlier_parent, refer_to_earlier}
use Rattle.period_keys.proofs.Pairs.{SomePair-permutation}
use Rattle.period_keys.proofs.TableLists.{more_cases}
use Rattle.script_engine.specs.engine.Faults.{current_state}
use Rattle.script_engine.specs.engine.InMemory.{AreCurrentOf, HaveCurrentRows, keys_in, rows_in}
use Rattle.script_engine.specs.engine.Stored.{HoldsTable}
use Rattle.script_engine.proofs.InMemory.{some_rows}
use Rattle.script_engine.proofs.PlanFacts.{current_listed}
use Rattle.script_engine.proofs.Recorded.{AreRecorded}
use Rattle.version_tables.specs.declared.form.Form.TheVariants.{Microseconds}

-- ---- recorded versions

-- versions of a store are recorded up to its clock, as version rows too
pub recorded_rows : (c : Contents) (table : ℕ) (rows : List VersionRow) → AreRecorded c → IsPermutation (of_table table c.versions) (map (version_in table) rows) → All (IsRecorded c.clock) rows
recorded_rows c table rows recorded all =
    let moments = λ (v : TableVersion). AreMoments Microseconds c.clock v.from v.to in
    All-from_recursion (IsRecorded c.clock) rows
    (all_weaker (λ (v : VersionRow). AreMoments Microseconds c.clock v.from v.to) (IsRecorded c.clock) (λ v is. record { lasts = is.rise; begun = is.past.0; ended = turned is.past.1 }) rows
    (all_from_map moments (version_in table) rows
    (all-permutation moments (of_table table c.versions) (map (version_in table) rows) all
    (all-filter moments (λ (v : TableVersion). v.table == table) c.versions recorded))))
  where
    turned : {A B : Type 0} → A ⊎ B → B ⊎ A
    turned (inl a) = inr a
    turned (inr b) = inl b

-- ---- the current versions hold the last state

abbrev holds_on : ℤ → PeriodRow → Bool
holds_on day row = covers_day row.period.start row.period.end day

abbrev version_holds : ℤ → TableVersion → Bool
version_holds day v = covers_day v.start v.end day

-- equal rows in another order hold equal values on each day
pub values_along : (rows others : List PeriodRow) (day : ℤ) → IsPermutation rows others → IsPermutation (values_on rows day) (values_on others day)
values_along rows others day same =
    IsPermutation-map (λ (r : PeriodRow). r.values) (filter (holds_on day) rows) (filter (holds_on day) others) (IsPermutation-filter (holds_on day) rows others same)

-- the versions that a history leaves of a table, as the contents have them
pub record IsLeft (history : History) (c : Contents) : Type 0 where
  pub order : IsInOrder history
  pub versions : (table : ℕ) → HoldsTable history c.versions table
  pub is_clock : IsClock Microseconds c.clock
  pub recorded : AreRecorded c

-- the current rows hold on each day what the last state has
pub held_last : (history : History) (c : Contents) (table : ℕ) (rows : List VersionRow) (day : ℤ) → IsLeft history c → AreCurrentOf c table rows →
    IsPermutation (values_on (map row_of rows) day) (last_state history table day)
held_last history c table rows day said are =
    let holds = said.versions table in
    let before : c.clock <ℤ forever = said.is_clock.1 in
    let late : c.clock ≤ℤ last_moment = omega (arith, ints) in
    let last : last_moment <ℤ forever = omega (arith, ints) in
    let ours : List PeriodRow = map row_of rows in
    let its : List PeriodRow = map row_of (current holds.rows) in
    IsPermutation-trans (values_on ours day) (values_on its day) (last_state history table day)
    (values_along ours its day (IsPermutation-map row_of rows (current holds.rows) (IsPermutation-sym (current holds.rows) rows (current_listed table c.versions holds.rows rows holds.all are))))
    (subst (λ (l : List (List Value)). IsPermutation l (last_state history table day))
    (current_hold c.clock last_moment day late last holds.rows (recorded_rows c table holds.rows said.recorded holds.all))
    (left_hold history table holds.rows said.order holds.left last_moment day last))

-- versions of a table hold what their rows hold
values_same : (table : ℕ) (rows : List VersionRow) (day : ℤ) → map (λ (v : TableVersion). v.values) (filter (version_holds day) (map (version_in table) rows)) ≡ values_on (map row_of rows) day
values_same table rows day =
    let ours : List VersionRow = filter (λ (v : VersionRow). covers_day v.period.start v.period.end day) rows in
    ap (map (λ (v : TableVersion). v.values)) (filter-map (version_holds day) (version_in table) rows)
    ∙ map-map (λ (v : TableVersion). v.values) (version_in table) ours
    ∙ sym (ap (map (λ (r : PeriodRow). r.values)) (filter-map (holds_on day) row_of rows) ∙ map-map (λ (r : PeriodRow). r.values) row_of ours)

-- the state of the contents is held by the rows that are current
pub held_now : (c : Contents) (table : ℕ) (rows : List VersionRow) (day : ℤ) → AreCurrentOf c table rows → IsPermutation (current_state c table day) (values_on (map row_of rows) day)
held_now c table rows day are =
    let seen : List TableVersion = seen_of table Now c.versions in
    let its : List TableVersion = map (version_in table) rows in
    subst (IsPermutation (current_state c table day)) (values_same table rows day)
    (IsPermutation-map (λ (v : TableVersion). v.values) (filter (version_holds day) seen) (filter (version_holds day) its) (IsPermutation-filter (version_holds day) seen its are))

-- the rows that are current among those that the history leaves
current_of : (history : History) (c : Contents) (table : ℕ) (holds : HoldsTable history c.versions table) → AreCurrentOf c table (current holds.rows)
current_of history c table holds =
    let sees : TableVersion → Bool = λ v. window_sees Now v.from v.to in
    subst (IsPermutation (seen_of table Now c.versions)) (filter-map sees (version_in table) holds.rows)
    (IsPermutation-filter sees (of_table table c.versions) (map (version_in table) holds.rows) holds.all)

-- the state of the contents is the last one
pub state_said : (history : History) (c : Contents) (table : ℕ) (day : ℤ) → IsLeft history c → IsPermutation (current_state c table day) (last_state history table day)
state_said history c table day said =
    let holds = said.versions table in
    let rows : List VersionRow = current holds.rows in
    let are : AreCurrentOf c table rows = current_of history c table holds in
    IsPermutation-trans (current_state c table day) (values_on (map row_of rows) day) (last_state history table day) (held_now c table rows day are) (held_last history c table rows day said are)

-- ---- lawful states

-- a child that lacks its parent does so in any order of the rows
lacking_along : (own : List ℕ) (children others : List (List Value)) (keys : List ℕ) (parents more : List (List Value)) → IsPermutation children others → IsPermutation more parents →
    LacksParent own children keys parents → LacksParent own others keys more
lacking_along own children others keys parents more moved back (child, there, alone) =
    (child, Contains-permutation children others child moved there, λ parent in_more same. alone parent (Contains-permutation more parents parent back in_more) same)

-- a state is lawful by its rows in any order
pub lawful_along : (catalog : List TableDef) (state other : State) → ((table : ℕ) (day : ℤ) → IsPermutation (state table day) (other table day)) → IsLawfulState catalog state → IsLawfulState catalog other
lawful_along catalog state other same lawful = record {
  keys = λ table def is day shared.
      let Same : List Value → List Value → Type 0 = λ v w. values_at (key_positions def) v ≡ values_at (key_positions def) w in
      lawful.keys table def is day
      (SomePair-permutation Same (λ v w e. sym e) (other table day) (state table day) (IsPermutation-sym (state table day) (other table day) (same table day)) shared);
  references = λ day (number, child, reference, parent, refers, lacks).
      lawful.references day (
        number,
        child,
        reference,
        parent,
        refers,
        lacking_along (own_positions child reference) (other number day) (state number day) (parent_positions parent reference) (other reference.parent day) (state reference.parent day)
            (IsPermutation-sym (state number day) (other number day) (same number day)) (same reference.parent day) lacks,
      );
}

-- no two of no rows share a key, and none lacks its parent
pub no_pair : (positions : List ℕ) (rows : List (List Value)) → rows ≡ [] → ShareKey positions rows → ⊥
no_pair positions rows none (i, j, below, inside, same) = let nothing : length rows ≡ 0 = ap length none in omega (arith, below, inside, nothing)

pub no_child : (own : List ℕ) (children : List (List Value)) (keys : List ℕ) (parents : List (List Value)) → children ≡ [] → LacksParent own children keys parents → ⊥
no_child own children keys parents none (child, there, alone) =
    let nothing : length children ≡ 0 = ap length none in
    let inside = there.1 in
    omega (arith, inside, nothing)

-- a state without rows is lawful
pub lawful_empty : (catalog : List TableDef) (state : State) → ((table : ℕ) (day : ℤ) → state table day ≡ []) → IsLawfulState catalog state
lawful_empty catalog state none = record {
  keys = λ table def is day shared. no_pair (key_positions def) (state table day) (none table day) shared;
  references = λ day (number, child, reference, parent, refers, lacks). no_child (own_positions child reference) (state number day) (parent_positions parent reference) (state reference.parent day) (none number day) lacks;
}

-- ---- catalogs

-- each definition is one that CREATE gives over those before it
pub each_lawful : (before more : List TableDef) (place : ℕ) (d : TableDef) → AreLawful before more → slice_get more place ≡ Some d → IsLawful (before ++ take place more) d
each_lawful before [] place d lawful is = cc
each_lawful before (x ∷ more) zero d lawful is =
    let same : x ≡ d = cc in
    subst (λ (tables : List TableDef). IsLawful tables d) (sym (append-nil before)) (subst (IsLawful before) same lawful.0)
each_lawful before (x ∷ more) (suc place) d lawful is =
    subst (λ (tables : List TableDef). IsLawful tables d) (append_assoc before (x ∷ []) (take place more)) (each_lawful (before ++ x ∷ []) more place d lawful.1 is)

pub earlier_of : (catalog : List TableDef) → AreLawful [] catalog → ReferToEarlier catalog
earlier_of catalog lawful = refer_to_earlier catalog (λ place d is. each_lawful [] catalog place d lawful is)

-- a table refers to tables before it
parents_before : (catalog : List TableDef) (place : ℕ) (child : TableDef) (reference : Reference) → AreLawful [] catalog → slice_get catalog place ≡ Some child → Contains child.references reference → reference.parent ≤ place
parents_before catalog place child reference lawful is there =
    let inside : place < length catalog = slice_get_within catalog place child is in
    let before : reference.parent ≤ length (take place catalog) = earlier_parent (take place catalog) child reference (each_lawful [] catalog place child lawful is) there in
    let size : length (take place catalog) ≡ place = length-take-le place catalog (omega (arith, inside)) in
    omega (arith, before, size)

-- lawful definitions, and one more
pub lawful_more : (before catalog : List TableDef) (d : TableDef) → AreLawful before catalog → IsLawful (before ++ catalog) d → AreLawful before (catalog ++ d ∷ [])
lawful_more before [] d lawful is = (subst (λ (tables : List TableDef). IsLawful tables d) (append-nil before) is, tt)
lawful_more before (x ∷ catalog) d lawful is =
    (lawful.0, lawful_more (before ++ x ∷ []) catalog d lawful.1 (subst (λ (tables : List TableDef). IsLawful tables d) (sym (append_assoc before (x ∷ []) catalog)) is))

-- lawful definitions, without the last
pub lawful_less : (before catalog : List TableDef) (d : TableDef) → AreLawful before (catalog ++ d ∷ []) → AreLawful before catalog
lawful_less before [] d lawful = tt
lawful_less before (x ∷ catalog) d lawful = (lawful.0, lawful_less (before ++ x ∷ []) catalog d lawful.1)

-- ---- one more event

-- a table more, that has no rows yet
pub lawful_with_table : (catalog : List TableDef) (d : TableDef) (state : State) → AreLawful [] catalog → ((day : ℤ) → state (suc (length catalog)) day ≡ []) → IsLawfulState catalog state → IsLawfulState (catalog ++ d ∷ []) state
lawful_with_table catalog d state ordered none lawful = record {
  keys = keys;
  references = λ day (number, child, reference, parent, refers, lacks). by_child day number child reference parent refers.is_child refers.is_reference refers.is_parent lacks;
} where
  keys : (table : ℕ) (def : TableDef) → table_of (catalog ++ d ∷ []) table ≡ Some def → (day : ℤ) → ShareKey (key_positions def) (state table day) → ⊥
  keys zero def is day shared = cc
  keys (suc place) def is day shared =
      elim (more_cases catalog d def place is) [
        | inl first ↦ lawful.keys (suc place) def first day shared
        | inr (last, same) ↦ no_pair (key_positions def) (state (suc place) day) (ap (λ (n : ℕ). state (suc n) day) last ∙ none day) shared
      ]

  by_parent : (day : ℤ) (place : ℕ) (child : TableDef) (reference : Reference) (parent : TableDef) (number : ℕ) → number ≡ reference.parent → slice_get catalog place ≡ Some child → Contains child.references reference
      → table_of (catalog ++ d ∷ []) number ≡ Some parent → LacksParentBy state (suc place) child reference parent day → ⊥
  by_parent day place child reference parent zero same child_is there parent_is lacks = cc
  by_parent day place child reference parent (suc above) same child_is there parent_is lacks =
      let inside : place < length catalog = slice_get_within catalog place child child_is in
      let early : reference.parent ≤ place = parents_before catalog place child reference ordered child_is there in
      elim (more_cases catalog d parent above parent_is) [
        | inl first ↦
            lawful.references day (
              suc place,
              child,
              reference,
              parent,
              record { is_child = child_is; is_reference = there; is_parent = subst (λ (n : ℕ). table_of catalog n ≡ Some parent) same first },
              lacks,
            )
        | inr (last, is) ↦ omega (arith, inside, early, same, last)
      ]

  by_child : (day : ℤ) (number : ℕ) (child : TableDef) (reference : Reference) (parent : TableDef) → table_of (catalog ++ d ∷ []) number ≡ Some child → Contains child.references reference
      → table_of (catalog ++ d ∷ []) reference.parent ≡ Some parent → LacksParentBy state number child reference parent day → ⊥
  by_child day zero child reference parent is there parent_is lacks = cc
  by_child day (suc place) child reference parent is there parent_is lacks =
      elim (more_cases catalog d child place is) [
        | inl first ↦ by_parent day place child reference parent reference.parent refl first there parent_is lacks
        | inr (last, same) ↦
            no_child (own_positions child reference) (state (suc place) day) (parent_positions parent reference) (state reference.parent day) (ap (λ (n : ℕ). state (suc n) day) last ∙ none day) lacks
      ]

-- states with equal rows on each day
pub lawful_same : (catalog : List TableDef) (state other : State) → ((table : ℕ) (day : ℤ) → other table day ≡ state table day) → IsLawfulState catalog state → IsLawfulState catalog other
lawful_same catalog state other same lawful = lawful_along catalog state other (λ table day. IsPermutation-same (state table day) (other table day) (sym (same table day))) lawful

-- a lawful change leaves a lawful state
pub lawful_changed : (history : History) (clock : ℤ) (change : Change) → clock <ℤ forever → IsLawfulState (catalog_of history) (last_state history) → IsLawfulChange (catalog_of history) (last_state history) change →
    IsLawfulState (catalog_of history) (last_state (with_event history (Changed clock change)))
lawful_changed history clock change before lawful allowed =
    let late : clock ≤ℤ last_moment = omega (arith, ints) in
    lawful_same (catalog_of history) (state_after change (last_state history)) (last_state (with_event history (Changed clock change)))
    (λ table day. state_at-changed_later history clock change last_moment table day late)
    (stays_lawful (catalog_of history) (last_state history) change lawful allowed)

-- ---- the rows in memory

-- the rows in memory hold what the contents hold now
pub hold_now : (c : Contents) (tables : List RowsByKey) → HaveCurrentRows c tables → (state : State) → ((table : ℕ) (day : ℤ) → IsPermutation (current_state c table day) (state table day)) → HoldCurrent c.tables state tables
hold_now c tables have state same number def is =
    let (table, there, keyed) = its_table c tables number def have.keys is in (
      table,
      there,
      record {
        keyed = keyed;
        holds = λ day.
            let rows : List VersionRow = rows_in tables number in
            let are : rows ≡ table.rows = some_rows tables number table there in
            subst (λ (l : List VersionRow). IsPermutation (values_on (map row_of l) day) (state number day)) are
            (IsPermutation-trans (values_on (map row_of rows) day) (current_state c number day) (state number day)
            (IsPermutation-sym (current_state c number day) (values_on (map row_of rows) day) (held_now c number rows day (have.rows number))) (same number day));
      },
    )
  where
    by_place : (ts : List RowsByKey) (ds : List TableDef) (place : ℕ) (def : TableDef) → keys_in ts ≡ map key_positions ds → slice_get ds place ≡ Some def
        → (t : RowsByKey) × (slice_get ts place ≡ Some t) × (t.positions ≡ key_positions def)
    by_place ts [] place def keys is = cc
    by_place [] (d ∷ ds) place def keys is = absurd cc
    by_place (t ∷ ts) (d ∷ ds) zero def keys is =
        let same : d ≡ def = cc in
        let first : t.positions ≡ key_positions d = cc in
        (t, refl, first ∙ ap key_positions same)
    by_place (t ∷ ts) (d ∷ ds) (suc place) def keys is =
        let more : keys_in ts ≡ map key_positions ds = cc in
        by_place ts ds place def more is

    its_table : (c : Contents) (tables : List RowsByKey) (number : ℕ) (def : TableDef) → keys_in tables ≡ map key_positions c.tables → table_of c.tables number ≡ Some def
        → (t : RowsByKey) × (table_of tables number ≡ Some t) × (t.positions ≡ key_positions def)
    its_table c tables zero def keys is = cc
    its_table c tables (suc place) def keys is = by_place tables c.tables place def keys is

-- the table that comes next has no rows
pub nothing_beyond : (c : Contents) (tables : List RowsByKey) → HaveCurrentRows c tables → (state : State) → ((table : ℕ) (day : ℤ) → IsPermutation (current_state c table day) (state table day)) →
    (day : ℤ) → state (suc (length c.tables)) day ≡ []
nothing_beyond c tables have state same day =
    let next : ℕ = suc (length c.tables) in
    let long : length tables ≡ length c.tables = sym (length-map tables its_key) ∙ ap length have.keys ∙ length-map c.tables key_positions in
    let none : rows_in tables next ≡ [] = ap (λ (o : Option RowsByKey). option_map_or its_rows o []) (slice_get_past tables (length c.tables) (omega (arith, long))) in
    let held : IsPermutation (current_state c next day) [] = subst (λ (l : List VersionRow). IsPermutation (current_state c next day) (values_on (map row_of l) day)) none (held_now c next (rows_in tables next) day (have.rows next)) in
    without (state next day)
    (IsPermutation-trans (state next day) (current_state c next day) [] (IsPermutation-sym (current_state c next day) (state next day) (same next day)) held)
  where
    its_key : RowsByKey → List ℕ
    its_key t = t.positions

    its_rows : RowsByKey → List VersionRow
    its_rows t = t.rows

    without : (rows : List (List Value)) → IsPermutation rows [] → rows ≡ []
    without [] same = refl
    without (row ∷ rows) same = let size : 0 ≡ length (row ∷ rows) = length_permutation (row ∷ rows) [] same in absurd (omega (arith, size))

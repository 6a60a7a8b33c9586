-- After the plan of a lawful change no two versions have one key.
use Rattle.std.proofs.Common.{◌≡◌, ◌&&◌, ◌==◌, ◌++◌, ◌∷◌, ◌∙◌, ◌<ℤ◌, ℕ, ℤ, Bool, true, false, cond, List, [], Some, map, nat_eq, refl, sym, ap, subst, inl, inr, arith}
use Rattle.std.specs.Cmp.{Equal-is}
use Rattle.std.specs.FinMap.{int_cmp-IsAntisymmetric}
use Rattle.std.specs.List.{AllByRecursion, filter, flat_map}
use Rattle.std.specs.Ordering.{int_cmp, int_eq, is_eq}
use Rattle.std.proofs.lemmas.Bool.{and_parts, false≢true}
use Rattle.std.proofs.lemmas.Bool.Decides.{nat_tests}
use Rattle.std.proofs.lemmas.Int.{ints}
use Rattle.std.proofs.lemmas.List.Elements.{filter-append}
use Rattle.std.proofs.lemmas.List.Sorted.{IsPermutation-sym}
use Rattle.sqlite_trees.proofs.ListLemmas.{all-append, all-flat_map, all-map, all_of, all_weaker, ascending-append, ascending-map, ascending_from_map, ascending_weaker, filter_all}
use Rattle.sqlite.specs.Tree.{IsAscending}
use Rattle.period_core.specs.Moments.{forever}
use Rattle.period_core.specs.Order.{values_cmp}
use Rattle.period_core.specs.OrderLaws.{values_cmp-same}
use Rattle.period_core.specs.Windows.{window_sees}
use Rattle.period_core.specs.declared.row.PeriodRow.{PeriodRow}
use Rattle.period_core.specs.declared.value.Value.{Value}
use Rattle.period_core.specs.declared.version.VersionRow.{VersionRow}
use Rattle.period_core.specs.declared.window.Window.TheVariants.{Now}
use Rattle.temporal_model.proofs.Members.{Contains-here, Contains-there}
use Rattle.temporal_model.specs.Snapshot.{values_on}
use Rattle.catalog_core.specs.table.TableWords.{table_of}
use Rattle.catalog_core.specs.declared.change.Change.{Change}
use Rattle.catalog_core.specs.declared.change.Plan.{Plan}
use Rattle.catalog_core.specs.declared.table.TableDef.{TableDef}
use Rattle.history_model.specs.Histories.{Changed, History, catalog_of, last_state, with_event}
use Rattle.history_model.specs.Versions.{row_of}
use Rattle.period_keys.specs.Keys.{HasNoClash, ShareKeyOn, values_at}
use Rattle.period_keys.specs.Lawful.{IsLawfulChange, key_positions}
use Rattle.period_keys.specs.Versions.{begun}
use Rattle.period_keys.proofs.ByDays.{clashes_of_days}
use Rattle.period_keys.proofs.Pairs.{SomeCross, SomePair-cross, SomePair-permutation, SomePair-right}
use Rattle.version_tables.specs.Good.{AreMoments}
use Rattle.version_tables.specs.declared.form.Form.TheVariants.{Microseconds}
use Rattle.version_store.specs.Changed.{is_ended, remains_of, planned}
use Rattle.version_store.specs.Contents.{Contents, TableVersion, added_in, of_table, same_version, version_in}
use Rattle.version_store.specs.DistinctKeys.{HaveDistinctKeys}
use Rattle.version_store.specs.Scans.{seen_of}
use Rattle.script_engine.specs.engine.InMemory.{AreCurrentOf}
use Rattle.script_engine.specs.engine.Stored.{AreOfHistory}
use Rattle.script_engine.proofs.Contents.{IsOver, added_there, holds_after}
use Rattle.script_engine.proofs.CurrentAfter.{current_planned, staying}
use Rattle.script_engine.proofs.Ended.{left_recorded, recorded_now}
use Rattle.script_engine.proofs.KeyFacts.{all_of_second, distinct_along, int_same}
use Rattle.script_engine.proofs.LastState.{IsLeft, held_last, lawful_changed}
use Rattle.script_engine.proofs.LeftSteps.{order-event}
use Rattle.script_engine.proofs.Recorded.{recorded_of}

-- ---- rows of which no two clash

-- two rows differ in their values or in their first day
abbrev Differ : PeriodRow → PeriodRow → Type 0
Differ a b = a.values ≡ b.values → a.period.start ≡ b.period.start → ⊥

-- rows of which no two clash on any day differ in their keys or days
all_differ : (key : List ℕ) (rows : List PeriodRow) → HasNoClash key rows → IsAscending Differ rows
all_differ key [] none = tt
all_differ key (row ∷ rows) none = (
  from_first rows (λ day crossing. none day (SomePair-cross (ShareKeyOn key day) (row ∷ []) rows crossing)),
  all_differ key rows (λ day clash. none day (SomePair-right (ShareKeyOn key day) (row ∷ []) rows clash)),
) where
  from_first : (others : List PeriodRow) → ((day : ℤ) → SomeCross (ShareKeyOn key day) (row ∷ []) others → ⊥) → AllByRecursion (Differ row) others
  from_first [] never = tt
  from_first (other ∷ others) never =
      let ordered = row.period.ordered in
      let after = other.period.ordered in (
        λ values start.
            never row.period.start (
              row,
              other,
              Contains-here row [],
              Contains-here other others,
              (ap (values_at key) values, ((omega (arith, ints), ordered), (omega (arith, ints, start), omega (arith, ints, start, after)))),
            ),
        from_first others (λ day (a, b, in_a, in_b, pair). never day (a, b, in_a, Contains-there other others b in_b, pair)),
      )

same_int : (a b : ℤ) → is_eq (int_cmp a b) ≡ true → a ≡ b
same_int a b e = int_cmp-IsAntisymmetric a b ((Equal-is (int_cmp a b)).0 e)

same_values : (a b : List Value) → is_eq (values_cmp a b) ≡ true → a ≡ b
same_values a b e = values_cmp-same a b ((Equal-is (values_cmp a b)).0 e)

otherwise : (b : Bool) → (b ≡ true → ⊥) → b ≡ false
otherwise true never = absurd (never refl)
otherwise false never = refl

-- versions of two rows that differ have two keys
keys_differ : (table : ℕ) (a b : VersionRow) → Differ (row_of a) (row_of b) → same_version (version_in table a) (version_in table b) ≡ false
keys_differ table a b differ =
    otherwise (same_version (version_in table a) (version_in table b)) (λ same.
    let times : Bool = is_eq (int_cmp b.period.start a.period.start) && is_eq (int_cmp b.from a.from) in
    let behind = (and_parts (table == table) (is_eq (values_cmp b.values a.values) && times) same).1 in
    let parts = and_parts (is_eq (values_cmp b.values a.values)) times behind in
    let start = (and_parts (is_eq (int_cmp b.period.start a.period.start)) (is_eq (int_cmp b.from a.from)) parts.1).0 in
    differ (sym (same_values b.values a.values parts.0)) (sym (same_int b.period.start a.period.start start)))

-- ---- the remains of versions

module _ (table : ℕ) (moment : ℤ) (ended : List VersionRow) where
  -- the rest of a version with one key has not the key of a version with another
  kept_apart : (v w : TableVersion) → same_version v w ≡ false → AllByRecursion (λ (u : TableVersion). same_version v u ≡ false) (remains_of table moment ended w)
  kept_apart v w differ = go (is_ended table ended w) (is_eq (int_cmp w.from moment))
    where
      go : (b e : Bool) → AllByRecursion (λ (u : TableVersion). same_version v u ≡ false) (cond b (cond e [] (record w { to = moment } ∷ [])) (w ∷ []))
      go true true = tt
      go true false = (differ, tt)
      go false e = (differ, tt)

  all_kept_apart : (v : TableVersion) (vs : List TableVersion) → AllByRecursion (λ (w : TableVersion). same_version v w ≡ false) vs → AllByRecursion (λ (w : TableVersion). same_version v w ≡ false) (flat_map (remains_of table moment ended) vs)
  all_kept_apart v vs differ =
      all-flat_map (λ (u : TableVersion). same_version v u ≡ false) (remains_of table moment ended) vs
      (all_weaker (λ (w : TableVersion). same_version v w ≡ false) (λ (w : TableVersion). AllByRecursion (λ (u : TableVersion). same_version v u ≡ false) (remains_of table moment ended w)) (kept_apart v) vs differ)

  distinct_left : (vs : List TableVersion) → HaveDistinctKeys vs → HaveDistinctKeys (flat_map (remains_of table moment ended) vs)
  distinct_left [] apart = tt
  distinct_left (v ∷ vs) apart =
      ascending-append (λ (a b : TableVersion). same_version a b ≡ false) (remains_of table moment ended v) more (one (is_ended table ended v) (is_eq (int_cmp v.from moment))) (distinct_left vs apart.1)
      (across (is_ended table ended v) (is_eq (int_cmp v.from moment)))
    where
      more : List TableVersion
      more = flat_map (remains_of table moment ended) vs

      one : (b e : Bool) → HaveDistinctKeys (cond b (cond e [] (record v { to = moment } ∷ [])) (v ∷ []))
      one true true = tt
      one true false = (tt, tt)
      one false e = (tt, tt)

      across : (b e : Bool) → AllByRecursion (λ (a : TableVersion). AllByRecursion (λ (w : TableVersion). same_version a w ≡ false) more) (cond b (cond e [] (record v { to = moment } ∷ [])) (v ∷ []))
      across true true = tt
      across true false = (all_kept_apart v vs apart.0, tt)
      across false e = (all_kept_apart v vs apart.0, tt)

-- ---- current versions and those that are added

-- the version is a current one
abbrev is_open : TableVersion → Bool
is_open v = window_sees Now v.from v.to

abbrev AreApartFrom : TableVersion → List TableVersion → Type 0
AreApartFrom v = AllByRecursion (λ (w : TableVersion). same_version v w ≡ false)

last_false : (a b c d : Bool) → d ≡ false → (a && (b && (c && d))) ≡ false
last_false true true true d e = e
last_false true true false d e = refl
last_false true false c d e = refl
last_false false b c d e = refl

-- the first version of a table is a current one, or it is not
first_seen : (table : ℕ) (v : TableVersion) (vs : List TableVersion) → HaveDistinctKeys (seen_of table Now (v ∷ vs)) →
    HaveDistinctKeys (seen_of table Now vs) × ((v.table == table) ≡ true → is_open v ≡ true → AreApartFrom v (seen_of table Now vs))
first_seen table v vs apart = by_table (v.table == table) apart
  where
    its : List TableVersion
    its = of_table table vs

    by_end : (e : Bool) → HaveDistinctKeys (cond e (v ∷ filter is_open its) (filter is_open its)) → HaveDistinctKeys (filter is_open its) × (e ≡ true → AreApartFrom v (filter is_open its))
    by_end true h = (h.1, λ same. h.0)
    by_end false h = (h, λ e. absurd (false≢true e))

    by_table : (b : Bool) → HaveDistinctKeys (filter is_open (cond b (v ∷ its) its)) → HaveDistinctKeys (filter is_open its) × (b ≡ true → is_open v ≡ true → AreApartFrom v (filter is_open its))
    by_table true h = let found = by_end (is_open v) h in (found.0, λ same. found.1)
    by_table false h = (h, λ e. absurd (false≢true e))

module _ (table : ℕ) (clock : ℤ) (rows : List PeriodRow) where
  -- the rows as they are added
  abbrev begins : List TableVersion
  begins = map (added_in table clock forever) rows

  -- added versions are current ones of the table
  all_seen : seen_of table Now begins ≡ begins
  all_seen =
      let same : (table == table) ≡ true = grind (arith, nat_tests) in
      ap (filter is_open) (added_there table table clock rows same)
      ∙ filter_all is_open begins (all-map (λ (v : TableVersion). is_open v ≡ true) (added_in table clock forever) rows (all_of (λ (r : PeriodRow). is_open (added_in table clock forever r) ≡ true) (λ r. int_same forever) rows))

  seen_before : (vs : List TableVersion) → seen_of table Now (vs ++ begins) ≡ seen_of table Now vs ++ begins
  seen_before vs =
      ap (filter is_open) (filter-append (λ (v : TableVersion). v.table == table) vs begins)
      ∙ filter-append is_open (of_table table vs) (of_table table begins)
      ∙ ap (λ (l : List TableVersion). seen_of table Now vs ++ l) all_seen

  -- a version of another table, or one that ended, has another key
  apart_by : (v : TableVersion) → ((r : PeriodRow) → same_version v (added_in table clock forever r) ≡ false) → AreApartFrom v begins
  apart_by v differ = all-map (λ (w : TableVersion). same_version v w ≡ false) (added_in table clock forever) rows (all_of (λ (r : PeriodRow). same_version v (added_in table clock forever r) ≡ false) differ rows)

  other_table : (v : TableVersion) → (v.table == table) ≡ false → (r : PeriodRow) → same_version v (added_in table clock forever r) ≡ false
  other_table v off r =
      let turned : (table == v.table) ≡ false = grind (arith, nat_tests, off) in
      ap (λ (b : Bool). b && (is_eq (values_cmp r.values v.values) && (is_eq (int_cmp r.period.start v.start) && is_eq (int_cmp clock v.from)))) turned

  ended_before : (v : TableVersion) → AreMoments Microseconds clock v.from v.to → is_open v ≡ false → (r : PeriodRow) → same_version v (added_in table clock forever r) ≡ false
  ended_before v is off r =
      last_false (table == v.table) (is_eq (values_cmp r.values v.values)) (is_eq (int_cmp r.period.start v.start)) (is_eq (int_cmp clock v.from))
      (otherwise (is_eq (int_cmp clock v.from)) (λ same.
      let now : clock ≡ v.from = same_int clock v.from same in
      let rise : v.from <ℤ v.to = is.rise in
      elim is.past.1 [
        | inl ended ↦ omega (arith, ints, now, rise, ended)
        | inr never ↦ absurd (false≢true (sym off ∙ ap (λ (m : ℤ). int_eq m forever) never ∙ int_same forever))
      ]))

  -- versions of distinct keys, together with added ones, have distinct keys if the current ones do
  joined : (vs : List TableVersion) → HaveDistinctKeys vs → AllByRecursion (λ (v : TableVersion). AreMoments Microseconds clock v.from v.to) vs → HaveDistinctKeys (seen_of table Now (vs ++ begins)) → HaveDistinctKeys (vs ++ begins)
  joined [] apart recorded shown = subst HaveDistinctKeys all_seen shown
  joined (v ∷ vs) apart recorded shown =
      let found = first_seen table v (vs ++ begins) shown in
      (all-append (λ (w : TableVersion). same_version v w ≡ false) vs begins apart.0 (across (v.table == table) (is_open v) refl refl found.1), joined vs apart.1 recorded.1 found.0)
    where
      across : (b e : Bool) → (v.table == table) ≡ b → is_open v ≡ e → ((v.table == table) ≡ true → is_open v ≡ true → AreApartFrom v (seen_of table Now (vs ++ begins))) → AreApartFrom v begins
      across false e off is differ = apart_by v (other_table v off)
      across true false there off differ = apart_by v (ended_before v recorded.0 off)
      across true true there is differ =
          all_of_second (λ (w : TableVersion). same_version v w ≡ false) (seen_of table Now vs) begins (subst (AreApartFrom v) (seen_before vs) (differ there is))

-- ---- a lawful change

module _ (history : History) (c : Contents) (change : Change) (plan : Plan) (said : AreOfHistory history c) (over : IsOver (said.versions change.table).rows change.action plan) (apart : HaveDistinctKeys c.versions) where
  abbrev after : Contents
  after = planned change.table c.clock plan.ended plan.added c

  abbrev left : List TableVersion
  left = flat_map (remains_of change.table c.clock plan.ended) c.versions

  abbrev later : History
  later = with_event history (Changed c.clock change)

  -- the current rows of the table afterwards
  abbrev rows_now : List VersionRow
  rows_now = map (begun c.clock) plan.added ++ staying history c change plan said over

  recorded_left : AllByRecursion (λ (v : TableVersion). AreMoments Microseconds c.clock v.from v.to) left
  recorded_left =
      let By : TableVersion → Type 0 = λ v. AreMoments Microseconds c.clock v.from v.to in
      all-flat_map By (remains_of change.table c.clock plan.ended) c.versions
      (all_weaker By (λ (v : TableVersion). AllByRecursion By (remains_of change.table c.clock plan.ended v)) (left_recorded change.table c.clock plan.ended said.good.clock) c.versions (recorded_of c said.good))

  is_left_after : IsLeft later after
  is_left_after = record {
    order = order-event history (Changed c.clock change) said.order (said.clock, tt);
    versions = λ table. holds_after history c change plan said over apart table (said.versions table) (nat_eq table change.table) refl;
    is_clock = said.good.clock;
    recorded =
        (let By : TableVersion → Type 0 = λ v. AreMoments Microseconds c.clock v.from v.to in
        all-append By left (map (added_in change.table c.clock forever) plan.added) recorded_left
        (all-map By (added_in change.table c.clock forever) plan.added (all_of (λ (r : PeriodRow). By (added_in change.table c.clock forever r)) (λ r. recorded_now c.clock said.good.clock) plan.added)));
  }

  module _ (d : TableDef) (there : table_of (catalog_of history) change.table ≡ Some d) (allowed : IsLawfulChange (catalog_of history) (last_state history) change) where
    -- no two rows of the table clash
    no_clash : HasNoClash (key_positions d) (map row_of rows_now)
    no_clash day clash =
        let Same : List Value → List Value → Type 0 = λ v w. values_at (key_positions d) v ≡ values_at (key_positions d) w in
        let lawful = lawful_changed history c.clock change said.good.clock.1 said.lawful allowed in
        let are : AreCurrentOf after change.table rows_now = current_planned history c change plan said over apart in
        lawful.keys change.table d there day
        (SomePair-permutation Same (λ v w e. sym e) (values_on (map row_of rows_now) day) (last_state later change.table day) (held_last later after change.table rows_now day is_left_after are)
        ((clashes_of_days (key_positions d) (map row_of rows_now) day).0 clash))

    distinct_now : HaveDistinctKeys (seen_of change.table Now after.versions)
    distinct_now =
        let are : AreCurrentOf after change.table rows_now = current_planned history c change plan said over apart in
        let its : List TableVersion = map (version_in change.table) rows_now in
        distinct_along its (seen_of change.table Now after.versions) (IsPermutation-sym (seen_of change.table Now after.versions) its are)
        (ascending-map (λ (a b : TableVersion). same_version a b ≡ false) (version_in change.table) rows_now
        (ascending_weaker (λ (a b : VersionRow). Differ (row_of a) (row_of b)) (λ (a b : VersionRow). same_version (version_in change.table a) (version_in change.table b) ≡ false) (keys_differ change.table) rows_now
        (ascending_from_map Differ row_of rows_now (all_differ (key_positions d) (map row_of rows_now) no_clash))))

    -- no two versions have one key
    pub planned_distinct : HaveDistinctKeys after.versions
    planned_distinct = joined change.table c.clock plan.added left (distinct_left change.table c.clock plan.ended c.versions apart) recorded_left distinct_now

-- The versions of a store that a plan leaves.
use Rattle.std.proofs.Common.{◌≡◌, ◌∷◌, ◌++◌, ◌∙◌, ◌==◌, ◌≤ℤ◌, ◌<ℤ◌, ℕ, ℤ, Bool, true, false, cond, List, [], Some, map, refl, sym, ap, ap₂, inl, inr, arith}
use Rattle.std.specs.List.{All, AllByRecursion, filter, flat_map}
use Rattle.std.specs.Ordering.{int_cmp, int_eq, is_eq}
use Rattle.std.proofs.lemmas.Int.{by_lt_z, ints}
use Rattle.std.proofs.lemmas.List.{map-append}
use Rattle.std.proofs.lemmas.List.Elements.{All-head, All-tail, filter-append}
use Rattle.sqlite_trees.proofs.ListLemmas.{all-append, all-flat_map, all-map, all_both, all_weaker}
use Rattle.period_core.specs.Encoding.{IsColumnValue}
use Rattle.period_core.specs.Moments.{first_moment, forever}
use Rattle.period_core.specs.declared.row.PeriodRow.{PeriodRow}
use Rattle.period_core.specs.declared.version.VersionRow.{VersionRow}
use Rattle.catalog_core.specs.declared.table.TableDef.{TableDef}
use Rattle.catalog_core.specs.table.TableWords.{table_of}
use Rattle.version_tables.specs.Good.{AreMoments, IsClock}
use Rattle.version_store.specs.Changed.{closed_at, is_ended, remains_of, planned}
use Rattle.version_store.specs.Contents.{Contents, TableVersion, added_in, of_table, version_in}
use Rattle.history_model.specs.HistoryVersions.{closed_at as plain_closed}
use Rattle.history_model.specs.Versions.{PlainVersion, plain_version}
use Rattle.version_store.specs.GoodStore.{IsGoodVersion}
use Rattle.version_store.specs.RowValues.{are_row_values}
use Rattle.ended_versions.specs.Packed.{closed_row}
use Rattle.script_engine.proofs.KeyFacts.{int_same}
use Rattle.version_tables.specs.declared.form.Form.TheVariants.{Microseconds}

-- ---- by tables

-- the remains of the versions of a table are of that table
pub of_left : (table other : ℕ) (moment : ℤ) (ended : List VersionRow) (vs : List TableVersion) → of_table other (flat_map (remains_of table moment ended) vs) ≡ flat_map (remains_of table moment ended) (of_table other vs)
of_left table other moment ended [] = refl
of_left table other moment ended (v ∷ vs) =
    filter-append (λ (w : TableVersion). w.table == other) (remains_of table moment ended v) (flat_map (remains_of table moment ended) vs)
    ∙ ap₂ (λ (a b : List TableVersion). a ++ b) (one (is_ended table ended v) (is_eq (int_cmp v.from moment)) (v.table == other) refl) (of_left table other moment ended vs)
    ∙ joined (v.table == other)
  where
    one : (b e p : Bool) → (v.table == other) ≡ p → filter (λ (w : TableVersion). w.table == other) (cond b (cond e [] (record v { to = moment } ∷ [])) (v ∷ [])) ≡ cond p (cond b (cond e [] (record v { to = moment } ∷ [])) (v ∷ [])) []
    one true true true h = refl
    one true true false h = refl
    one true false true h = ap (λ t. cond t (record v { to = moment } ∷ []) []) h
    one true false false h = ap (λ t. cond t (record v { to = moment } ∷ []) []) h
    one false e true h = ap (λ t. cond t (v ∷ []) []) h
    one false e false h = ap (λ t. cond t (v ∷ []) []) h

    joined : (p : Bool) → cond p (remains_of table moment ended v) [] ++ flat_map (remains_of table moment ended) (of_table other vs) ≡ flat_map (remains_of table moment ended) (cond p (v ∷ of_table other vs) (of_table other vs))
    joined true = refl
    joined false = refl

-- ---- closed rows

-- a version row that is closed at a moment
pub closed_in : (table : ℕ) (moment : ℤ) (rows : List VersionRow) → flat_map (closed_at moment) (map (version_in table) rows) ≡ map (version_in table) (flat_map (closed_row moment) rows)
closed_in table moment [] = refl
closed_in table moment (v ∷ rows) =
    ap₂ (λ (a b : List TableVersion). a ++ b) (one (int_eq v.from moment)) (closed_in table moment rows)
    ∙ sym (map-append (version_in table) (closed_row moment v) (flat_map (closed_row moment) rows))
  where
    one : (b : Bool) → cond b [] (record (version_in table v) { to = moment } ∷ []) ≡ map (version_in table) (cond b [] (record v { to = moment } ∷ []))
    one true = refl
    one false = refl

pub closed_plain : (moment : ℤ) (rows : List VersionRow) → flat_map (plain_closed moment) (map plain_version rows) ≡ map plain_version (flat_map (closed_row moment) rows)
closed_plain moment [] = refl
closed_plain moment (v ∷ rows) =
    ap₂ (λ (a b : List PlainVersion). a ++ b) (one (int_eq v.from moment)) (closed_plain moment rows)
    ∙ sym (map-append plain_version (closed_row moment v) (flat_map (closed_row moment) rows))
  where
    one : (b : Bool) → cond b [] (record (plain_version v) { to = moment } ∷ []) ≡ map plain_version (cond b [] (record v { to = moment } ∷ []))
    one true = refl
    one false = refl

-- if each row is ended, each is closed; if none is, each stays
pub all_closed : (table : ℕ) (moment : ℤ) (ended rows : List VersionRow) → All (λ (v : VersionRow). is_ended table ended (version_in table v) ≡ true) rows →
    flat_map (remains_of table moment ended) (map (version_in table) rows) ≡ flat_map (closed_at moment) (map (version_in table) rows)
all_closed table moment ended [] h = refl
all_closed table moment ended (v ∷ rows) h =
    ap₂ (λ (a b : List TableVersion). a ++ b)
    (ap (λ (b : Bool). cond b (closed_at moment (version_in table v)) (version_in table v ∷ [])) (All-head (λ (v : VersionRow). is_ended table ended (version_in table v) ≡ true) v rows h))
    (all_closed table moment ended rows (All-tail (λ (v : VersionRow). is_ended table ended (version_in table v) ≡ true) v rows h))

pub none_closed : (table : ℕ) (moment : ℤ) (ended rows : List VersionRow) → AllByRecursion (λ (v : VersionRow). is_ended table ended (version_in table v) ≡ false) rows →
    flat_map (remains_of table moment ended) (map (version_in table) rows) ≡ map (version_in table) rows
none_closed table moment ended [] h = refl
none_closed table moment ended (v ∷ rows) h =
    ap₂ (λ (a b : List TableVersion). a ++ b)
    (ap (λ (b : Bool). cond b (closed_at moment (version_in table v)) (version_in table v ∷ [])) h.0)
    (none_closed table moment ended rows h.1)

-- ---- recorded versions

-- a version that is closed at the clock is recorded, unless it began then
closed_recorded : (clock : ℤ) → IsClock Microseconds clock → (v : TableVersion) → AreMoments Microseconds clock v.from v.to → (b : Bool) → int_eq v.from clock ≡ b → AllByRecursion (λ (w : TableVersion). AreMoments Microseconds clock w.from w.to) (cond b [] (record v { to = clock } ∷ []))
closed_recorded clock is v was true e = tt
closed_recorded clock is v was false e =
    let first : first_moment ≤ℤ clock = is.0 in
    let last : clock <ℤ forever = is.1 in
    let begun : v.from ≤ℤ clock = was.past.0 in
    let early : v.from <ℤ clock = by_lt_z {P = v.from <ℤ clock} v.from clock (λ lt. lt) (λ ge. same_moment (omega (arith, ints))) in (
      record { from_is = was.from_is; to_is = (first, omega (arith, ints)); rise = early; past = (begun, inl (omega (arith, ints))) },
      tt,
    )
  where
    same_moment : v.from ≡ clock → v.from <ℤ clock
    same_moment same = let there : int_eq v.from clock ≡ true = ap (int_eq v.from) (sym same) ∙ int_same v.from in absurd cc

pub left_recorded : (table : ℕ) (clock : ℤ) (ended : List VersionRow) → IsClock Microseconds clock → (v : TableVersion) → AreMoments Microseconds clock v.from v.to → AllByRecursion (λ (w : TableVersion). AreMoments Microseconds clock w.from w.to) (remains_of table clock ended v)
left_recorded table clock ended is v was = go (is_ended table ended v)
  where
    go : (b : Bool) → AllByRecursion (λ (w : TableVersion). AreMoments Microseconds clock w.from w.to) (cond b (closed_at clock v) (v ∷ []))
    go true = closed_recorded clock is v was (int_eq v.from clock) refl
    go false = (was, tt)

-- a row that is added at the clock is recorded
pub recorded_now : (clock : ℤ) → IsClock Microseconds clock → AreMoments Microseconds clock clock forever
recorded_now clock is =
    let first : first_moment ≤ℤ clock = is.0 in
    let before : clock <ℤ forever = is.1 in
    record {
      from_is = (first, omega (arith, ints));
      to_is = (omega (arith, ints), omega (arith, ints));
      rise = before;
      past = (omega (arith, ints), inr refl);
    }

-- ---- good versions

-- the remains of a good version are good
left_good : (tables : List TableDef) (table : ℕ) (clock : ℤ) (ended : List VersionRow) → IsClock Microseconds clock → (v : TableVersion) → IsGoodVersion tables clock v → AllByRecursion (IsGoodVersion tables clock) (remains_of table clock ended v)
left_good tables table clock ended is v good = go (is_ended table ended v) (int_eq v.from clock) (left_recorded table clock ended is v good.moments)
  where
    go : (b e : Bool) → AllByRecursion (λ (w : TableVersion). AreMoments Microseconds clock w.from w.to) (cond b (cond e [] (record v { to = clock } ∷ [])) (v ∷ [])) → AllByRecursion (IsGoodVersion tables clock) (cond b (cond e [] (record v { to = clock } ∷ [])) (v ∷ []))
    go true true moments = tt
    go true false moments =
        (record { definition = good.definition; table = good.table; values = good.values; held = good.held; days = good.days; moments = moments.0 }, tt)
    go false e moments = (good, tt)

-- after a plan at the clock each version is good, if the rows that it adds are of its table
pub good_planned : (c : Contents) (table : ℕ) (d : TableDef) (ended : List VersionRow) (added : List PeriodRow) → table_of c.tables table ≡ Some d → IsClock Microseconds c.clock → AllByRecursion (IsGoodVersion c.tables c.clock) c.versions →
    AllByRecursion (λ (r : PeriodRow). are_row_values d r.values ≡ true) added → AllByRecursion (λ (r : PeriodRow). All IsColumnValue r.values) added → AllByRecursion (IsGoodVersion c.tables c.clock) (planned table c.clock ended added c).versions
good_planned c table d ended added there is good fits held =
    let IsGood : TableVersion → Type 0 = IsGoodVersion c.tables c.clock in
    all-append IsGood (flat_map (remains_of table c.clock ended) c.versions) (map (added_in table c.clock forever) added)
    (all-flat_map IsGood (remains_of table c.clock ended) c.versions
    (all_weaker IsGood (λ (v : TableVersion). AllByRecursion IsGood (remains_of table c.clock ended v)) (left_good c.tables table c.clock ended is) c.versions good))
    (all-map IsGood (added_in table c.clock forever) added
    (all_both (λ (r : PeriodRow). are_row_values d r.values ≡ true) (λ (r : PeriodRow). All IsColumnValue r.values) (λ (r : PeriodRow). IsGood (added_in table c.clock forever r))
    (λ r fit hold. record {
      definition = d;
      table = there;
      values = fit;
      held = hold;
      days = record { start_is = r.period.days.0; end_is = r.period.days.1; rise = r.period.ordered };
      moments = recorded_now c.clock is;
    })
    added fits held))

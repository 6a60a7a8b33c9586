-- Each good store is one of some history: what it holds is an opening.
use Rattle.std.proofs.Common.{◌≡◌, ◌<◌, ◌+◌, ◌==◌, ◌∷◌, ℕ, zero, suc, ℤ, Bool, true, false, cond, List, [], Some, None, get_or, length, map, nat_lt, eqb-true, refl, sym, ap, ◌∙◌, append-nil, subst, arith}
use Rattle.std.specs.List.{AllByRecursion}
use Rattle.std.specs.List.Sorted.{IsPermutation}
use Rattle.std.proofs.lemmas.Bool.Decides.{nat_tests}
use Rattle.std.proofs.lemmas.List.Sorted.{IsPermutation-refl, IsPermutation-sym}
use Rattle.std.proofs.lemmas.Option.{none-some}
use Rattle.sqlite_trees.proofs.ListLemmas.{all_weaker, filter_none}
use Rattle.period_core.specs.declared.version.VersionRow.{VersionRow}
use Rattle.catalog_core.specs.declared.table.TableDef.{TableDef}
use Rattle.catalog_core.specs.table.TableWords.{table_of}
use Rattle.version_store.specs.Contents.{Contents, TableVersion, of_table, version_in}
use Rattle.version_store.specs.GoodStore.{AreGood, HaveTables, IsGoodStore, IsGoodVersion, IsGoodVersionIn, NoExtraCondition}
use Rattle.version_store.specs.Units.{in_microseconds}
use Rattle.version_store.proofs.Units.{good_contents, tables_in}
use Rattle.sqlite.specs.Effect as sqlite
use Rattle.sqlite.specs.Store.{Ghosts}
use Rattle.history_model.specs.Histories.{Database, History, last_state, opened, versions_in}
use Rattle.history_model.specs.Versions.{plain_version}
use Rattle.period_keys.specs.Lawful.{IsLawfulState}
use Rattle.script_engine.specs.engine.EngineState.{EngineState}
use Rattle.script_engine.specs.engine.Faults.{AreConstrained, current_state}
use Rattle.script_engine.specs.engine.Stored.{AreOfHistory, EngineRepresents, HasContents}
use Rattle.script_engine.proofs.Contents.{is_left}
use Rattle.script_engine.proofs.LastState.{IsLeft, lawful_along, recorded_rows, state_said}
use Rattle.script_engine.proofs.Recorded.{AreRecorded, recorded_of}

-- a good version as a version row
abbrev row : (tables : List TableDef) (clock : ℤ) (v : TableVersion) → IsGoodVersion tables clock v → VersionRow
row tables clock v good = record {
  values = v.values;
  period = record { start = v.start; end = v.end; ordered = good.days.rise; days = (good.days.start_is, good.days.end_is) };
  from = v.from;
  to = v.to;
}

module _ (tables : List TableDef) (clock : ℤ) where
  -- the rows of a table, of the versions of a store
  abbrev pub Rows : ℕ → List TableVersion → Type 0
  Rows table versions = (rows : List VersionRow) × (of_table table versions ≡ map (version_in table) rows)

  rows_in : (table : ℕ) (versions : List TableVersion) → AllByRecursion (IsGoodVersion tables clock) versions → Rows table versions
  rows_in table [] good = ([], refl)
  rows_in table (v ∷ versions) good = go (v.table == table) refl (rows_in table versions good.1)
    where
      go : (b : Bool) → (v.table == table) ≡ b → Rows table versions → (rows : List VersionRow) × (cond b (v ∷ of_table table versions) (of_table table versions) ≡ map (version_in table) rows)
      go true here (rows, same) =
          let at : v.table ≡ table = eqb-true v.table table here in
          (row tables clock v good.0 ∷ rows, ap (λ (l : List TableVersion). v ∷ l) same ∙ ap (λ (n : ℕ). record v { table = n } ∷ map (version_in table) rows) at)
      go false off rows = rows

  -- the lists of the tables from a number on
  pub record Lists (versions : List TableVersion) (from count : ℕ) : Type 0 where
    pub lists : List (List VersionRow)
    pub long : length lists ≡ count
    pub each : (place : ℕ) → place < count → of_table (suc (from + place)) versions ≡ map (version_in (suc (from + place))) (get_or lists place [])

  lists_from : (versions : List TableVersion) → AllByRecursion (IsGoodVersion tables clock) versions → (count from : ℕ) → Lists versions from count
  lists_from versions good zero from = record { lists = []; long = refl; each = λ place inside. absurd (omega arith) }
  lists_from versions good (suc count) from =
      let first = rows_in (suc from) versions good in
      let more = lists_from versions good count (suc from) in
      record {
        lists = first.0 ∷ more.lists;
        long = ap (λ n. suc n) more.long;
        each = at first more;
      }
    where
      at : (first : Rows (suc from) versions) (more : Lists versions (suc from) count) (place : ℕ) → place < suc count →
          of_table (suc (from + place)) versions ≡ map (version_in (suc (from + place))) (get_or (first.0 ∷ more.lists) place [])
      at first more zero inside =
          let same : from ≡ from + 0 = omega arith in
          subst (λ (n : ℕ). of_table (suc n) versions ≡ map (version_in (suc n)) first.0) same first.1
      at first more (suc place) inside =
          let same : suc from + place ≡ from + suc place = omega arith in
          subst (λ (n : ℕ). of_table (suc n) versions ≡ map (version_in (suc n)) (get_or more.lists place [])) same (more.each place (omega arith))

  -- no version belongs to a table that does not exist
  of_none : (table : ℕ) (v : TableVersion) → table_of tables table ≡ None → IsGoodVersion tables clock v → (v.table == table) ≡ false
  of_none table v none good = go (v.table == table) refl
    where
      go : (b : Bool) → (v.table == table) ≡ b → b ≡ false
      go true here =
          let at : v.table ≡ table = eqb-true v.table table here in
          absurd (none-some good.definition (sym none ∙ ap (table_of tables) (sym at) ∙ good.table))
      go false off = refl

  none_there : (table : ℕ) (versions : List TableVersion) → table_of tables table ≡ None → AllByRecursion (IsGoodVersion tables clock) versions → of_table table versions ≡ []
  none_there table versions none good =
      filter_none (λ (v : TableVersion). v.table == table) versions
      (all_weaker (IsGoodVersion tables clock) (λ (v : TableVersion). (v.table == table) ≡ false) (λ v is. of_none table v none is) versions good)

beyond : {X : Type 0} (xs : List X) (place : ℕ) → (place < length xs → ⊥) → table_of xs (suc place) ≡ None
beyond [] place out = refl
beyond (x ∷ xs) zero out = absurd (out (omega arith))
beyond (x ∷ xs) (suc place) out = beyond xs place (λ inside. out (omega arith))

nothing_beyond : {X : Type 0} (lists : List (List X)) (place : ℕ) → (place < length lists → ⊥) → get_or lists place [] ≡ []
nothing_beyond [] place out = refl
nothing_beyond (list ∷ lists) zero out = absurd (out (omega arith))
nothing_beyond (list ∷ lists) (suc place) out = nothing_beyond lists place (λ inside. out (omega arith))

-- the opening that good contents are
module _ (c : Contents) (are_good : AreGood NoExtraCondition c) where
  abbrev good : AllByRecursion (IsGoodVersion c.tables c.clock) c.versions
  good = are_good.versions

  pub its : Lists c.tables c.clock c.versions 0 (length c.tables)
  its = lists_from c.tables c.clock c.versions good (length c.tables) 0

  abbrev pub opening : Database
  opening = record { clock = c.clock; catalog = c.tables; versions = its.lists }

  holds : (table : ℕ) → of_table table c.versions ≡ map (version_in table) (versions_in opening table)
  holds zero = none_there c.tables c.clock zero c.versions refl good
  holds (suc place) = go (nat_lt place (length c.tables)) refl
    where
      go : (b : Bool) → nat_lt place (length c.tables) ≡ b → of_table (suc place) c.versions ≡ map (version_in (suc place)) (get_or its.lists place [])
      go true inside =
          let same : 0 + place ≡ place = omega arith in
          subst (λ (n : ℕ). of_table (suc n) c.versions ≡ map (version_in (suc n)) (get_or its.lists place [])) same (its.each place (grind (arith, nat_tests, inside)))
      go false out =
          let off : place < length c.tables → ⊥ = λ inside. grind (arith, nat_tests, out, inside) in
          let long = its.long in
          none_there c.tables c.clock (suc place) c.versions (beyond c.tables place off) good
          ∙ ap (map (version_in (suc place))) (sym (nothing_beyond its.lists place (λ inside. off (subst (λ (n : ℕ). place < n) long inside))))

  recorded : AreRecorded c
  recorded = recorded_of c are_good

  left-opened : IsLeft (opened opening) c
  left-opened = record {
    order = record {
      before = are_good.clock.1;
      recorded = λ table. recorded_rows c table (versions_in opening table) recorded (subst (IsPermutation (of_table table c.versions)) (holds table) (IsPermutation-refl (of_table table c.versions)));
      events = tt;
    };
    versions = λ table. record {
      rows = versions_in opening table;
      left = IsPermutation-refl (map plain_version (versions_in opening table));
      all = subst (IsPermutation (of_table table c.versions)) (holds table) (IsPermutation-refl (of_table table c.versions));
    };
    is_clock = are_good.clock;
    recorded = recorded;
  }

  pub said-opened : AreConstrained c → AreOfHistory (opened opening) c
  said-opened lawful = record {
    order = left-opened.order;
    clock = refl;
    tables = sym (append-nil c.tables);
    versions = left-opened.versions;
    good = are_good;
    lawful =
        subst (λ (tables : List TableDef). IsLawfulState tables (last_state (opened opening))) (sym (append-nil c.tables))
        (lawful_along c.tables (current_state c) (last_state (opened opening)) (λ table day. state_said (opened opening) c table day left-opened) lawful);
  }

-- the contents of a good store, in microseconds
abbrev pub its_contents : {Constrained : Contents → Type 0} {db : sqlite.Database} → IsGoodStore Constrained db → Contents
its_contents good = in_microseconds good.form good.contents

-- the versions of a good store are of its tables
pub good_tables : {db : sqlite.Database} (good : IsGoodStore NoExtraCondition db) → HaveTables (its_contents good)
good_tables good =
    let c = good.contents in
    tables_in good.form c (all_weaker (IsGoodVersionIn good.form c.tables c.clock) (λ (v : TableVersion). (d : TableDef) × (table_of c.tables v.table ≡ Some d)) (λ v is. (is.definition, is.table)) c.versions good.versions)

-- with point 6 judged, all points hold
pub all_points : {db : sqlite.Database} (good : IsGoodStore NoExtraCondition db) → AreConstrained (its_contents good) → IsGoodStore AreConstrained db
all_points good lawful = record {
  form = good.form;
  contents = good.contents;
  says = good.says;
  tables_there = good.tables_there;
  clock = good.clock;
  few = good.few;
  readable = good.readable;
  lawful = good.lawful;
  versions = good.versions;
  distinct = good.distinct;
  constrained = lawful;
}

-- the points that are left without this point
abbrev pub other_points : {db : sqlite.Database} → IsGoodStore AreConstrained db → IsGoodStore NoExtraCondition db
other_points good = record {
  form = good.form;
  contents = good.contents;
  says = good.says;
  tables_there = good.tables_there;
  clock = good.clock;
  few = good.few;
  readable = good.readable;
  lawful = good.lawful;
  versions = good.versions;
  distinct = good.distinct;
  constrained = tt;
}

-- the contents of a constrained store are good, with keys and references
pub good_and_lawful : {db : sqlite.Database} (good : IsGoodStore AreConstrained db) → AreGood AreConstrained (its_contents good)
good_and_lawful good = let fine = good_contents (other_points good) in record { clock = fine.clock; few = fine.few; lawful = fine.lawful; versions = fine.versions; constrained = good.constrained }

-- a good store is one of the history to which nothing was done since it was opened
pub good_history : {S : Type 0} (g : Ghosts S) (engine : EngineState S) (db : sqlite.Database) (good : IsGoodStore NoExtraCondition db) → AreConstrained (its_contents good) → HasContents g engine (its_contents good) →
    (history : History) × EngineRepresents g history engine
good_history g engine db good lawful has =
    let c = its_contents good in
    let fine = good_contents good in
    (opened (opening c fine), record { contents = c; stored = has.stored; said = said-opened c fine lawful; current = has.current; ended = has.ended })

-- the contents that a history says are good, with keys and references
pub constrained_good : (history : History) (c : Contents) → AreOfHistory history c → AreGood AreConstrained c
constrained_good history c said = record {
  clock = said.good.clock;
  few = said.good.few;
  lawful = said.good.lawful;
  versions = said.good.versions;
  constrained =
      lawful_along c.tables (last_state history) (current_state c)
      (λ table day. IsPermutation-sym (current_state c table day) (last_state history table day) (state_said history c table day (is_left history c said)))
      (subst (λ (tables : List TableDef). IsLawfulState tables (last_state history)) (sym said.tables) said.lawful);
}

-- The points of a store, by the rows that its queries show.
use Rattle.std.proofs.Common.{◌≡◌, ◌+◌, ◌≤◌, ◌∙◌, ◌∷◌, ◌++◌, ℕ, ℤ, pos, List, [], Some, ap, arith, false, length, length-append, map, refl, subst, subst₂, sym, true}
use Rattle.std.specs.List.{All, AllByRecursion}
use Rattle.std.specs.List.Sorted.{IsPermutation}
use Rattle.std.proofs.lemmas.List.{length-map}
use Rattle.std.proofs.lemmas.List.Sorted.{IsPermutation-map, IsPermutation-sym, IsPermutation-trans}
use Rattle.sqlite_trees.proofs.ListLemmas.{IsPermutation-same, all-map, all-permutation, all_from_map, all_weaker}
use Rattle.period_core.specs.Encoding.{IsColumnValue}
use Rattle.catalog_core.specs.declared.table.TableDef.{TableDef}
use Rattle.catalog_core.specs.table.TableWords.{table_of}
use Rattle.sqlite.proofs.Callers.{one_permutation}
use Rattle.sqlite.specs.Effect.{Database}
use Rattle.sqlite.specs.Order.{Row}
use Rattle.sqlite.specs.Tree.{IsAscending, rowid}
use Rattle.sqlite.specs.View.{is_int}
use Rattle.sqlite.specs.declared.types.Value.TheVariants.{Int, Blob}
use Rattle.version_tables.proofs.Ordered.{defined_table, definitions_in_order, length-defined, same_tables}
use Rattle.period_core.specs.Moments.{IsMomentNumber}
use Rattle.version_tables.specs.Good.{AreDays, AreMetaRows}
use Rattle.version_tables.specs.Rows.{InOrder, by_rowid}
use Rattle.version_tables.specs.Represents.{HaveDistinctRowids, defined, meta_shown, stored, table_shown, version_shown}
use Rattle.version_tables.specs.Tables.{HasStoreTables}
use Rattle.version_store.proofs.Dated.{good_is_dated}
use Rattle.version_tables.specs.Forms.{end_in, moment_in}
use Rattle.version_tables.specs.declared.form.Form.{Form}
use Rattle.version_tables.specs.declared.form.Form.TheVariants.{Microseconds}
use Rattle.version_store.specs.Units.{in_microseconds, version_of}
use Rattle.version_store.proofs.Judged.{same_form, same_written}
use Rattle.version_store.proofs.Units.{same_units}
use Rattle.version_store.specs.Contents.{AreDated, Contents, HaveColumnValues, IsDated, TableVersion, same_version}
use Rattle.version_store.specs.GoodStore.{AreDefinitions, AreLawful, AreTableRows, HaveTables, IsGoodStore, IsGoodVersionIn, NoExtraCondition, IsVersionRow, AreGood}
use Rattle.version_store.specs.Written.{Has, HasIn, IsReadable, written_table, written_version}

-- ---- definitions

spelled_all : (before : List TableDef) (rows : List Row) (ts : List TableDef) → AreTableRows before rows ts → rows ≡ defined (length before + 1) (map written_table ts)
spelled_all before [] [] all = refl
spelled_all before [] (t ∷ ts) all = absurd all
spelled_all before (row ∷ rows) [] all = absurd all
spelled_all before (row ∷ rows) (t ∷ ts) all =
    let long : length (before ++ t ∷ []) + 1 ≡ length before + 1 + 1 = omega (arith, length-append before (t ∷ [])) in
    let tail : rows ≡ defined (length before + 1 + 1) (map written_table ts) = spelled_all (before ++ t ∷ []) rows ts all.1 ∙ ap (λ n. defined n (map written_table ts)) long in
    let head = all.0.spelled in
    cc

all_readable : (before : List TableDef) (rows : List Row) (ts : List TableDef) → AreTableRows before rows ts → AllByRecursion IsReadable ts
all_readable before [] [] all = tt
all_readable before [] (t ∷ ts) all = absurd all
all_readable before (row ∷ rows) [] all = absurd all
all_readable before (row ∷ rows) (t ∷ ts) all = (all.0.readable, all_readable (before ++ t ∷ []) rows ts all.1)

pub all_lawful : (before : List TableDef) (rows : List Row) (ts : List TableDef) → AreTableRows before rows ts → AreLawful before ts
all_lawful before [] [] all = tt
all_lawful before [] (t ∷ ts) all = absurd all
all_lawful before (row ∷ rows) [] all = absurd all
all_lawful before (row ∷ rows) (t ∷ ts) all = (all.0.lawful, all_lawful (before ++ t ∷ []) rows ts all.1)

rows_of_tables : (before ts : List TableDef) → AllByRecursion IsReadable ts → AreLawful before ts → AreTableRows before (defined (length before + 1) (map written_table ts)) ts
rows_of_tables before [] readable lawful = tt
rows_of_tables before (t ∷ ts) readable lawful =
    let long : length (before ++ t ∷ []) + 1 ≡ length before + 1 + 1 = omega (arith, length-append before (t ∷ [])) in
    let more = rows_of_tables (before ++ t ∷ []) ts readable.1 lawful.1 in
    (record { spelled = refl; readable = readable.0; lawful = lawful.0 }, subst (λ n. AreTableRows (before ++ t ∷ []) (defined n (map written_table ts)) ts) long more)

-- ---- versions

abbrev pub stored_version : TableVersion → Row
stored_version v = stored (written_version v)

pub twice : (vs : List TableVersion) → map stored (map written_version vs) ≡ map stored_version vs
twice [] = refl
twice (v ∷ vs) = ap (λ l. stored_version v ∷ l) (twice vs)

says_all : (form : Form) (tables : List TableDef) (clock : ℤ) (rows : List Row) → AllByRecursion (IsVersionRow form tables clock) rows → (vs : List TableVersion) × (rows ≡ map stored_version vs) × AllByRecursion (IsGoodVersionIn form tables clock) vs
says_all form tables clock [] all = ([], refl, tt)
says_all form tables clock (row ∷ rows) all =
    let more = says_all form tables clock rows all.1 in
    let head = all.0.1 in
    let tail = more.1 in
    (all.0.0 ∷ more.0, cc, (all.0.2, more.2))

-- ---- the points

-- no two rows of bt_version agree in the columns of its key
abbrev pub KeepsKeys : Database → Type 0
KeepsKeys db = (vs : List TableVersion) → HaveColumnValues vs → IsPermutation (map stored_version vs) (map version_shown (db.trees 2)) → IsAscending (λ (a b : TableVersion). same_version a b ≡ false) vs

module _ (db : Database) (metas tables versions : List Row) (pm : IsPermutation (map meta_shown (db.trees 0)) metas) (pt : InOrder table_shown by_rowid (db.trees 1) tables) (pv : IsPermutation (map version_shown (db.trees 2)) versions) where
  pub points_hold : HasStoreTables db.schema → KeepsKeys db → (known : List TableDef) (form : Form) (clock : ℤ) → AreDefinitions metas tables known form clock → AllByRecursion (IsVersionRow form known clock) versions
      → (good : IsGoodStore NoExtraCondition db) × (good.contents.tables ≡ known) × (good.form ≡ form) × (good.contents.clock ≡ clock)
  points_hold there keys known form clock says each =
      let all = all-permutation (IsVersionRow form known clock) _ _ (IsPermutation-sym _ _ pv) each in
      let vs = says_all form known clock (map version_shown (db.trees 2)) all in
      let held : HaveColumnValues vs.0 = all_weaker (IsGoodVersionIn form known clock) (λ (v : TableVersion). All IsColumnValue v.values) (λ v good. good.held) vs.0 vs.2 in
      let is = spelled_all [] tables known says.defined.each in
      let long : length known ≡ length tables = sym (length-map known written_table) ∙ sym (length-defined 1 (map written_table known)) ∙ ap length (sym is) in (
        record {
          form = form;
          contents = record { tables = known; clock = clock; versions = vs.0 };
          says = record {
            meta = one_permutation _ _ (IsPermutation-sym _ _ (subst (IsPermutation (map meta_shown (db.trees 0))) says.meta.0 pm));
            tables = IsPermutation-sym _ _ (subst (IsPermutation (map table_shown (db.trees 1))) (sym pt.2 ∙ is) (IsPermutation-map table_shown _ _ pt.1));
            versions = IsPermutation-same _ _ (twice vs.0 ∙ sym vs.1);
          };
          tables_there = there;
          clock = says.meta.1;
          few = subst (λ n. n ≤ 64) (sym long) says.defined.few;
          readable = all_readable [] tables known says.defined.each;
          lawful = all_lawful [] tables known says.defined.each;
          versions = vs.2;
          distinct = keys vs.0 held (IsPermutation-same _ _ (sym vs.1));
          constrained = tt;
        },
        refl,
        refl,
        refl,
      )

  pub points_fail : IsGoodStore NoExtraCondition db → ((known : List TableDef) (form : Form) (clock : ℤ) → AreDefinitions metas tables known form clock → ¬ AllByRecursion (IsVersionRow form known clock) versions) → ⊥
  points_fail good none =
      let c = good.contents in
      let is : tables ≡ defined 1 (map written_table c.tables) = definitions_in_order (db.trees 1) tables (map written_table c.tables) pt good.says.tables in
      let long : length tables ≡ length c.tables = ap length is ∙ length-defined 1 (map written_table c.tables) ∙ length-map c.tables written_table in
      let meta : AreMetaRows metas good.form c.clock = (one_permutation _ _ (subst (λ l. IsPermutation l metas) good.says.meta pm), good.clock) in
      let says = IsVersionRow good.form c.tables c.clock in
      let each : AllByRecursion says (map stored_version c.versions) = all-map says stored_version c.versions (all_weaker (IsGoodVersionIn good.form c.tables c.clock) (λ v. says (stored_version v)) (λ v good. (v, refl, good)) c.versions good.versions) in
      let shown = all-permutation says _ _ (subst (λ l. IsPermutation l (map version_shown (db.trees 2))) (twice c.versions) good.says.versions) each in
      none c.tables good.form c.clock
      (record {
        meta = meta;
        defined = record { few = subst (λ n. n ≤ 64) (sym long) good.few; each = subst (λ rows. AreTableRows [] rows c.tables) (sym is) (rows_of_tables [] c.tables good.readable good.lawful) };
      })
      (all-permutation says _ _ pv shown)

-- a good store has its contents
pub has_contents : (db : Database) (good : IsGoodStore NoExtraCondition db) → HaveDistinctRowids (db.trees 2) → AllByRecursion (λ r. is_int (rowid r) ≡ true) (db.trees 2) → HasIn good.form db good.contents
has_contents db good untied keyed = record {
  rows = record { schema = good.tables_there; says = good.says; untied = untied; keyed = keyed };
  definitions = good.readable;
  values = all_weaker (IsGoodVersionIn good.form good.contents.tables good.contents.clock) (λ (v : TableVersion). All IsColumnValue v.values) (λ v fine. fine.held) good.contents.versions good.versions;
}

-- ---- a database has one catalog, one form and one clock

same_written_tables : (ts us : List TableDef) → AllByRecursion IsReadable ts → AllByRecursion IsReadable us → map written_table ts ≡ map written_table us → ts ≡ us
same_written_tables [] [] rt ru same = refl
same_written_tables [] (u ∷ us) rt ru same = absurd cc
same_written_tables (t ∷ ts) [] rt ru same = absurd cc
same_written_tables (t ∷ ts) (u ∷ us) rt ru same =
    let parts = list_parts (written_table t) (written_table u) (map written_table ts) (map written_table us) same in
    let one : t ≡ u = same_written t u rt.0 ru.0 parts.0 in
    let more : ts ≡ us = same_written_tables ts us rt.1 ru.1 parts.1 in
    cc
  where
    list_parts : (a b : List ℕ) (xs ys : List (List ℕ)) → ◌≡◌ {A = List (List ℕ)} (a ∷ xs) (b ∷ ys) → (a ≡ b) × (xs ≡ ys)
    list_parts a b xs ys e = (cc, cc)

defined_once : (n : ℕ) (ps qs : List (List ℕ)) → defined n ps ≡ defined n qs → ps ≡ qs
defined_once n [] [] same = refl
defined_once n [] (b ∷ qs) same = absurd cc
defined_once n (a ∷ ps) [] same = absurd cc
defined_once n (a ∷ ps) (b ∷ qs) same =
    let head : Int (pos n) ∷ Blob a ∷ [] ≡ Int (pos n) ∷ Blob b ∷ [] = (row_parts _ _ _ _ same).0 in
    let one : a ≡ b = (same_blobs a b head) in
    let more : ps ≡ qs = defined_once (n + 1) ps qs (row_parts _ _ _ _ same).1 in
    cc
  where
    row_parts : (a b : Row) (xs ys : List Row) → ◌≡◌ {A = List Row} (a ∷ xs) (b ∷ ys) → (a ≡ b) × (xs ≡ ys)
    row_parts a b xs ys e = (cc, cc)

    same_blobs : (a b : List ℕ) → Int (pos n) ∷ Blob a ∷ [] ≡ Int (pos n) ∷ Blob b ∷ [] → a ≡ b
    same_blobs a b e = cc

-- a database has one form, one clock and one list of tables
pub same_contents : (db : Database) (f h : Form) (c d : Contents) → HasIn f db c → HasIn h db d → (c.tables ≡ d.tables) × (f ≡ h) × (c.clock ≡ d.clock)
same_contents db f h c d hc hd =
    let same : IsPermutation (defined 1 (map written_table c.tables)) (defined 1 (map written_table d.tables)) = IsPermutation-trans _ _ _ hc.rows.says.tables (IsPermutation-sym _ _ hd.rows.says.tables) in
    let rows = same_table_rows 1 (map written_table c.tables) (map written_table d.tables) same in
    let meta = same_form f h c.clock d.clock (sym hc.rows.says.meta ∙ hd.rows.says.meta) in
    (same_written_tables c.tables d.tables hc.definitions hd.definitions (defined_once 1 (map written_table c.tables) (map written_table d.tables) rows), meta.0, meta.1)
  where
    same_table_rows : (n : ℕ) (ps qs : List (List ℕ)) → IsPermutation (defined n ps) (defined n qs) → defined n ps ≡ defined n qs
    same_table_rows n ps qs same = same_tables (defined n ps) (defined n qs) (defined_table n ps) (defined_table n qs) same

-- a database with good contents is a good store
pub good_store : {Constrained : Contents → Type 0} (db : Database) (c : Contents) → Has db c → KeepsKeys db → AreGood Constrained c → IsGoodStore Constrained db
good_store {Constrained} db c has keys good = record {
  form = Microseconds;
  contents = c;
  says = has.rows.says;
  tables_there = has.rows.schema;
  clock = good.clock;
  few = good.few;
  readable = has.definitions;
  lawful = good.lawful;
  versions = good.versions;
  distinct = keys c.versions has.values (subst (λ (l : List Row). IsPermutation l (map version_shown (db.trees 2))) (twice c.versions) has.rows.says.versions);
  constrained = subst Constrained (sym (same_units c)) good.constrained;
}

-- ---- the versions of a database with good contents are of its tables

abbrev IsTabled : List TableDef → TableVersion → Type 0
IsTabled tables v = (d : TableDef) × (table_of tables v.table ≡ Some d)

abbrev IsTabledRow : List TableDef → Row → Type 0
IsTabledRow tables row = (v : TableVersion) × (row ≡ stored_version v) × IsTabled tables v

tabled_alike : (tables : List TableDef) (v : TableVersion) → IsTabledRow tables (stored_version v) → IsTabled tables v
tabled_alike tables v (w, same, there) = let one : w.table ≡ v.table = cc in subst (λ (n : ℕ). (d : TableDef) × (table_of tables n ≡ Some d)) one there

pub have_tables : (db : Database) (form : Form) (c : Contents) (good : IsGoodStore NoExtraCondition db) → HasIn good.form db good.contents → HasIn form db c → HaveTables c
have_tables db form c good its has =
    let g = good.contents in
    let rows : AllByRecursion (IsTabledRow g.tables) (map stored_version g.versions) =
    all-map (IsTabledRow g.tables) stored_version g.versions (all_weaker (IsGoodVersionIn good.form g.tables g.clock) (λ v. IsTabledRow g.tables (stored_version v)) (λ v is. (v, refl, (is.definition, is.table))) g.versions good.versions) in
    let shown = all-permutation (IsTabledRow g.tables) _ _ (subst (λ (l : List Row). IsPermutation l (map version_shown (db.trees 2))) (twice g.versions) good.says.versions) rows in
    let ours : AllByRecursion (IsTabledRow g.tables) (map stored_version c.versions) =
    all-permutation (IsTabledRow g.tables) _ _ (IsPermutation-sym _ _ (subst (λ (l : List Row). IsPermutation l (map version_shown (db.trees 2))) (twice c.versions) has.rows.says.versions)) shown in
    let same : g.tables ≡ c.tables = (same_contents db good.form form g c its has).0 in
    subst (λ (ts : List TableDef). AllByRecursion (IsTabled ts) c.versions) same
    (all_weaker (λ (v : TableVersion). IsTabledRow g.tables (stored_version v)) (IsTabled g.tables) (tabled_alike g.tables) c.versions
    (all_from_map (IsTabledRow g.tables) stored_version c.versions ours))

-- ---- and have days and moments

module _ (form : Form) where
  abbrev IsDatedRow : Row → Type 0
  IsDatedRow row = (v : TableVersion) × (row ≡ stored_version v) × IsDated (version_of form v)

  dated_alike : (v : TableVersion) → IsDatedRow (stored_version v) → IsDated (version_of form v)
  dated_alike v (w, same, is) =
      let s : w.start ≡ v.start = cc in
      let e : w.end ≡ v.end = cc in
      let f : w.from ≡ v.from = cc in
      let t : w.to ≡ v.to = cc in
      record { days = subst₂ AreDays s e is.days; from = subst (λ n. IsMomentNumber (moment_in form n)) f is.from; to = subst (λ n. IsMomentNumber (end_in form n)) t is.to }

-- a good store's versions are dated
pub good_dated : {db : Database} (good : IsGoodStore NoExtraCondition db) → AreDated (in_microseconds good.form good.contents).versions
good_dated good =
    let c = good.contents in
    all-map IsDated (version_of good.form) c.versions
    (all_weaker (IsGoodVersionIn good.form c.tables c.clock) (λ v. IsDated (version_of good.form v)) (λ v is. good_is_dated good.form c.tables c.clock v is) c.versions good.versions)

pub are_dated : (db : Database) (form : Form) (c : Contents) (good : IsGoodStore NoExtraCondition db) → good.form ≡ form → HasIn form db c → AreDated (in_microseconds form c).versions
are_dated db form c good same has =
    let g = good.contents in
    let row = IsDatedRow form in
    let its : AllByRecursion (λ (v : TableVersion). IsDated (version_of form v)) g.versions = all_from_map IsDated (version_of form) g.versions (subst (λ (f : Form). AreDated (in_microseconds f g).versions) same (good_dated good)) in
    let rows : AllByRecursion row (map stored_version g.versions) = all-map row stored_version g.versions (all_weaker (λ v. IsDated (version_of form v)) (λ v. row (stored_version v)) (λ v is. (v, refl, is)) g.versions its) in
    let shown = all-permutation row _ _ (subst (λ (l : List Row). IsPermutation l (map version_shown (db.trees 2))) (twice g.versions) good.says.versions) rows in
    let ours : AllByRecursion row (map stored_version c.versions) =
    all-permutation row _ _ (IsPermutation-sym _ _ (subst (λ (l : List Row). IsPermutation l (map version_shown (db.trees 2))) (twice c.versions) has.rows.says.versions)) shown in
    all-map IsDated (version_of form) c.versions (all_weaker (λ (v : TableVersion). row (stored_version v)) (λ v. IsDated (version_of form v)) (dated_alike form) c.versions (all_from_map row stored_version c.versions ours))

-- Rows of bt_version, read as the version rows of each table.
use Rattle.std.proofs.Common.{◌≡◌, ◌<◌, ◌≤◌, ◌==◌, ◌++◌, ◌∷◌, ◌∙◌, ℕ, zero, suc, ℤ, pos, Bool, true, false, cond, List, [], Some, append-nil, append_assoc, arith, eqb-true, length, map, refl, set, subst, subst₂, sym, ap, ap₂}
use Rattle.std.specs.List.{All, AllByRecursion, slice_get}
use Rattle.std.specs.List.Sorted.{IsPermutation}
use Rattle.std.specs.Option.{option_map_or}
use Rattle.std.proofs.lemmas.Bool.Decides.{nat_tests}
use Rattle.std.proofs.lemmas.List.{length-set, map-append}
use Rattle.std.proofs.lemmas.List.Elements.{filter-append}
use Rattle.std.proofs.lemmas.List.Sorted.{IsPermutation-map, IsPermutation-refl, IsPermutation-trans}
use Rattle.sqlite_trees.proofs.ListLemmas.{IsPermutation-filter, all-map, all-permutation, all_weaker, filter-map, pull_back}
use Rattle.period_core.specs.Encoding.{IsColumnValue, encoded}
use Rattle.period_core.specs.declared.version.VersionRow.{VersionRow}
use Rattle.period_core.proofs.EncodingOrder.{reads_back}
use Rattle.catalog_core.specs.declared.table.TableDef.{TableDef}
use Rattle.sqlite.specs.Effect.{Database}
use Rattle.sqlite.specs.Order.{Row}
use Rattle.sqlite_value.specs.Order.{column}
use Rattle.sqlite.specs.declared.types.Value.TheVariants.{Int}
use Rattle.version_tables.specs.Forms.{end_in, moment_in}
use Rattle.version_tables.specs.Represents.{version_shown}
use Rattle.version_tables.specs.Rows.{AreBytesAt, IsNumberAt}
use Rattle.version_tables.specs.declared.form.Form.{Form}
use Rattle.version_store.specs.Contents.{AreVersionsOf, Contents, HasMore, HaveColumnValues, TableVersion, empty_contents, of_table, rows_of_table, version_in}
use Rattle.version_store.specs.GoodStore.{AreReadAs, HasTimesOf, IsGoodVersionIn, IsReadAs, IsVersionRow}
use Rattle.version_store.specs.Units.{in_microseconds, version_of}
use Rattle.version_store.specs.Written.{HasIn}
use Rattle.version_store.proofs.Judged.{row_bytes, row_number, table_known}
use Rattle.version_store.proofs.Opens.{stored_version, twice}

-- ---- the lists of the tables

abbrev itself : List VersionRow → List VersionRow
itself rows = rows

none_at : (ls : List (List VersionRow)) (place : ℕ) → rows_of_table ls (suc place) ≡ [] → rows_of_table (ls ++ [] ∷ []) (suc place) ≡ []
none_at [] zero none = refl
none_at [] (suc place) none = refl
none_at (l ∷ ls) zero none = none
none_at (l ∷ ls) (suc place) none = none_at ls place none

-- one table more, without rows
pub none_more : (ls : List (List VersionRow)) → ((number : ℕ) → rows_of_table ls number ≡ []) → (number : ℕ) → rows_of_table (ls ++ [] ∷ []) number ≡ []
none_more ls none zero = refl
none_more ls none (suc place) = none_at ls place (none (suc place))

pub no_lists : (number : ℕ) → rows_of_table [] number ≡ []
no_lists zero = refl
no_lists (suc place) = refl

-- the contents of no list are empty
pub none_of_nothing : (lists : List (List VersionRow)) → lists ≡ [] → AreVersionsOf empty_contents lists
none_of_nothing lists none number =
    let empty : rows_of_table lists number ≡ [] = ap (λ (l : List (List VersionRow)). rows_of_table l number) none ∙ no_lists number in
    subst (λ (l : List VersionRow). IsPermutation [] (map (version_in number) l)) (sym empty) (IsPermutation-refl [])

-- the rows of a table are the list at its place
pub here : (ls : List (List VersionRow)) (place : ℕ) (old : List VersionRow) → slice_get ls place ≡ Some old → rows_of_table ls (suc place) ≡ old
here ls place old there = ap (λ o. option_map_or itself o []) there

set_here : (ls : List (List VersionRow)) (place : ℕ) (old new : List VersionRow) → slice_get ls place ≡ Some old → rows_of_table (set ls place new) (suc place) ≡ new
set_here [] place old new there = cc
set_here (l ∷ ls) zero old new there = refl
set_here (l ∷ ls) (suc place) old new there = set_here ls place old new there

set_elsewhere : (ls : List (List VersionRow)) (place other : ℕ) (new : List VersionRow) → (other ≡ place → ⊥) → rows_of_table (set ls place new) (suc other) ≡ rows_of_table ls (suc other)
set_elsewhere [] place other new off = refl
set_elsewhere (l ∷ ls) zero zero new off = absurd (off refl)
set_elsewhere (l ∷ ls) zero (suc other) new off = refl
set_elsewhere (l ∷ ls) (suc place) zero new off = refl
set_elsewhere (l ∷ ls) (suc place) (suc other) new off = set_elsewhere ls place other new (λ same. off (ap suc same))

-- the rows of a table stay when another table's are set
pub others_stay : (ls : List (List VersionRow)) (place : ℕ) (new : List VersionRow) (other : ℕ) → (other ≡ suc place → ⊥) → rows_of_table (set ls place new) other ≡ rows_of_table ls other
others_stay ls place new zero off = refl
others_stay ls place new (suc other) off = set_elsewhere ls place other new (λ same. off (ap suc same))

-- a row more in one table's list
pub has_more : (ls : List (List VersionRow)) (place : ℕ) (old new : List VersionRow) (row : VersionRow) → slice_get ls place ≡ Some old → new ≡ old ++ row ∷ [] → HasMore (suc place) row ls (set ls place new)
has_more ls place old new row there made = record {
  count = length-set ls place new;
  there = set_here ls place old new there ∙ (made ∙ ap (λ (l : List VersionRow). l ++ row ∷ []) (sym (here ls place old there)));
  others = others_stay ls place new;
}

-- ---- one row

same_int : (row : Row) (at : ℕ) (m n : ℤ) → column row at ≡ Int m → column row at ≡ Int n → m ≡ n
same_int row at m n p q = cc

-- a good version's row is read as the version row of its values and times
pub read_as : (form : Form) (tables : List TableDef) (clock : ℤ) (row : Row) (n : ℕ) (b : List ℕ) (read : VersionRow) (says : IsVersionRow form tables clock row) → IsNumberAt row 0 (pos n) → AreBytesAt row 1 b → encoded read.values ≡ b → All IsColumnValue read.values
    → HasTimesOf form row read → IsReadAs form tables clock row n read
read_as form tables clock row n b read (v, is, good) number bytes same held times =
    let says : IsVersionRow form tables clock row = (v, is, good) in
    let table : n ≡ v.table = row_number form tables clock row n says number in
    let values : read.values ≡ v.values = reads_back read.values v.values held good.held (same ∙ sym (row_bytes form tables clock row b says bytes)) in
    let start : read.period.start ≡ v.start = same_int row 2 read.period.start v.start times.start.1 (ap (λ (r : Row). column r 2) is) in
    let end : read.period.end ≡ v.end = same_int row 3 read.period.end v.end times.end.1 (ap (λ (r : Row). column r 3) is) in
    let from : read.from ≡ moment_in form v.from = times.from.2 ∙ ap (moment_in form) (same_int row 4 times.from.0 v.from times.from.1.1 (ap (λ (r : Row). column r 4) is)) in
    let to : read.to ≡ end_in form v.to = times.to.2 ∙ ap (end_in form) (same_int row 5 times.to.0 v.to times.to.1.1 (ap (λ (r : Row). column r 5) is)) in
    (v, is, good, rw (table, values, start, end, from, to) refl)

-- ---- rows

-- the rows so far are read as lists, one for each table
abbrev pub AreReadSoFar : Form → List TableDef → ℤ → List Row → List (List VersionRow) → Type 0
AreReadSoFar form tables clock rows lists = AreReadAs form tables clock rows lists × (length lists ≡ length tables)

pub none_read : (form : Form) (tables : List TableDef) (clock : ℤ) (lists : List (List VersionRow)) → length lists ≡ length tables → ((number : ℕ) → rows_of_table lists number ≡ []) → AreReadSoFar form tables clock [] lists
none_read form tables clock lists long none = (
  record {
    versions = [];
    spelled = refl;
    good = tt;
    listed = λ number. ap (map (version_in number)) (none number);
  },
  long,
)

-- the number of a row that is read is a table's
pub number_of_table : (form : Form) (tables : List TableDef) (clock : ℤ) (row : Row) (n : ℕ) (read : VersionRow) → IsReadAs form tables clock row n read → (0 < n) × (n ≤ length tables)
number_of_table form tables clock row n read (v, is, good, same) =
    let table : n ≡ v.table = ap (λ (w : TableVersion). w.table) same in
    let known = table_known tables v.table good.definition good.table in
    (omega (arith, table, known.0), omega (arith, table, known.1))

all_snoc : {A : Type 0} (P : A → Type 0) (xs : List A) (x : A) → AllByRecursion P xs → P x → AllByRecursion P (xs ++ x ∷ [])
all_snoc P [] x all one = (one, tt)
all_snoc P (y ∷ xs) x all one = (all.0, all_snoc P xs x all.1 one)

all_behind : {A : Type 0} (P : A → Type 0) (xs : List A) (x : A) (ys : List A) → AllByRecursion P (xs ++ x ∷ ys) → P x
all_behind P [] x ys all = all.0
all_behind P (y ∷ xs) x ys all = all_behind P xs x ys all.1

-- one row more is read
pub one_read : (form : Form) (tables : List TableDef) (clock : ℤ) (rows : List Row) (old new : List (List VersionRow)) (row : Row) (n : ℕ) (read : VersionRow) → AreReadSoFar form tables clock rows old
    → IsReadAs form tables clock row n read → HasMore n read old new → AreReadSoFar form tables clock (rows ++ row ∷ []) new
one_read form tables clock rows old new row n read (was, count) (v, is, good, same) more =
    let vs = was.versions in
    let table : n ≡ v.table = ap (λ (w : TableVersion). w.table) same in (
      record {
        versions = vs ++ v ∷ [];
        spelled = ap (λ (l : List Row). l ++ row ∷ []) was.spelled ∙ ap (λ (r : Row). map stored_version vs ++ r ∷ []) is ∙ sym (map-append stored_version vs (v ∷ []));
        good = all_snoc (IsGoodVersionIn form tables clock) vs v was.good good;
        listed = listed table;
      },
      more.count ∙ count,
    )
  where
    listed : n ≡ v.table → (number : ℕ) → map (version_in number) (rows_of_table new number) ≡ map (version_of form) (of_table number (was.versions ++ v ∷ []))
    listed table number =
        subst (λ (l : List TableVersion). map (version_in number) (rows_of_table new number) ≡ map (version_of form) l)
        (sym (filter-append (λ (w : TableVersion). w.table == number) was.versions (v ∷ [])))
        (go (v.table == number) refl)
      where
        go : (b : Bool) → (v.table == number) ≡ b → map (version_in number) (rows_of_table new number) ≡ map (version_of form) (of_table number was.versions ++ cond b (v ∷ []) [])
        go true at =
            let this : n ≡ number = table ∙ eqb-true v.table number at in
            let there : rows_of_table new number ≡ rows_of_table old number ++ read ∷ [] = subst (λ (m : ℕ). rows_of_table new m ≡ rows_of_table old m ++ read ∷ []) this more.there in
            let one : version_in number read ≡ version_of form v = subst (λ (m : ℕ). version_in m read ≡ version_of form v) this same in
            ap (map (version_in number)) there
            ∙ map-append (version_in number) (rows_of_table old number) (read ∷ [])
            ∙ ap₂ (λ (l : List TableVersion) (w : TableVersion). l ++ w ∷ []) (was.listed number) one
            ∙ sym (map-append (version_of form) (of_table number was.versions) (v ∷ []))
        go false off =
            let apart : number ≡ n → ⊥ = (λ at. grind (arith, nat_tests, off, at, table)) in
            ap (map (version_in number)) (more.others number apart) ∙ was.listed number ∙ ap (map (version_of form)) (sym (append-nil (of_table number was.versions)))

-- a property that one of the rows lacks is not one of all rows
pub not_all : (P : Row → Type 0) (front more : List Row) (row : Row) → ¬ P row → ¬ AllByRecursion P ((front ++ row ∷ []) ++ more)
not_all P front more row none all = none (all_behind P front row more (subst (AllByRecursion P) (append_assoc front (row ∷ []) more) all))

pub say_all : (form : Form) (tables : List TableDef) (clock : ℤ) (rows : List Row) (lists : List (List VersionRow)) → AreReadAs form tables clock rows lists → AllByRecursion (IsVersionRow form tables clock) rows
say_all form tables clock rows lists read =
    let says = IsVersionRow form tables clock in
    subst (AllByRecursion says) (sym read.spelled)
    (all-map says stored_version read.versions (all_weaker (IsGoodVersionIn form tables clock) (λ v. says (stored_version v)) (λ v good. (v, refl, good)) read.versions read.good))

-- ---- whatever contents the rows are of

same_version_row : (v w : TableVersion) → All IsColumnValue v.values → All IsColumnValue w.values → stored_version v ≡ stored_version w → v ≡ w
same_version_row v w hv hw e =
    let bytes : encoded v.values ≡ encoded w.values = cc in
    let values : v.values ≡ w.values = reads_back v.values w.values hv hw bytes in
    let table : v.table ≡ w.table = cc in
    let start : v.start ≡ w.start = cc in
    let end : v.end ≡ w.end = cc in
    let from : v.from ≡ w.from = cc in
    let to : v.to ≡ w.to = cc in
    λ i. record { table = table i; values = values i; start = start i; end = end i; from = from i; to = to i }

heads : (a b : Row) (xs ys : List Row) → ◌≡◌ {A = List Row} (a ∷ xs) (b ∷ ys) → (a ≡ b) × (xs ≡ ys)
heads a b xs ys e = (cc, cc)

same_versions : (vs ws : List TableVersion) → HaveColumnValues vs → HaveColumnValues ws → map stored_version vs ≡ map stored_version ws → vs ≡ ws
same_versions [] [] hv hw e = refl
same_versions [] (w ∷ ws) hv hw e = absurd cc
same_versions (v ∷ vs) [] hv hw e = absurd cc
same_versions (v ∷ vs) (w ∷ ws) hv hw e =
    let parts = heads (stored_version v) (stored_version w) (map stored_version vs) (map stored_version ws) e in
    ap₂ (λ (x : TableVersion) (xs : List TableVersion). x ∷ xs) (same_version_row v w hv.0 hw.0 parts.0) (same_versions vs ws hv.1 hw.1 parts.1)

pub versions_read : (db : Database) (rows : List Row) (form : Form) (tables : List TableDef) (clock : ℤ) (lists : List (List VersionRow)) (c : Contents) → IsPermutation (map version_shown (db.trees 2)) rows → AreReadAs form tables clock rows lists → HasIn form db c
    → AreVersionsOf (in_microseconds form c) lists
versions_read db rows form tables clock lists c shown read has number =
    let vs = read.versions in
    let f = version_of form in
    let of = λ (v : TableVersion). v.table == number in
    let values = λ (v : TableVersion). All IsColumnValue v.values in
    let ours : IsPermutation (map stored_version c.versions) rows =
    IsPermutation-trans (map stored_version c.versions) (map version_shown (db.trees 2)) rows (subst (λ (l : List Row). IsPermutation l (map version_shown (db.trees 2))) (twice c.versions) has.rows.says.versions) shown in
    let back = pull_back stored_version (map stored_version c.versions) rows ours c.versions refl in
    let held : HaveColumnValues back.0 = all-permutation values c.versions back.0 back.1 has.values in
    let good : HaveColumnValues vs = all_weaker (IsGoodVersionIn form tables clock) values (λ v fine. fine.held) vs read.good in
    let same : back.0 ≡ vs = same_versions back.0 vs held good (sym back.2 ∙ read.spelled) in
    let all : IsPermutation c.versions vs = subst (IsPermutation c.versions) same back.1 in
    subst₂ IsPermutation
    (sym (filter-map of f c.versions))
    (sym (read.listed number))
    (IsPermutation-map f (of_table number c.versions) (of_table number vs) (IsPermutation-filter of c.versions vs all))

-- The rows that a scan hands over, of those that the query shows.
use Rattle.std.proofs.Common.{◌≡◌, ℕ, ℤ, ◌+◌, ◌==◌, List, [], ◌∷◌, ◌++◌, map, filter, fold, take, drop, length, Bool, ◌&&◌, ◌≤ℤ◌, true, false, zero, suc, eqb-true, refl, sym, ap, ap₂, append_assoc, subst, subst₂, ◌∙◌, append-nil, arith, Option, Some, None, Result, Ok, Err, OnOk, true≢false}
use Rattle.std.specs.Prelude.{IsSorted, int_le, int_lt}
use Rattle.std.specs.List.{All, AllByRecursion}
use Rattle.std.specs.List.Sorted.{IsPermutation}
use Rattle.std.specs.Cmp.{IsStrictWeakOrder, IsTotalOrder}
use Rattle.std.specs.Ordering.{is_lt}
use Rattle.std.proofs.Math.Path.{fun_ext}
use Rattle.std.proofs.lemmas.Bool.Decides.{nat_tests}
use Rattle.std.proofs.lemmas.Int.{ints}
use Rattle.std.proofs.lemmas.Cmp.{then_total, on_total, int_cmp_total}
use Rattle.std.proofs.lemmas.List.{take-append-drop, get_or_append_left, get_or-append-add, get_or_default, length-append, length-map, drop_all, map-append, take-map}
use Rattle.std.proofs.lemmas.List.MinMax.{ranks_by}
use Rattle.std.proofs.lemmas.List.Sorted.{IsPermutation-map, IsPermutation-refl, sorted_far}
use Rattle.std.proofs.lemmas.List.Sums.{fold-append}
use Rattle.sqlite_trees.proofs.ListLemmas.{all-filter, all-permutation, all_from_map, all_weaker, filter-map, filter_none, pull_back}
use Rattle.std.proofs.Math.Seq.{take-append_seam}
use Rattle.sqlite.specs.Store.{Ghosts}
use Rattle.sqlite.specs.Order.{Row}
use Rattle.sqlite.specs.Held.{Held, state}
use Rattle.sqlite.specs.State.{HasCleanDisk}
use Rattle.period_core.specs.Encoding.{IsColumnValue}
use Rattle.period_core.specs.Moments.{forever}
use Rattle.period_core.specs.OrderLaws.{values_cmp_total}
use Rattle.period_core.specs.Windows.{window_sees}
use Rattle.period_core.specs.declared.refusal.Refusal.{Refusal}
use Rattle.period_core.specs.declared.version.VersionRow.{VersionRow}
use Rattle.period_core.specs.declared.window.Window.{Window}
use Rattle.period_core.specs.declared.window.Window.TheVariants.{Now, AsOf, FromTo, Between}
use Rattle.version_tables.specs.Giving.{AreSelected, GivesNext, HasGivenAll, HasGivenRows}
use Rattle.version_tables.specs.Represents.{Version, shown}
use Rattle.version_tables.specs.Represents as raw
use Rattle.version_tables.specs.Selections.{OfTable, selected, selects}
use Rattle.version_tables.specs.declared.selection.Selection.{Selection}
use Rattle.version_tables.specs.declared.selection.Selection.TheVariants.{Whole}
use Rattle.version_store.specs.Contents.{AreDated, AreRowsOf, Contents, HaveColumnValues, IsDated, TableVersion, of_table, version_cmp, version_in}
use Rattle.version_store.specs.Scans.{AreFirst, Selects, Visits, VisitsChosen, chosen_of, is_empty, seen_of}
use Rattle.version_tables.specs.declared.form.Form.{Form}
use Rattle.version_store.specs.Units.{in_microseconds, version_of}
use Rattle.version_store.specs.Written.{HasIn, written_in, written_version}
use Rattle.version_store.proofs.Units.{sorted_in}
use Rattle.version_store.proofs.Found.{passes, sorted_values}
use Rattle.version_store.proofs.AfterCalls.{on_ok}

-- ---- lists

pub version_cmp_total : IsTotalOrder version_cmp
version_cmp_total = then_total (on_total (λ (v : TableVersion). v.values) values_cmp_total) (then_total (on_total (λ (v : TableVersion). v.start) int_cmp_total) (on_total (λ (v : TableVersion). v.from) int_cmp_total))

abbrev below : TableVersion → TableVersion → Bool
below a b = is_lt (version_cmp a b)

below_ranks : IsStrictWeakOrder below
below_ranks = ranks_by version_cmp_total (λ v. v)

all-take : {A : Type 0} (P : A → Type 0) (n : ℕ) (xs : List A) → AllByRecursion P xs → AllByRecursion P (take n xs)
all-take P zero xs h = tt
all-take P (suc n) [] h = tt
all-take P (suc n) (x ∷ xs) h = (h.0, all-take P n xs h.1)

front_sorted : (xs ys : List TableVersion) → IsSorted version_cmp (xs ++ ys) → IsSorted version_cmp xs
front_sorted xs ys h k d low high =
    let long = length-append xs ys in
    let after = get_or_append_left xs ys d (k + 1) (omega arith) in
    let before = get_or_append_left xs ys d k (omega arith) in
    subst₂ (λ a b. below a b ≡ false) after before (h k d low (omega arith))

rest_after : (xs ys : List TableVersion) → IsSorted version_cmp (xs ++ ys) → All (λ (x : TableVersion). All (λ (y : TableVersion). below y x ≡ false) ys) xs
rest_after xs ys h i d low j e high =
    let long = length-append xs ys in
    let first = get_or_append_left xs ys d i low in
    let second = get_or-append-add xs ys j d ∙ get_or_default ys j d e high in
    subst₂ (λ a b. below a b ≡ false) second first (sorted_far below below_ranks (xs ++ ys) h i (length xs + j) d (omega arith) (omega arith))

-- ---- two moments

not_before : (a b : ℤ) → int_le b a ≡ true → int_lt a b ≡ false
not_before a b h = grind (arith, nat_tests, ints)

none_at : (m from to : ℤ) → int_le forever m ≡ true → to ≤ℤ forever → (int_le from m && int_lt m to) ≡ false
none_at m from to h late = grind (arith, nat_tests, ints)

not_up_to : (a b : ℤ) → int_lt b a ≡ true → int_le a b ≡ false
not_up_to a b h = grind (arith, nat_tests, ints)

-- ---- the rows that were given

-- the rows of the query that show versions of a table
abbrev pub as_given : List TableVersion → List Row
as_given = map (λ (v : TableVersion). shown (written_version v))

-- a visitor took the version rows which these are in microseconds
abbrev pub Took : {M : Type 0} → Form → (M → VersionRow → M) → ℕ → M → M → List TableVersion → Type 0
Took form next table old new versions = (rows : List VersionRow) × (map (version_in table) rows ≡ map (version_of form) versions) × (new ≡ fold next old rows)

-- the visitor took the versions of the table that the given rows show
abbrev pub TookShown : {M : Type 0} → Form → (M → VersionRow → M) → ℕ → M → M → List Row → Type 0
TookShown form next table old new given =
    (done : List TableVersion) → AllByRecursion (λ (v : TableVersion). (v.table == table) ≡ true) done → HaveColumnValues done → given ≡ as_given done
    → Took form next table old new done

-- the visitor took one row
abbrev pub TookOne : {M : Type 0} → Form → (M → VersionRow → M) → M → M → Row → Type 0
TookOne form next old new row =
    (v : TableVersion) → row ≡ shown (written_version v) → All IsColumnValue v.values → (read : VersionRow) × (version_in v.table read ≡ version_of form v) × (new ≡ next old read)

given_are : (ys : List TableVersion) → map shown (map written_version ys) ≡ as_given ys
given_are [] = refl
given_are (y ∷ ys) = ap (λ rows. shown (written_version y) ∷ rows) (given_are ys)

-- versions chosen by moments are those that the query selects
chosen_in : (form : Form) (table : ℕ) (selection : Selection) (chooses : ℤ → ℤ → Bool) (vs : List TableVersion) → Selects form selection chooses
    → map (version_of form) (chosen_of table (selects selection) vs) ≡ chosen_of table chooses (map (version_of form) vs)
chosen_in form table selection chooses vs sure =
    let is_chosen = λ (v : TableVersion). chooses v.from v.to in
    let same : (λ (v : TableVersion). selects selection v.from v.to) ≡ (λ v. is_chosen (version_of form v)) = fun_ext (λ v. sym (sure v.from v.to)) in
    ap (λ p. map (version_of form) (filter p (of_table table vs))) same
    ∙ sym (ap (filter is_chosen) (filter-map (λ (v : TableVersion). v.table == table) (version_of form) vs) ∙ filter-map is_chosen (version_of form) (of_table table vs))

-- the first of the versions in order, and the rest
first_are : (form : Form) (c : Contents) (table : ℕ) (selection : Selection) (chooses : ℤ → ℤ → Bool) (ys : List TableVersion) (n : ℕ) (rows : List VersionRow) → Selects form selection chooses → IsPermutation (chosen_of table (selects selection) c.versions) ys
    → IsSorted version_cmp ys → map (version_in table) rows ≡ map (version_of form) (take n ys) → AreFirst (in_microseconds form c) table chooses rows (map (version_of form) (drop n ys))
first_are form c table selection chooses ys n rows sure same up is =
    let f = version_of form in
    let parts : map f ys ≡ map (version_in table) rows ++ map f (drop n ys) = ap (map f) (sym (take-append-drop n ys)) ∙ map-append f (take n ys) (drop n ys) ∙ ap (λ l. l ++ map f (drop n ys)) (sym is) in
    let sorted = subst (IsSorted version_cmp) parts (sorted_in form ys up) in
    record {
      all = subst₂ IsPermutation (chosen_in form table selection chooses c.versions sure) parts (IsPermutation-map f _ _ same);
      sorted = front_sorted _ _ sorted;
      behind = rest_after _ _ sorted;
    }

-- ---- one row

heads : (a b : Row) (xs ys : List Row) → ◌≡◌ {A = List Row} (a ∷ xs) (b ∷ ys) → (a ≡ b) × (xs ≡ ys)
heads a b xs ys e = (cc, cc)

-- a query that gives one row more shows one version more
last_shown : (table : ℕ) (given : List Row) (row : Row) (done : List TableVersion) → given ++ row ∷ [] ≡ as_given done → AllByRecursion (λ (v : TableVersion). (v.table == table) ≡ true) done → HaveColumnValues done
    → (d : List TableVersion) × (v : TableVersion) × (done ≡ d ++ v ∷ []) × (given ≡ as_given d) × AllByRecursion (λ (w : TableVersion). (w.table == table) ≡ true) d × HaveColumnValues d × (row ≡ shown (written_version v)) × ((v.table == table) ≡ true) × All IsColumnValue v.values
last_shown table [] row [] e of held = absurd cc
last_shown table [] row (v ∷ []) e of held = ([], v, refl, refl, tt, tt, (heads _ _ _ _ e).0, of.0, held.0)
last_shown table [] row (v ∷ w ∷ done) e of held = absurd cc
last_shown table (r ∷ given) row [] e of held = absurd cc
last_shown table (r ∷ given) row (v ∷ done) e of held =
    let parts = heads _ _ _ _ e in
    let rest = last_shown table given row done parts.1 of.1 held.1 in
    (v ∷ rest.0, rest.1, ap (λ l. v ∷ l) rest.2, ap₂ (λ r rows. r ∷ rows) parts.0 rest.3, (of.0, rest.4), (held.0, rest.5), rest.6, rest.7, rest.8)

pub one_more : {M : Type 0} (form : Form) (next : M → VersionRow → M) (table : ℕ) (old mid new : M) (given : List Row) (row : Row) → TookShown form next table old mid given → TookOne form next mid new row → TookShown form next table old new (given ++ row ∷ [])
one_more form next table old mid new given row was taken done of held shows =
    let parts = last_shown table given row done shows of held in
    let before = was parts.0 parts.4 parts.5 parts.3 in
    let step = taken parts.1 parts.6 parts.8 in
    let one : version_in table step.0 ≡ version_of form parts.1 = subst (λ t. version_in t step.0 ≡ version_of form parts.1) (eqb-true _ _ parts.7) step.1 in (
      before.0 ++ step.0 ∷ [],
      map-append (version_in table) before.0 (step.0 ∷ []) ∙ ap₂ (λ a b. a ++ b ∷ []) before.1 one ∙ sym (map-append (version_of form) parts.0 (parts.1 ∷ [])) ∙ ap (map (version_of form)) (sym parts.2),
      step.2 ∙ ap (λ m. next m step.0) before.2 ∙ sym (fold-append next old before.0 (step.0 ∷ [])),
    )

-- ---- the answer of a scan

-- no row is read yet
pub none_yet : (c : Contents) (table : ℕ) (chooses : ℤ → ℤ → Bool) → AreFirst c table chooses [] (chosen_of table chooses c.versions)
none_yet c table chooses = record {
  all = IsPermutation-refl _;
  sorted = λ k d low high. absurd (omega arith);
  behind = λ k d low. absurd (omega arith);
}

chosen_written : (table : ℕ) (selection : Selection) (vs : List TableVersion) → selected table selection (map written_version vs) ≡ map written_version (chosen_of table (selects selection) vs)
chosen_written table selection vs =
    ap (filter (λ (v : Version). selects selection v.from v.to)) (filter-map (λ (v : Version). v.table == table) written_version vs)
    ∙ filter-map (λ (v : Version). selects selection v.from v.to) written_version (of_table table vs)

-- the rows that the query shows are the chosen versions, in order
pub record FoundChosen (c : Contents) (table : ℕ) (selection : Selection) (found : List Version) : Type 0 where
  pub versions : List TableVersion
  pub all : IsPermutation (chosen_of table (selects selection) c.versions) versions
  pub are : found ≡ map written_version versions

pub found_chosen : (form : Form) (c : Contents) (table : ℕ) (selection : Selection) (found : List Version) → AreSelected (written_in form c) table selection found → FoundChosen c table selection found
found_chosen form c table selection found of =
    let ours = chosen_of table (selects selection) c.versions in
    let back = pull_back written_version (map written_version ours) found (subst (λ l. IsPermutation l found) (chosen_written table selection c.versions) of.all) ours refl in
    record { versions = back.0; all = back.1; are = back.2 }

pub visits : {M X : Type 0} (form : Form) (next : M → VersionRow → M) (c : Contents) (table : ℕ) (selection : Selection) (chooses : ℤ → ℤ → Bool) (old new : M) (result : Result X Refusal) (found : List Version) (given more : List Row) → Selects form selection chooses
    → HaveColumnValues c.versions → given ++ more ≡ map shown found → AreSelected (written_in form c) table selection found → TookShown form next table old new given → OnOk result (more ≡ []) → VisitsChosen next (in_microseconds form c) table chooses old new result
visits form next c table selection chooses old new result found given more sure held shows of took all =
    let theirs = of_table table c.versions in
    let ours = chosen_of table (selects selection) c.versions in
    let is_chosen = λ (v : TableVersion). selects selection v.from v.to in
    let back = found_chosen form c table selection found of in
    let ys = back.versions in
    let values = λ (v : TableVersion). All IsColumnValue v.values in
    let hx : HaveColumnValues ours = all-filter values is_chosen theirs (all-filter values (λ v. v.table == table) c.versions held) in
    let hy : HaveColumnValues ys = all-permutation values ours ys back.all hx in
    let at = λ (v : TableVersion). (v.table == table) ≡ true in
    let these : AllByRecursion at ys = all-permutation at ours ys back.all (all-filter at is_chosen theirs (passes (λ (v : TableVersion). v.table == table) c.versions)) in
    let sorted = sorted_values ys hy (subst (IsSorted raw.version_cmp) back.are of.sorted) in
    let n = length given in
    let whole : given ++ more ≡ as_given ys = shows ∙ ap (map shown) back.are ∙ given_are ys in
    let firsts : given ≡ as_given (take n ys) = sym (take-append_seam given more) ∙ ap (take n) whole ∙ take-map (λ (v : TableVersion). shown (written_version v)) n ys in
    let taken = took (take n ys) (all-take at n ys these) (all-take values n ys hy) firsts in
    let long = length-append given more in
    let wide : length (given ++ more) ≡ length ys = ap length whole ∙ length-map ys (λ (v : TableVersion). shown (written_version v)) in (
      taken.0,
      map (version_of form) (drop n ys),
      first_are form c table selection chooses ys n taken.0 sure back.all sorted taken.1,
      taken.2,
      on_ok result (λ none. ap (map (version_of form)) (drop_all n ys (omega (arith, long, wide, ap length none)))) all,
    )

-- equal contents are visited in one way
pub visits_same : {M X : Type 0} (next : M → VersionRow → M) (c d : Contents) (table : ℕ) (chooses : ℤ → ℤ → Bool) (old new : M) (result : Result X Refusal) → c ≡ d → VisitsChosen next c table chooses old new result → VisitsChosen next d table chooses old new result
visits_same next c d table chooses old new result same visited = subst (λ (e : Contents). VisitsChosen next e table chooses old new result) same visited

-- a visitor that collects each row of a scan collects all rows
kept_all : (before rows : List VersionRow) → fold (λ (kept : List VersionRow) (row : VersionRow). kept ++ row ∷ []) before rows ≡ before ++ rows
kept_all before [] = sym (append-nil before)
kept_all before (row ∷ rows) = kept_all (before ++ row ∷ []) rows ∙ append_assoc before (row ∷ []) rows

whole_of : (vs : List TableVersion) → filter (λ (v : TableVersion). selects Whole v.from v.to) vs ≡ vs
whole_of [] = refl
whole_of (v ∷ vs) = ap (λ l. v ∷ l) (whole_of vs)

-- all versions of a table, if all are chosen
pub all_rows : {X : Type 0} (c : Contents) (table : ℕ) (old new : List VersionRow) (x : X) → old ≡ [] → VisitsChosen (λ (kept : List VersionRow) (row : VersionRow). kept ++ row ∷ []) c table (selects Whole) old new (let r : Result X Refusal = Ok x in r)
    → AreRowsOf c table new
all_rows c table old new x none visited =
    let rows : List VersionRow = visited.0 in
    let is : new ≡ rows = visited.3 ∙ ap (λ (o : List VersionRow). fold (λ (kept : List VersionRow) (row : VersionRow). kept ++ row ∷ []) o rows) none ∙ kept_all [] rows in
    let first : AreFirst c table (selects Whole) rows [] = subst (AreFirst c table (selects Whole) rows) visited.4 visited.2 in
    subst (AreRowsOf c table) (sym is)
    (record {
      all = subst₂ IsPermutation (whole_of (of_table table c.versions)) (append-nil (map (version_in table) rows)) first.all;
      sorted = first.sorted;
    })

-- a row that the query gives shows a version that can be read
abbrev pub ShowsReadable : Form → Row → Type 0
ShowsReadable form row = (v : TableVersion) × (row ≡ shown (written_version v)) × IsDated (version_of form v) × All IsColumnValue v.values

pub given_readable : (form : Form) (c : Contents) (table : ℕ) (selection : Selection) (found : List Version) (given : List Row) (row : Row) (more : List Row) → HaveColumnValues c.versions → AreDated (in_microseconds form c).versions
    → (given ++ row ∷ []) ++ more ≡ map shown found → AreSelected (written_in form c) table selection found → ShowsReadable form row
given_readable form c table selection found given row more held dated shows of =
    let back = found_chosen form c table selection found of in
    let is_chosen = λ (v : TableVersion). selects selection v.from v.to in
    let kept = λ (P : TableVersion → Type 0) (all : AllByRecursion P c.versions). all-permutation P _ back.versions back.all (all-filter P is_chosen (of_table table c.versions) (all-filter P (λ v. v.table == table) c.versions all)) in
    let rows : (given ++ row ∷ []) ++ more ≡ as_given back.versions = shows ∙ ap (map shown) back.are ∙ given_are back.versions in
    among given row more back.versions (sym (append_assoc given (row ∷ []) more) ∙ rows) (kept (λ v. IsDated (version_of form v)) (all_from_map IsDated (version_of form) c.versions dated)) (kept (λ v. All IsColumnValue v.values) held)
  where
    among : (given : List Row) (row : Row) (more : List Row) (vs : List TableVersion) → given ++ row ∷ more ≡ as_given vs → AllByRecursion (λ v. IsDated (version_of form v)) vs → HaveColumnValues vs → ShowsReadable form row
    among [] row more [] e dated held = absurd cc
    among [] row more (v ∷ vs) e dated held = (v, (heads _ _ _ _ e).0, dated.0, held.0)
    among (r ∷ given) row more [] e dated held = absurd cc
    among (r ∷ given) row more (v ∷ vs) e dated held = among given row more vs (heads _ _ _ _ e).1 dated.1 held.1

-- an empty window sees no version that has days and moments
empty_sees : (window : Window) → is_empty window ≡ true → (from to : ℤ) → to ≤ℤ forever → window_sees window from to ≡ false
empty_sees Now h from to late = absurd (true≢false (sym h))
empty_sees (AsOf m) h from to late = none_at m from to h late
empty_sees (FromTo a b) h from to late = rw (not_before a b h) refl
empty_sees (Between a b) h from to late = rw (not_up_to a b h) refl

pub none_visits : {M : Type 0} (next : M → VersionRow → M) (c : Contents) (table : ℕ) (window : Window) (old : M) → is_empty window ≡ true → AreDated c.versions → Visits next c table window old old (let r : Result (Unit {0}) Refusal = Ok (tt {0}) in r)
none_visits next c table window old empty dated =
    let ours = of_table table c.versions in
    let none : seen_of table window c.versions ≡ [] = filter_none (λ (v : TableVersion). window_sees window v.from v.to) ours
    (all_weaker IsDated (λ (v : TableVersion). window_sees window v.from v.to ≡ false) (λ v d. empty_sees window empty v.from v.to d.to.1) ours (all-filter IsDated (λ v. v.table == table) c.versions dated)) in
    ([], [], subst (AreFirst c table (window_sees window) []) none (none_yet c table (window_sees window)), refl, refl)

-- the query of the table has given rows, and the visitor took what they show
abbrev pub HasVisited : {S M : Type 0} → Ghosts S → Form → (M → VersionRow → M) → ℕ → Selection → Held S → Held S → M → M → Type 0
HasVisited g form next table selection first now old new = (given : List Row) × HasGivenRows g (OfTable table selection) first now given × TookShown form next table old new given

module _ {S M : Type 0} (g : Ghosts S) (form : Form) (next : M → VersionRow → M) (table : ℕ) (selection : Selection) (first : Held S) where
  -- no row is given to the visitor yet
  pub none_visited : (now : Held S) (n : ℕ) (old : M) → n ≡ table → HasGivenRows g (OfTable n selection) first now [] → HasVisited g form next table selection first now old old
  none_visited now n old same begun = ([], subst (λ t. HasGivenRows g (OfTable t selection) first now []) same begun, none)
    where
      none : TookShown form next table old old []
      none [] of held shows = ([], refl, refl)
      none (v ∷ done) of held shows = absurd cc

  -- one row more was given and taken
  pub one_visited : (before now : Held S) (old mid new : M) (was : HasVisited g form next table selection first before old mid) (row : Row) (after : Option Row) → GivesNext g (OfTable table selection) first now was.0 after → after ≡ Some row
      → TookOne form next mid new row → HasVisited g form next table selection first now old new
  one_visited before now old mid new was row after gives is taken = (was.0 ++ row ∷ [], rw is at gives, one_more form next table old mid new was.0 row was.2 taken)

  -- a visitor's refusal, if the query has given the rows so far
  pub some_visits : (now : Held S) (old mid new : M) (refusal : Refusal) → HasVisited g form next table selection first now old mid → new ≡ mid → HasCleanDisk (state g now) → (c : Contents) → HasIn form (state g first).now c
      → (chooses : ℤ → ℤ → Bool) → Selects form selection chooses → VisitsChosen next (in_microseconds form c) table chooses old new (let r : Result (Unit {0}) Refusal = Err refusal in r)
  some_visits now old mid new refusal was same clean c has chooses sure =
      let shows = was.1.rows clean (written_in form c) has.rows in
      visits {X = Unit {0}} form next c table selection chooses old new (Err refusal) shows.1.0 was.0 shows.0 sure has.values shows.1.1 shows.1.2 (subst (λ m. TookShown form next table old m was.0) (sym same) was.2) tt

  -- the visitor has visited all rows at the end of the query
  pub all_visits : (before now : Held S) (old new : M) (was : HasVisited g form next table selection first before old new) (after : Option Row) → GivesNext g (OfTable table selection) first now was.0 after → after ≡ None
      → HasCleanDisk (state g now) → (c : Contents) → HasIn form (state g first).now c → (chooses : ℤ → ℤ → Bool) → Selects form selection chooses
      → VisitsChosen next (in_microseconds form c) table chooses old new (let r : Result (Unit {0}) Refusal = Ok (tt {0}) in r)
  all_visits before now old new was after gives is clean c has chooses sure =
      let all : HasGivenAll g (OfTable table selection) first now was.0 = rw is at gives in
      let shows = all.rows clean (written_in form c) has.rows in
      visits {X = Unit {0}} form next c table selection chooses old new (Ok (tt {0})) shows.0 was.0 [] sure has.values (append-nil was.0 ∙ shows.1) shows.2 was.2 refl

  -- a row that was given last
  pub last_readable : (before now : Held S) (old mid : M) (was : HasVisited g form next table selection first before old mid) (row : Row) (after : Option Row) → GivesNext g (OfTable table selection) first now was.0 after → after ≡ Some row
      → HasCleanDisk (state g now) → (c : Contents) → HasIn form (state g first).now c → AreDated (in_microseconds form c).versions → ShowsReadable form row
  last_readable before now old mid was row after gives is clean c has dated =
      let on : HasGivenRows g (OfTable table selection) first now (was.0 ++ row ∷ []) = rw is at gives in
      let shows = on.rows clean (written_in form c) has.rows in
      given_readable form c table selection shows.1.0 was.0 row shows.0 has.values dated shows.1.1 shows.1.2

-- Needed rows of those that references see are enough: a query gives the same of them.
use Rattle.std.proofs.Common.{◌≡◌, ◌↔◌, ◌&&◌, ◌==◌, ◌<◌, ◌+◌, ◌++◌, ◌∷◌, ◌∙◌, ℕ, ℤ, Bool, true, List, [], None, Option, append_assoc, append-nil, arith, eqb-true, length, length-append, map, refl, set, Some, suc, sym, ap, subst, subst₂, inl, inr, zero}
use Rattle.std.specs.Prelude.{slice_get, slice_index_or}
use Rattle.std.specs.List.{AllByRecursion, AllZip, Contains, list_all}
use Rattle.std.specs.List.Sorted.{IsPermutation}
use Rattle.std.specs.Option.{is_some}
use Rattle.std.proofs.lemmas.Bool.{and_parts, cases_lt}
use Rattle.std.proofs.lemmas.Bool.Decides.{nat_tests}
use Rattle.std.proofs.lemmas.List.{length-map}
use Rattle.std.proofs.lemmas.Slice.Zip.{AllZip-long}
use Rattle.std.proofs.lemmas.List.Sorted.{Contains-permutation, IsPermutation-sym}
use Rattle.sqlite_trees.proofs.ListLemmas.{IsPermutation-filter, all-append, all_both, filter-map}
use Rattle.period_core.specs.Windows.{window_sees}
use Rattle.period_core.specs.declared.row.PeriodRow.{PeriodRow}
use Rattle.period_core.specs.declared.value.Value.{Value}
use Rattle.period_core.specs.declared.version.VersionRow.{VersionRow}
use Rattle.temporal_model.specs.Snapshot.{Equivalent, InSnapshot}
use Rattle.temporal_model.proofs.Members.{Contains-cons_cases, Contains-nil}
use Rattle.temporal_model.proofs.Snapshots.{InSnapshot-start, held}
use Rattle.sql_statements.specs.declared.tree.SetOperator.{SetOperator}
use Rattle.sql_statements.specs.declared.tree.SetOperator.TheVariants.{Except, Intersect, Union}
use Rattle.sql_statements.specs.declared.tree.Tree.{Tree}
use Rattle.catalog_core.specs.declared.condition.CompareValues.{CompareValues}
use Rattle.catalog_core.specs.declared.query.resolved.QueryReference.{QueryReference}
use Rattle.catalog_core.specs.declared.table.Column.{Column}
use Rattle.catalog_core.specs.declared.table.TableDef.{TableDef}
use Rattle.catalog_core.specs.query.Fitting.{are_in_place, fits, has_kinds, sees_its_kinds}
use Rattle.catalog_core.specs.query.Queries.{Query, both, one, references_of, rows_for}
use Rattle.catalog_core.specs.table.Kinds.{kind_of_column}
use Rattle.catalog_core.specs.table.TableWords.{table_of, value_columns}
use Rattle.history_model.specs.Histories.{History, catalog_of}
use Rattle.history_model.specs.OrdinaryQuery.{VisibleInHistory, InCombined, InProduct, InQuery, VisibleInTables, meets_all}
use Rattle.history_model.specs.Versions.{row_of}
use Rattle.period_keys.proofs.Members.{from_filter, from_map, in_map}
use Rattle.version_store.specs.Contents.{Contents, TableVersion, of_table, version_in}
use Rattle.version_store.specs.GoodStore.{AreGood, IsGoodVersion, NoExtraCondition}
use Rattle.version_store.specs.RowValues.{are_of_columns, is_of_column}
use Rattle.version_store.specs.Scans.{seen_of}
use Rattle.ended_versions.specs.Packed.{seen_through}
use Rattle.script_engine.specs.engine.Answering.{AreRowsSeen, IsKnown, IsOfCatalog, SeesRows}
use Rattle.script_engine.specs.engine.Needed.{AddNeeded, AreNeeded, AreRead, AreReadBelow, AreSeen, HaveRowFrom, HasReadFrom, InRead, InRows, IsNeeded, IsNeededAfter, IsNeededBy, IsOfRead, IsPrunedAfter, IsReadIn, IsSeenIfRead, ReadOn, SeesWidth, starts_from}
use Rattle.script_engine.specs.engine.Stored.{AreOfHistory, TablesRepresent}
use Rattle.script_engine.specs.engine.TablesState.{TablesState}
use Rattle.script_engine.specs.declared.engine.read_lists.PlacedReferences.{PlacedReferences}
use Rattle.script_engine.proofs.Answering.{at_length}
use Rattle.script_engine.proofs.Fits.{all_are, each_among, rows_fit}
use Rattle.script_engine.proofs.Seen.{sees_rows}

abbrev Conditions : Type 0
Conditions = List (Tree CompareValues)

-- ---- the width of rows

values_long : (columns : List (ℕ × Column)) (values : List Value) → are_of_columns columns values ≡ true → length values ≡ length columns
values_long [] [] h = refl
values_long [] (v ∷ values) h = absurd cc
values_long (c ∷ columns) [] h = absurd cc
values_long (c ∷ columns) (v ∷ values) h =
    let rest = values_long columns values (and_parts (is_of_column c.1.kind v) (are_of_columns columns values) h).1 in
    omega (arith, rest)

each_in : {X : Type 0} (P : X → Type 0) (xs : List X) → AllByRecursion P xs → (x : X) → Contains xs x → P x
each_in P [] all x among = absurd (Contains-nil x among)
each_in P (y ∷ ys) all x among = elim (Contains-cons_cases y ys x among) [
  | inl same ↦ subst P same all.0
  | inr later ↦ each_in P ys all.1 x later
]

-- the table of this number has so many value columns, if it exists
abbrev pub IsWidth : List TableDef → ℕ → ℕ → Type 0
IsWidth tables number width = (d : TableDef) → table_of tables number ≡ Some d → width ≡ length (value_columns d)

-- a reference has as many kinds as its table has value columns
pub known_width : (tables : List TableDef) (reference : QueryReference) → IsKnown tables reference → IsWidth tables reference.table (length reference.kinds)
known_width tables reference (table, there, kinds) other is =
    let same : table ≡ other = (let one = sym there ∙ is in cc) in
    subst (λ (t : TableDef). length reference.kinds ≡ length (value_columns t)) same
    (ap length kinds ∙ length-map (value_columns table) (λ (column : ℕ × Column). kind_of_column column.1.kind))

-- the references of both sides are known
pub known_sides : (tables : List TableDef) (first second : List QueryReference) → AllByRecursion (IsKnown tables) (first ++ second) → AllByRecursion (IsKnown tables) first × AllByRecursion (IsKnown tables) second
known_sides tables [] second known = (tt, known)
known_sides tables (reference ∷ first) second (its, known) = let (before, after) = known_sides tables first second known in ((its, before), after)

module _ (c : Contents) (number width : ℕ) (good : AreGood NoExtraCondition c) (wide : IsWidth c.tables number width) where
  good_width : (v : VersionRow) → Contains c.versions (version_in number v) → length v.values ≡ width
  good_width v among =
      let is = each_in (IsGoodVersion c.tables c.clock) c.versions good.versions (version_in number v) among in
      values_long (value_columns is.definition) v.values is.values ∙ sym (wide is.definition is.table)

  table_width : (versions : List VersionRow) → IsPermutation (of_table number c.versions) (map (version_in number) versions) → (v : VersionRow) → Contains versions v → length v.values ≡ width
  table_width versions all v among =
      let its : List TableVersion = map (version_in number) versions in
      let here : Contains (of_table number c.versions) (version_in number v) =
      Contains-permutation its (of_table number c.versions) (version_in number v) (IsPermutation-sym (of_table number c.versions) its all) (in_map (version_in number) versions v among) in
      good_width v (from_filter (λ (w : TableVersion). w.table == number) c.versions (version_in number v) here).0

-- all that a reference sees are values of rows of its table
module _ (history : History) (c : Contents) (reference : QueryReference) (said : AreOfHistory history c) where
  abbrev held_rows : List VersionRow
  held_rows = (said.versions reference.table).rows

  abbrev shown_rows : List VersionRow
  shown_rows = seen_through reference.window held_rows

  shown_seen : SeesRows history reference (map row_of shown_rows)
  shown_seen =
      let table : ℕ = reference.table in
      let holds = said.versions table in
      let through : TableVersion → Bool = λ v. window_sees reference.window v.from v.to in
      let are : AreRowsSeen c table reference.window (map row_of shown_rows) = record {
        versions = shown_rows;
        all =
            subst (IsPermutation (seen_of table reference.window c.versions)) (filter-map through (version_in table) holds.rows)
            (IsPermutation-filter through (of_table table c.versions) (map (version_in table) holds.rows) holds.all);
        made = refl;
      } in
      sees_rows history c reference (map row_of shown_rows) said are

  -- rows that the reference sees have as many values as its table has value columns
  pub sees_width : (width : ℕ) → IsWidth c.tables reference.table width → SeesWidth history reference width
  sees_width width wide day values sees =
      let (row, among, same, on) = held (map row_of shown_rows) day values ((shown_seen.daily day values).1 sees) in
      let (version, its, made) = from_map row_of shown_rows row among in
      let whole : Contains held_rows version = (from_filter (λ (v : VersionRow). window_sees reference.window v.from v.to) held_rows version its).0 in
      sym (ap (λ (r : PeriodRow). length r.values) made ∙ ap length same) ∙ table_width c reference.table width said.good wide held_rows (said.versions reference.table).all version whole

  -- rows that the reference sees have values of its columns' kinds
  sees_kinds : IsKnown c.tables reference → (day : ℤ) (values : List Value) → VisibleInHistory history day reference values → has_kinds reference.kinds values ≡ true
  sees_kinds known day values sees =
      let (row, among, same, on) = held (map row_of shown_rows) day values ((shown_seen.daily day values).1 sees) in
      let fit = rows_fit history c said reference known (map row_of shown_rows) shown_seen in
      subst (λ (v : List Value). has_kinds reference.kinds v ≡ true) same (each_in (λ (r : PeriodRow). has_kinds reference.kinds r.values ≡ true) (map row_of shown_rows) fit row among)

  -- rows of those that the reference sees have these kinds too
  pub seen_kinds : (rows : List PeriodRow) → IsKnown c.tables reference → AreSeen history reference rows → list_all (λ (row : PeriodRow). has_kinds reference.kinds row.values) rows ≡ true
  seen_kinds rows known seen =
      all_are (λ (row : PeriodRow). has_kinds reference.kinds row.values) rows
      (each_among (λ (row : PeriodRow). has_kinds reference.kinds row.values ≡ true) rows
      (λ row among. sees_kinds known row.period.start row.values (seen row.period.start row.values (InSnapshot-start rows row among))))

-- each of the references sees rows of as many values as it has kinds
abbrev pub SeeWidths : History → List QueryReference → Type 0
SeeWidths history = AllByRecursion (λ (reference : QueryReference). SeesWidth history reference (length reference.kinds))

see_widths : (history : History) (c : Contents) (references : List QueryReference) → AreOfHistory history c → AllByRecursion (IsKnown c.tables) references → SeeWidths history references
see_widths history c [] said known = tt
see_widths history c (reference ∷ references) said (its, more) =
    (sees_width history c reference said (length reference.kinds) (known_width c.tables reference its), see_widths history c references said more)

-- references to tables of the catalog do
pub known_widths : (history : History) (c : Contents) (references : List QueryReference) → AreOfHistory history c → AllByRecursion (IsKnown (catalog_of history)) references → SeeWidths history references
known_widths history c references said known = see_widths history c references said (subst (λ (tables : List TableDef). AllByRecursion (IsKnown tables) references) (sym said.tables) known)

-- ---- the rows that a reference needs

-- rows with the same snapshots as those that are looked up
pub looked_up_alike : (HasKnown : ℤ → List Value → Type 0) (conjuncts : Conditions) (start : ℕ) (InSet : ℤ → List Value → Type 0) (rows others : List PeriodRow) → Equivalent rows others → IsPrunedAfter HasKnown conjuncts start InSet rows → IsPrunedAfter HasKnown conjuncts start InSet others
looked_up_alike HasKnown conjuncts start InSet rows others same looked = record {
  sound = λ day values h. looked.sound day values ((same day values).1 h);
  complete = λ day first values rest long known sees met. (same day values).0 (looked.complete day first values rest long known sees met);
}

-- rows that are needed whatever is read
pub needed_always : (history : History) (starts : List ℕ) (lists : List (Option (List PeriodRow))) (conjuncts : Conditions) (start : ℕ) (reference : QueryReference) (rows : List PeriodRow) → IsNeeded history conjuncts start reference rows →
    IsNeededAfter history starts lists conjuncts start reference rows
needed_always history starts lists conjuncts start reference rows needed = record {
  sound = needed.sound;
  complete = λ day first values rest long known sees met. needed.complete day first values rest long sees met;
}

zip_get : {A B : Type 0} (R : A → B → Type 0) (xs : List A) (ys : List B) (place : ℕ) (x : A) (y : B) → AllZip R xs ys → slice_get xs place ≡ Some x → slice_get ys place ≡ Some y → R x y
zip_get R [] ys place x y all there its = absurd cc
zip_get R (a ∷ xs) [] place x y all there its = absurd cc
zip_get R (a ∷ xs) (b ∷ ys) zero x y all there its = let same : a ≡ x = cc in let other : b ≡ y = cc in subst₂ R same other all.0
zip_get R (a ∷ xs) (b ∷ ys) (suc place) x y all there its = zip_get R xs ys place x y all.1 there its

-- rows that are needed after one of those of a list that is read
pub needed_after_list : (history : History) (starts : List ℕ) (lists : List (Option (List PeriodRow))) (conjuncts : Conditions) (start : ℕ) (reference : QueryReference) (place at : ℕ) (previous rows : List PeriodRow) → slice_get starts place ≡ Some at →
    slice_get lists place ≡ Some (Some previous) → IsPrunedAfter (HaveRowFrom previous at) conjuncts start (λ day. VisibleInHistory history day reference) rows → IsNeededAfter history starts lists conjuncts start reference rows
needed_after_list history starts lists conjuncts start reference place at previous rows there its pruned = record {
  sound = pruned.sound;
  complete = λ day first values rest long known sees met.
      pruned.complete day first values rest long (zip_get (HasReadFrom day (first ++ (values ++ rest))) starts lists place at (Some previous) known there its) sees met;
}

-- ---- lists of which some are read

-- before any is read
none_seen : (history : History) (references : List QueryReference) → AllZip (IsSeenIfRead history) references (map (λ (reference : QueryReference). None) references)
none_seen history [] = tt
none_seen history (reference ∷ references) = (tt, none_seen history references)

none_stand : (history : History) (day : ℤ) (references : List QueryReference) (values : List Value) → InProduct (VisibleInHistory history day) references values → InRead history references (map (λ (reference : QueryReference). None) references) day values
none_stand history day [] values h = h
none_stand history day (reference ∷ references) values (first, rest, sees, others, is) = (first, rest, sees, tt, none_stand history day references rest others, is)

pub none_are_read : (history : History) (conjuncts : Conditions) (references : List QueryReference) → AreRead history conjuncts references (map (λ (reference : QueryReference). None) references)
none_are_read history conjuncts references = record {
  sound = none_seen history references;
  complete = λ day values product met. none_stand history day references values product;
}

-- the values of one reference in a combined row, which are to be of its list
part_at : (history : History) (day : ℤ) (start : ℕ) (references : List QueryReference) (lists : List (Option (List PeriodRow))) (place at : ℕ) (reference : QueryReference) (values : List Value) → SeeWidths history references →
    slice_get references place ≡ Some reference → slice_get (starts_from start references) place ≡ Some at → InRead history references lists day values →
    (before : List Value) × (its : List Value) × (behind : List Value) × (start + length before ≡ at) × VisibleInHistory history day reference its × (before ++ (its ++ behind) ≡ values)
    × ((rows : List PeriodRow) → InSnapshot rows day its → InRead history references (set lists place (Some rows)) day values)
part_at history day start [] lists place at reference values wide there begins stand = absurd cc
part_at history day start (r ∷ references) [] place at reference values wide there begins stand = absurd stand
part_at history day start (r ∷ references) (list ∷ lists) zero at reference values wide there begins (first, rest, sees, of, more, is) =
    let same : r ≡ reference = cc in
    let here : start ≡ at = cc in
    ([], first, rest, omega (arith, here), subst (λ (s : QueryReference). VisibleInHistory history day s first) same sees, is, λ rows its. (first, rest, sees, its, more, is))
part_at history day start (r ∷ references) (list ∷ lists) (suc place) at reference values (wide, wider) there begins (first, rest, sees, of, more, is) =
    let (before, its, behind, long, see, joined, put) = part_at history day (start + length r.kinds) references lists place at reference rest wider there begins more in
    let sizes = length-append first before in
    let one = wide day first sees in
    (first ++ before, its, behind, omega (arith, sizes, one, long), see, append_assoc first before (its ++ behind) ∙ ap (λ (l : List Value). first ++ l) joined ∙ is, λ rows here. (first, rest, sees, of, put rows here, is))

-- a combined row has rows of the lists that are read
has_here : (day : ℤ) (before first rest values : List Value) (start : ℕ) (list : Option (List PeriodRow)) → length before ≡ start → first ++ rest ≡ values → IsOfRead list day first → HasReadFrom day (before ++ values) start list
has_here day before first rest values start None long is of = tt
has_here day before first rest values start (Some rows) long is of = (first, of, (before, rest, long, ap (λ (l : List Value). before ++ l) is))

have_read : (history : History) (day : ℤ) (start : ℕ) (references : List QueryReference) (lists : List (Option (List PeriodRow))) (before values : List Value) → SeeWidths history references → length before ≡ start → InRead history references lists day values →
    AllZip (HasReadFrom day (before ++ values)) (starts_from start references) lists
have_read history day start [] [] before values wide long stand = tt
have_read history day start [] (list ∷ lists) before values wide long stand = absurd stand
have_read history day start (reference ∷ references) [] before values wide long stand = absurd stand
have_read history day start (reference ∷ references) (list ∷ lists) before values (wide, wider) long (first, rest, sees, of, more, is) =
    let longer : length (before ++ first) ≡ start + length reference.kinds = (let sizes = length-append before first in let its = wide day first sees in omega (arith, sizes, its, long)) in (
      has_here day before first rest values start list long is of,
      subst (λ (whole : List Value). AllZip (HasReadFrom day whole) (starts_from (start + length reference.kinds) references) lists) (append_assoc before first rest ∙ ap (λ (l : List Value). before ++ l) is)
          (have_read history day (start + length reference.kinds) references lists (before ++ first) rest wider longer more),
    )

zip_set : {A B : Type 0} (R : A → B → Type 0) (xs : List A) (ys : List B) (place : ℕ) (x : A) (y : B) → AllZip R xs ys → slice_get xs place ≡ Some x → R x y → AllZip R xs (set ys place y)
zip_set R [] ys place x y all there its = absurd cc
zip_set R (a ∷ xs) [] place x y all there its = absurd all
zip_set {A = A} R (a ∷ xs) (b ∷ ys) zero x y all there its = let same : x ≡ a = cc in (subst (λ (z : A). R z y) same its, all.1)
zip_set R (a ∷ xs) (b ∷ ys) (suc place) x y all there its = (all.0, zip_set R xs ys place x y all.1 there its)

-- one list more is read
pub read_more : (history : History) (conjuncts : Conditions) (references : List QueryReference) (lists : List (Option (List PeriodRow))) (place at : ℕ) (reference : QueryReference) (rows : List PeriodRow) → SeeWidths history references →
    slice_get references place ≡ Some reference → slice_get (starts_from 0 references) place ≡ Some at → IsNeededAfter history (starts_from 0 references) lists conjuncts at reference rows → AreRead history conjuncts references lists →
    AreRead history conjuncts references (set lists place (Some rows))
read_more history conjuncts references lists place at reference rows wide there begins needed old = record {
  sound = zip_set (IsSeenIfRead history) references lists place reference (Some rows) old.sound there needed.sound;
  complete = λ day values product met.
      let stand = old.complete day values product met in
      let (before, its, behind, long, sees, is, put) = part_at history day 0 references lists place at reference values wide there begins stand in
      let known : AllZip (HasReadFrom day (before ++ (its ++ behind))) (starts_from 0 references) lists =
      subst (λ (whole : List Value). AllZip (HasReadFrom day whole) (starts_from 0 references) lists) (sym is) (have_read history day 0 references lists [] values wide refl stand) in
      put rows (needed.complete day before its behind (omega (arith, long)) known sees (subst (λ (v : List Value). meets_all conjuncts v ≡ true) (sym is) met));
}

width_at : (history : History) (references : List QueryReference) (place : ℕ) (reference : QueryReference) → SeeWidths history references → slice_get references place ≡ Some reference → SeesWidth history reference (length reference.kinds)
width_at history [] place reference widths there = absurd cc
width_at history (r ∷ references) zero reference widths there = let same : r ≡ reference = cc in subst (λ (s : QueryReference). SeesWidth history s (length s.kinds)) same widths.0
width_at history (r ∷ references) (suc place) reference widths there = width_at history references place reference widths.1 there

-- the list of the reference in a place
pub read_at_place : (history : History) (c : Contents) (references : List QueryReference) (starts : List ℕ) (lists : List (Option (List PeriodRow))) (conjuncts others : Conditions) (place at width : ℕ) (reference : QueryReference) (rows : List PeriodRow) → AreOfHistory history c →
    AllByRecursion (IsKnown (catalog_of history)) references → starts ≡ starts_from 0 references → others ≡ conjuncts → slice_get references place ≡ Some reference → slice_get starts place ≡ Some at → width ≡ length reference.kinds →
    (SeesWidth history reference width → IsNeededAfter history starts lists others at reference rows) → AreRead history conjuncts references lists → AreRead history conjuncts references (set lists place (Some rows))
read_at_place history c references starts lists conjuncts others place at width reference rows said known starts_are same there begins wide needed old =
    let widths : SeeWidths history references = known_widths history c references said known in
    let its : SeesWidth history reference width = subst (SeesWidth history reference) (sym wide) (width_at history references place reference widths there) in
    read_more history conjuncts references lists place at reference rows widths there (subst (λ (l : List ℕ). slice_get l place ≡ Some at) starts_are begins)
    (subst₂ (λ (l : List ℕ) (cs : Conditions). IsNeededAfter history l lists cs at reference rows) starts_are same (needed its)) old

-- ---- lists that stay read

no_less : (place : ℕ) → place < 0 → ⊥
no_less place below = omega (arith, below)

pub read_on_none : (tables : TablesState) (select : PlacedReferences) (lists : List (Option (List PeriodRow))) → ReadOn tables select lists lists
read_on_none tables select lists = record { count = refl; kept = λ place read. read; needed = λ history represents known starts_are read. read }

-- reading on and on, over tables that stay the same
pub read_on_more : (tables same : TablesState) (select : PlacedReferences) (old middle new : List (Option (List PeriodRow))) → same ≡ tables → ReadOn tables select old middle → ReadOn same select middle new → ReadOn tables select old new
read_on_more tables same select old middle new is first more = record {
  count = more.count ∙ first.count;
  kept = λ place read. more.kept place (first.kept place read);
  needed = λ history represents known starts_are read.
      more.needed history (subst (TablesRepresent history) (sym is) represents) known starts_are (first.needed history represents known starts_are read);
}

pub read_set : (lists : List (Option (List PeriodRow))) (place : ℕ) (rows : List PeriodRow) → place < length lists → IsReadIn (set lists place (Some rows)) place
read_set [] place rows below = absurd (no_less place below)
read_set (list ∷ lists) zero rows below = (rows, refl)
read_set (list ∷ lists) (suc place) rows below = read_set lists place rows (omega (arith, below))

stays_read : (lists : List (Option (List PeriodRow))) (place other : ℕ) (rows its : List PeriodRow) → slice_get lists other ≡ Some (Some its) → IsReadIn (set lists place (Some rows)) other
stays_read [] place other rows its there = absurd cc
stays_read (list ∷ lists) zero zero rows its there = (rows, refl)
stays_read (list ∷ lists) zero (suc other) rows its there = (its, there)
stays_read (list ∷ lists) (suc place) zero rows its there = (its, there)
stays_read (list ∷ lists) (suc place) (suc other) rows its there = stays_read lists place other rows its there

pub kept_set : (lists : List (Option (List PeriodRow))) (place : ℕ) (rows : List PeriodRow) (other : ℕ) → IsReadIn lists other → IsReadIn (set lists place (Some rows)) other
kept_set lists place rows other (its, there) = stays_read lists place other rows its there

-- a list that is there is read
pub read_there : (lists : List (Option (List PeriodRow))) (place : ℕ) (list : Option (List PeriodRow)) → slice_get lists place ≡ Some list → is_some list ≡ true → IsReadIn lists place
read_there lists place None there some = absurd cc
read_there lists place (Some rows) there some = (rows, there)

pub read_below_more : (old new : List (Option (List PeriodRow))) (place : ℕ) → AreReadBelow old place → ((other : ℕ) → IsReadIn old other → IsReadIn new other) → IsReadIn new place → AreReadBelow new (place + 1)
read_below_more old new place below keep here other less = elim (cases_lt other place) [
  | inl before ↦ keep other (below other before)
  | inr behind ↦ let same : place ≡ other = omega (arith, behind, less) in subst (IsReadIn new) same here
]

pub none_below : (lists : List (Option (List PeriodRow))) → AreReadBelow lists 0
none_below lists place below = absurd (no_less place below)

-- the next list is read
behind_added : (added : List (List PeriodRow)) (list : Option (List PeriodRow)) (rest : List (Option (List PeriodRow))) → slice_get (map Some added ++ list ∷ rest) (length added) ≡ Some list
behind_added [] list rest = refl
behind_added (rows ∷ added) list rest = behind_added added list rest

pub next_is_read : (read : List (Option (List PeriodRow))) (added : List (List PeriodRow)) (list : Option (List PeriodRow)) (rest : List (Option (List PeriodRow))) → AreReadBelow read (length read) → read ≡ map Some added ++ list ∷ rest →
    (rows : List PeriodRow) × (list ≡ Some rows)
next_is_read read added list rest all split =
    let sizes = length-append (map Some added) (list ∷ rest) in
    let long = length-map added Some in
    let whole = ap length split in
    let (rows, there) = all (length added) (omega (arith, sizes, long, whole)) in
    let here : slice_get read (length added) ≡ Some list = ap (λ (l : List (Option (List PeriodRow))). slice_get l (length added)) split ∙ behind_added added list rest in
    let same : list ≡ Some rows = (let both = sym here ∙ there in cc) in
    (rows, same)

-- each reference has a start and a list
starts_long : (start : ℕ) (references : List QueryReference) → length (starts_from start references) ≡ length references
starts_long start [] = refl
starts_long start (reference ∷ references) = let rest = starts_long (start + length reference.kinds) references in omega (arith, rest)

pub starts_as_many : (starts : List ℕ) (references : List QueryReference) → starts ≡ starts_from 0 references → length starts ≡ length references
starts_as_many starts references are = ap length are ∙ starts_long 0 references

-- all are read
all_seen : (history : History) (references : List QueryReference) (lists : List (List PeriodRow)) → AllZip (IsSeenIfRead history) references (map Some lists) → AllZip (AreSeen history) references lists
all_seen history [] [] seen = tt
all_seen history [] (rows ∷ lists) seen = absurd seen
all_seen history (reference ∷ references) [] seen = absurd seen
all_seen history (reference ∷ references) (rows ∷ lists) seen = (seen.0, all_seen history references lists seen.1)

all_stand : (history : History) (day : ℤ) (references : List QueryReference) (lists : List (List PeriodRow)) (values : List Value) → InRead history references (map Some lists) day values → InRows lists day values
all_stand history day [] [] values stand = stand
all_stand history day [] (rows ∷ lists) values stand = absurd stand
all_stand history day (reference ∷ references) [] values stand = absurd stand
all_stand history day (reference ∷ references) (rows ∷ lists) values (first, rest, sees, here, more, is) = (first, rest, here, all_stand history day references lists rest more, is)

pub all_are_read : (history : History) (conjuncts : Conditions) (references : List QueryReference) (lists : List (List PeriodRow)) → AreRead history conjuncts references (map Some lists) → AreNeeded history conjuncts references lists
all_are_read history conjuncts references lists read = record {
  sound = all_seen history references lists read.sound;
  complete = λ day values product met. all_stand history day references lists values (read.complete day values product met);
}

-- ---- lists in their places

-- each list is in the place of its reference
abbrev ArePlaced : List (List PeriodRow) → List QueryReference → List (List PeriodRow) → Type 0
ArePlaced tables = AllZip (λ reference rows. rows_for tables reference ≡ rows)

-- the lists in the places of a query's references are what it needs
abbrev QueryNeededIn : List (List PeriodRow) → History → Query → Type 0
QueryNeededIn tables history (one select) = (lists : List (List PeriodRow)) × ArePlaced tables select.references lists × AreNeeded history select.conjuncts select.references lists
QueryNeededIn tables history (both operator left right) = QueryNeededIn tables history left × QueryNeededIn tables history right

query_as_many : (history : History) (query : Query) (lists : List (List PeriodRow)) → IsNeededBy history query lists → length lists ≡ length (references_of query)
query_as_many history (one select) lists needed = AllZip-long (AreSeen history) select.references lists needed.sound
query_as_many history (both operator left right) lists (first, second, split, a, b) =
    let one_side = query_as_many history left first a in
    let other = query_as_many history right second b in
    let here = length-append first second in
    let there = length-append (references_of left) (references_of right) in
    ap length split ∙ omega (arith, one_side, other, here, there)

-- places that count up, of the first references and of those after them
placed_parts : (place : ℕ) (xs ys : List QueryReference) → are_in_place place (xs ++ ys) ≡ true → (are_in_place place xs ≡ true) × (are_in_place (place + length xs) ys ≡ true)
placed_parts place [] ys h = (refl, subst (λ (n : ℕ). are_in_place n ys ≡ true) (omega arith) h)
placed_parts place (x ∷ xs) ys h =
    let (here, behind) = and_parts (x.place == place) (are_in_place (place + 1) (xs ++ ys)) h in
    let (first, rest) = placed_parts (place + 1) xs ys behind in
    (both_true (x.place == place) (are_in_place (place + 1) xs) here first, subst (λ (n : ℕ). are_in_place n ys ≡ true) (omega arith) rest)
  where
    both_true : (a b : Bool) → a ≡ true → b ≡ true → (a && b) ≡ true
    both_true a b e f = rw e f

placed : (history : History) (references : List QueryReference) (before lists behind : List (List PeriodRow)) → are_in_place (length before) references ≡ true → AllZip (AreSeen history) references lists → ArePlaced (before ++ (lists ++ behind)) references lists
placed history [] before [] behind in_place seen = tt
placed history [] before (rows ∷ lists) behind in_place seen = absurd seen
placed history (reference ∷ references) before [] behind in_place seen = absurd seen
placed history (reference ∷ references) before (rows ∷ lists) behind in_place seen =
    let all : List (List PeriodRow) = before ++ rows ∷ (lists ++ behind) in
    let (here, later) = and_parts (reference.place == length before) (are_in_place (length before + 1) references) in_place in
    let at : reference.place ≡ length before = eqb-true reference.place (length before) here in
    let long : length before + 1 ≡ length (before ++ rows ∷ []) = (let sizes = length-append before (rows ∷ []) in omega (arith, sizes)) in (
      ap (λ (n : ℕ). slice_index_or all n []) at ∙ at_length before rows (lists ++ behind),
      subst (λ (l : List (List PeriodRow)). ArePlaced l references lists) (append_assoc before (rows ∷ []) (lists ++ behind))
          (placed history references (before ++ rows ∷ []) lists behind (subst (λ (n : ℕ). are_in_place n references ≡ true) long later) seen.1),
    )

query_placed : (history : History) (query : Query) (before lists behind : List (List PeriodRow)) → are_in_place (length before) (references_of query) ≡ true → IsNeededBy history query lists → QueryNeededIn (before ++ (lists ++ behind)) history query
query_placed history (one select) before lists behind in_place needed = (lists, placed history select.references before lists behind in_place needed.sound, needed)
query_placed history (both operator left right) before lists behind in_place (first, second, split, a, b) =
    let (here, later) = placed_parts (length before) (references_of left) (references_of right) in_place in
    let many = query_as_many history left first a in
    let long : length before + length (references_of left) ≡ length (before ++ first) = (let sizes = length-append before first in omega (arith, sizes, many)) in
    let whole : first ++ (second ++ behind) ≡ lists ++ behind = sym (append_assoc first second behind) ∙ ap (λ (l : List (List PeriodRow)). l ++ behind) (sym split) in (
      subst (λ (l : List (List PeriodRow)). QueryNeededIn (before ++ l) history left) whole (query_placed history left before first (second ++ behind) here a),
      subst (λ (l : List (List PeriodRow)). QueryNeededIn l history right) (append_assoc before first (second ++ behind) ∙ ap (λ (l : List (List PeriodRow)). before ++ l) whole)
          (query_placed history right (before ++ first) second behind (subst (λ (n : ℕ). are_in_place n (references_of right) ≡ true) long later) b),
    )

-- ---- the answer of a query over needed rows

module _ (tables : List (List PeriodRow)) (history : History) (day : ℤ) where
  -- rows that are there are seen
  sound_product : (references : List QueryReference) (lists : List (List PeriodRow)) (values : List Value) → ArePlaced tables references lists → AllZip (AreSeen history) references lists →
      InProduct (VisibleInTables tables day) references values → InProduct (VisibleInHistory history day) references values
  sound_product [] lists values in_place seen h = h
  sound_product (reference ∷ references) [] values in_place seen h = absurd seen
  sound_product (reference ∷ references) (rows ∷ lists) values (its, more) (here, others) (first, rest, there, product, is) =
      (first, rest, here day first (subst (λ (l : List PeriodRow). InSnapshot l day first) its there), sound_product references lists rest more others product, is)

  -- values of a row of each list are there
  there_product : (references : List QueryReference) (lists : List (List PeriodRow)) (values : List Value) → ArePlaced tables references lists → InRows lists day values → InProduct (VisibleInTables tables day) references values
  there_product [] [] values in_place stand = stand
  there_product [] (rows ∷ lists) values in_place stand = absurd in_place
  there_product (reference ∷ references) [] values in_place stand = absurd in_place
  there_product (reference ∷ references) (rows ∷ lists) values (its, more) (first, rest, here, stand, is) =
      (first, rest, subst (λ (l : List PeriodRow). InSnapshot l day first) (sym its) here, there_product references lists rest more stand, is)

  combined_alike : (operator : SetOperator) (A B C D : List Value → Type 0) → ((row : List Value) → (A row ↔ C row)) → ((row : List Value) → (B row ↔ D row)) → (row : List Value) → (InCombined operator A B row ↔ InCombined operator C D row)
  combined_alike Union A B C D left right row = (
    λ h. elim h [ inl a ↦ inl ((left row).0 a) | inr b ↦ inr ((right row).0 b) ],
    λ h. elim h [ inl c ↦ inl ((left row).1 c) | inr d ↦ inr ((right row).1 d) ],
  )
  combined_alike Except A B C D left right row = (
    λ (a, none). ((left row).0 a, λ d. none ((right row).1 d)),
    λ (c, none). ((left row).1 c, λ b. none ((right row).0 b)),
  )
  combined_alike Intersect A B C D left right row = (
    λ (a, b). ((left row).0 a, (right row).0 b),
    λ (c, d). ((left row).1 c, (right row).1 d),
  )

  given_alike : (query : Query) → QueryNeededIn tables history query → (row : List Value) → (InQuery (VisibleInTables tables day) query row ↔ InQuery (VisibleInHistory history day) query row)
  given_alike (one select) (lists, in_place, needed) row = (
    λ (values, product, met, its). (values, sound_product select.references lists values in_place needed.sound product, met, its),
    λ (values, product, met, its). (values, there_product select.references lists values in_place (needed.complete day values product met), met, its),
  )
  given_alike (both operator left right) (a, b) row =
      combined_alike operator (InQuery (VisibleInTables tables day) left) (InQuery (VisibleInTables tables day) right) (InQuery (VisibleInHistory history day) left) (InQuery (VisibleInHistory history day) right)
      (given_alike left a) (given_alike right b) row

-- a query gives of needed lists that fit it, on each day, what it gives in the history
pub needed_alike : (history : History) (query : Query) (tables : List (List PeriodRow)) → fits query tables ≡ true → IsNeededBy history query tables → (day : ℤ) (row : List Value) →
    (InQuery (VisibleInTables tables day) query row ↔ InQuery (VisibleInHistory history day) query row)
needed_alike history query tables fit needed day row =
    let (counted, kinds) = and_parts (are_in_place 0 (references_of query) && (length tables == length (references_of query))) (list_all (sees_its_kinds tables) (references_of query)) fit in
    let (in_place, long) = and_parts (are_in_place 0 (references_of query)) (length tables == length (references_of query)) counted in
    given_alike tables history day query (subst (λ (l : List (List PeriodRow)). QueryNeededIn l history query) (append-nil tables) (query_placed history query [] tables [] in_place needed)) row

-- ---- the lists fit

kinds_placed : (history : History) (c : Contents) (tables : List (List PeriodRow)) (references : List QueryReference) (lists : List (List PeriodRow)) → AreOfHistory history c → ArePlaced tables references lists → AllZip (AreSeen history) references lists →
    AllByRecursion (λ (r : QueryReference). IsKnown c.tables r → sees_its_kinds tables r ≡ true) references
kinds_placed history c tables [] lists said in_place seen = tt
kinds_placed history c tables (reference ∷ references) [] said in_place seen = absurd seen
kinds_placed history c tables (reference ∷ references) (rows ∷ lists) said (its, more) (here, others) = (
  λ known. seen_kinds history c reference said (rows_for tables reference) known (subst (AreSeen history reference) (sym its) here),
  kinds_placed history c tables references lists said more others,
)

query_kinds : (history : History) (c : Contents) (tables : List (List PeriodRow)) (query : Query) → AreOfHistory history c → QueryNeededIn tables history query →
    AllByRecursion (λ (r : QueryReference). IsKnown c.tables r → sees_its_kinds tables r ≡ true) (references_of query)
query_kinds history c tables (one select) said (lists, in_place, needed) = kinds_placed history c tables select.references lists said in_place needed.sound
query_kinds history c tables (both operator left right) said (a, b) =
    all-append (λ (r : QueryReference). IsKnown c.tables r → sees_its_kinds tables r ≡ true) (references_of left) (references_of right) (query_kinds history c tables left said a) (query_kinds history c tables right said b)

-- lists that a query of the catalog needs in a history fit the query
pub needed_fits : (history : History) (c : Contents) (query : Query) (tables : List (List PeriodRow)) → AreOfHistory history c → IsOfCatalog c.tables query → IsNeededBy history query tables → fits query tables ≡ true
needed_fits history c query tables said known needed =
    let references = references_of query in
    let long : (length tables == length references) ≡ true = (let same = query_as_many history query tables needed in grind (arith, nat_tests, same)) in
    let its : QueryNeededIn tables history query = subst (λ (l : List (List PeriodRow)). QueryNeededIn l history query) (append-nil tables) (query_placed history query [] tables [] known.placed needed) in
    let kinds : AllByRecursion (λ (r : QueryReference). sees_its_kinds tables r ≡ true) references =
    all_both (IsKnown c.tables) (λ (r : QueryReference). IsKnown c.tables r → sees_its_kinds tables r ≡ true) (λ (r : QueryReference). sees_its_kinds tables r ≡ true) (λ r is so. so is) references known.known
    (query_kinds history c tables query said its) in
    rw (known.placed, long, all_are (sees_its_kinds tables) references kinds) refl

-- ---- lists that are added

pub added_both : (history : History) (operator : SetOperator) (left right : Query) (lists middle new : List (List PeriodRow)) → AddNeeded (IsNeededBy history left) lists middle → AddNeeded (IsNeededBy history right) middle new →
    AddNeeded (IsNeededBy history (both operator left right)) lists new
added_both history operator left right lists middle new (first, made, a) (second, made_more, b) =
    (first ++ second, made_more ∙ ap (λ (l : List (List PeriodRow)). l ++ second) made ∙ append_assoc lists first second, (first, second, refl, a, b))

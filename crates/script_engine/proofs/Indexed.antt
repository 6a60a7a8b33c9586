-- The tables in memory follow a catalog: with more indexes, with one table written, and without the last.
use Rattle.std.proofs.Common.{◌≡◌, ◌<◌, ◌≤◌, ◌-◌, ◌++◌, ◌∷◌, ◌∙◌, ℕ, zero, suc, List, [], None, Some, Result, Ok, Err, OnErr, OnOk, inl, inr, length, length-append, map, refl, set, sym, take, ap, ap₂, subst, arith}
use Rattle.std.specs.List.{slice_get}
use Rattle.std.specs.Option.{option_map}
use Rattle.std.specs.List.Sorted.{IsPermutation}
use Rattle.std.proofs.lemmas.List.Sorted.{IsPermutation-append_right, IsPermutation-trans}
use Rattle.std.proofs.lemmas.List.{length-map, length-set, map-set}
use Rattle.std.proofs.lemmas.Option.{slice_get-map, slice_get_within}
use Rattle.period_core.specs.declared.version.VersionRow.{VersionRow}
use Rattle.catalog_core.specs.create.Lawful.{IsLawful}
use Rattle.catalog_core.specs.table.TableWords.{table_of}
use Rattle.catalog_core.specs.declared.change.Action.{Action}
use Rattle.catalog_core.specs.declared.change.Plan.{Plan}
use Rattle.catalog_core.specs.declared.table.TableDef.{TableDef}
use Rattle.history_model.proofs.Lists.{exchange}
use Rattle.version_store.specs.GoodStore.{AreLawful}
use Rattle.period_keys.specs.Current.{HaveIndexes, HaveMoreIndexes, IsIndexedBy, rows_by_key}
use Rattle.period_keys.specs.Lawful.{own_positions, parent_positions}
use Rattle.period_keys.specs.Planned.{IsPlanOf}
use Rattle.period_keys.specs.TableRows.{HasTableRows, TableRows}
use Rattle.period_keys.proofs.FaultFacts.{split_of}
use Rattle.period_keys.proofs.TableLists.{have_indexes_set, indexed_still, more_cases, more_first, same_count}
use Rattle.script_engine.specs.engine.InMemory.{FollowCatalog, HaveRows, rows_in}
use Rattle.script_engine.proofs.InMemory.{have_rows_set, some_rows}
use Rattle.script_engine.proofs.LastState.{lawful_less, lawful_more}

-- ---- the rows of tables

rows_at : (tables : List TableRows) (place : ℕ) (table : TableRows) → slice_get tables place ≡ Some table → slice_get (map rows_by_key tables) place ≡ Some (rows_by_key table)
rows_at [] place table is = cc
rows_at (t ∷ tables) zero table is = let same : t ≡ table = cc in ap (λ (t : TableRows). Some (rows_by_key t)) same
rows_at (t ∷ tables) (suc place) table is = rows_at tables place table is

pub rows_there : (tables : List TableRows) (number : ℕ) (table : TableRows) → table_of tables number ≡ Some table → table_of (map rows_by_key tables) number ≡ Some (rows_by_key table)
rows_there tables zero table is = cc
rows_there tables (suc place) table is = rows_at tables place table is

pub none_there : (tables : List TableRows) (number : ℕ) → table_of tables number ≡ None → table_of (map rows_by_key tables) number ≡ None
none_there tables zero is = refl
none_there tables (suc place) is = slice_get-map rows_by_key tables place ∙ ap (option_map rows_by_key) is

-- ---- one table written

pub have_written : (tables : List TableRows) (number : ℕ) (old new : TableRows) (wanted : List VersionRow) → table_of tables number ≡ Some old → HasTableRows wanted old new →
    HaveRows number wanted (map rows_by_key tables) (map rows_by_key (set tables (number - 1) new))
have_written tables zero old new wanted there has = cc
have_written tables (suc place) old new wanted there has =
    let e : suc place - 1 ≡ place = omega arith in
    rw e (subst (HaveRows (suc place) wanted (map rows_by_key tables)) (sym (map-set rows_by_key tables place new))
    (have_rows_set (map rows_by_key tables) place (rows_by_key old) (rows_by_key new) wanted (rows_at tables place old there) (record { positions = has.positions; rows = has.rows })))

pub follow_written : (catalog : List TableDef) (tables : List TableRows) (number : ℕ) (old new : TableRows) → table_of tables number ≡ Some old → new.indexed ≡ old.indexed → FollowCatalog catalog tables → FollowCatalog catalog (set tables (number - 1) new)
follow_written catalog tables zero old new there same was = cc
follow_written catalog tables (suc place) old new there same was =
    let e : suc place - 1 ≡ place = omega arith in
    rw e (record {
      lawful = was.lawful;
      count = length-set tables place new ∙ was.count;
      indexed = have_indexes_set catalog tables place old new there same was.indexed;
    })

-- ---- more indexes, and one table more or less

pub follow_more : (catalog : List TableDef) (old new : List TableRows) → HaveMoreIndexes old new → FollowCatalog catalog old → FollowCatalog catalog new
follow_more catalog old new more was = record {
  lawful = was.lawful;
  count = same_count old new more ∙ was.count;
  indexed = λ number child is reference parent in_child parent_is. indexed_still old new number child reference parent more (was.indexed number child is reference parent in_child parent_is);
}

pub follow_created : (catalog : List TableDef) (d : TableDef) (old new : List TableRows) (key : List ℕ) → FollowCatalog catalog old → IsLawful catalog d →
    map rows_by_key new ≡ map rows_by_key old ++ record { positions = key; rows = [] } ∷ [] → HaveIndexes (catalog ++ d ∷ []) new → FollowCatalog (catalog ++ d ∷ []) new
follow_created catalog d old new key was lawful rows indexed = record {
  lawful = lawful_more [] catalog d was.lawful lawful;
  count =
      (let long : length new ≡ length (map rows_by_key old ++ record { positions = key; rows = [] } ∷ []) = sym (length-map new rows_by_key) ∙ ap length rows in
      let before = was.count in
      omega (arith, long, before, length-append (map rows_by_key old) (record { positions = key; rows = [] } ∷ []), length-map old rows_by_key, length-append catalog (d ∷ [])));
  indexed = indexed;
}

-- an index of one of the tables before the last is in the list without the last
earlier_index : (before : List TableRows) (last : TableRows) (number : ℕ) (positions : List ℕ) → number ≤ length before → IsIndexedBy (before ++ last ∷ []) number positions → IsIndexedBy before number positions
earlier_index before last zero positions inside (table, is, has) = cc
earlier_index before last (suc place) positions inside (table, is, has) =
    elim (more_cases before last table place is) [
      | inl first ↦ (table, first, has)
      | inr (at_end, same) ↦ absurd (omega (arith, inside, at_end))
    ]

pub follow_without_last : (catalog : List TableDef) (d : TableDef) (before : List TableRows) (last : TableRows) → AreLawful [] catalog → length before ≡ length catalog → HaveIndexes (catalog ++ d ∷ []) (before ++ last ∷ []) → FollowCatalog catalog before
follow_without_last catalog d before last lawful count indexed = record { lawful = lawful; count = count; indexed = at }
  where
    within : (tables : List TableDef) (number : ℕ) (t : TableDef) → table_of tables number ≡ Some t → number ≤ length tables
    within tables zero t is = cc
    within tables (suc place) t is = let inside : place < length tables = slice_get_within tables place t is in omega (arith, inside)

    still_there : (number : ℕ) (t : TableDef) → table_of catalog number ≡ Some t → table_of (catalog ++ d ∷ []) number ≡ Some t
    still_there zero t is = cc
    still_there (suc place) t is = more_first catalog d t place is

    at : HaveIndexes catalog before
    at number child is reference parent in_child parent_is =
        let all = indexed number child (still_there number child is) reference parent in_child (still_there reference.parent parent parent_is) in
        let below : number ≤ length catalog = within catalog number child is in
        let above : reference.parent ≤ length catalog = within catalog reference.parent parent parent_is in
        record {
          children = earlier_index before last number (own_positions child reference) (omega (arith, below, count)) all.children;
          parents = earlier_index before last reference.parent (parent_positions parent reference) (omega (arith, above, count)) all.parents;
        }

-- the last of as many tables as there are definitions
split_last : (tables : List TableRows) (count : ℕ) → length tables ≡ suc count → (before : List TableRows) × (end : TableRows) × (tables ≡ before ++ end ∷ [])
split_last [] count long = absurd (omega (arith, long))
split_last (t ∷ []) count long = ([], t, refl)
split_last (t ∷ u ∷ tables) zero long = absurd (omega (arith, long))
split_last (t ∷ u ∷ tables) (suc count) long =
    let (before, end, parts) = split_last (u ∷ tables) count (omega (arith, long)) in
    (t ∷ before, end, ap (λ (l : List TableRows). t ∷ l) parts)

-- without its last table memory follows the catalog without its last definition
pub follow_popped : (catalog : List TableDef) (last : TableDef) (old new : List TableRows) (count : ℕ) → count ≡ length old → new ≡ take (count - 1) old → FollowCatalog (catalog ++ last ∷ []) old → FollowCatalog catalog new
follow_popped catalog last old new count counted popped was =
    let followed = was.count in
    let long : length old ≡ suc (length catalog) = omega (arith, followed, length-append catalog (last ∷ [])) in
    let (before, end, parts) = split_last old (length catalog) long in
    let whole : length old ≡ length (before ++ end ∷ []) = ap length parts in
    let size : length before ≡ length catalog = omega (arith, long, whole, length-append before (end ∷ [])) in
    let places : count - 1 ≡ length before = omega (arith, counted, long, size) in
    let rest : new ≡ before = popped ∙ ap₂ (λ (n : ℕ) (l : List TableRows). take n l) places parts ∙ first_of before end in
    subst (FollowCatalog catalog) (sym rest) (follow_without_last catalog last before end (lawful_less [] catalog last was.lawful) size (subst (HaveIndexes (catalog ++ last ∷ [])) parts was.indexed))
  where
    first_of : (before : List TableRows) (end : TableRows) → take (length before) (before ++ end ∷ []) ≡ before
    first_of [] end = refl
    first_of (t ∷ before) end = ap (λ (l : List TableRows). t ∷ l) (first_of before end)

-- tables with more indexes have the same rows
pub same_rows_of : (old new : List TableRows) → HaveMoreIndexes old new → map rows_by_key new ≡ map rows_by_key old
same_rows_of old new more = more.same

-- ---- results of calls

pub on_ok_both : {X E : Type 0} {P Q R : Type 0} (r : Result X E) → (P → Q → R) → OnOk r P → OnOk r Q → OnOk r R
on_ok_both (Ok x) f p q = f p q
on_ok_both (Err e) f p q = tt

pub on_err_from : {X E : Type 0} {P Q : Type 0} (r : Result X E) → (P → Q) → OnErr r P → OnErr r Q
on_err_from (Ok x) f p = tt
on_err_from (Err e) f p = f p

-- ---- a plan

-- the rows that a plan ends are some of those that it is made over
pub ended_there : (action : Action) (rows : List VersionRow) (plan : Plan) → IsPlanOf action rows plan → (stay : List VersionRow) × IsPermutation rows (plan.ended ++ stay)
ended_there action rows plan planned = let (stay, taken, effect) = split_of action rows plan planned in (stay, taken)

-- the rows in memory of a table's number
pub rows_of_table : (tables : List TableRows) (number : ℕ) (table : TableRows) → table_of tables number ≡ Some table → rows_in (map rows_by_key tables) number ≡ table.rows
rows_of_table tables number table is = some_rows (map rows_by_key tables) number (rows_by_key table) (rows_there tables number table is)

-- the rows that end and those that stay, with those that began
pub parted_rows : (old middle : TableRows) (begins ended stay : List VersionRow) → HasTableRows (begins ++ old.rows) old middle → IsPermutation old.rows (ended ++ stay) → IsPermutation middle.rows (ended ++ (begins ++ stay))
parted_rows old middle begins ended stay grown split =
    IsPermutation-trans middle.rows (begins ++ old.rows) (ended ++ (begins ++ stay)) grown.rows
    (IsPermutation-trans (begins ++ old.rows) (begins ++ (ended ++ stay)) (ended ++ (begins ++ stay))
    (IsPermutation-append_right begins old.rows (ended ++ stay) split)
    (exchange begins ended stay))

-- once those that end are gone, the rest are left
pub taken_after : (old middle new : TableRows) (begins stay : List VersionRow) → HasTableRows (begins ++ old.rows) old middle → HasTableRows (begins ++ stay) middle new → HasTableRows (begins ++ stay) old new
taken_after old middle new begins stay grown taken = record {
  positions = taken.positions ∙ grown.positions;
  indexed = taken.indexed ∙ grown.indexed;
  rows = taken.rows;
}

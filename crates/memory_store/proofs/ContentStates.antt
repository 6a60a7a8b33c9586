-- The state of a content after a change of its trees, and before it.
use Rattle.std.proofs.Common.{◌≡◌, ◌<◌, ◌≤◌, ◌-◌, ◌∙◌, [], ◌∷◌, ◌++◌, List, ap, arith, get_or, length, map, refl, set, suc, sym, zero, ℕ}
use Rattle.std.proofs.lemmas.List.{get_or-set_same, length-append, length-map, map-append, map-set, set-get_or, set_past, take_at}
use Rattle.sqlite_value.specs.Order.{Row}
use Rattle.sqlite_trees.specs.declared.store.Shape.{Shape}
use Rattle.sqlite_trees.specs.Listing.{Heading, no_heading, shape_in}
use Rattle.sqlite_trees.specs.View.{IsShaped}
use Rattle.ordered_rows.specs.declared.undo.Undo.{Undo as RowsUndo}
use Rattle.ordered_rows.specs.Undos.{undone}
use Rattle.memory_store.specs.declared.tree.StoredTree.{StoredTree}
use Rattle.memory_store.specs.declared.log_entry.LogEntry.TheVariants as entry
use Rattle.memory_store.specs.Content.{heading}
use Rattle.memory_store.specs.ContentStates.{RowsFitShapes, before, rows_at, shorter, state_in}
use Rattle.memory_store.proofs.Snapshots.{place_of}

set_twice : {X : Type 0} (xs : List X) (t : ℕ) (y z : X) → set (set xs t y) t z ≡ set xs t z
set_twice [] t y z = refl
set_twice (x ∷ xs) zero y z = refl
set_twice (x ∷ xs) (suc t) y z = ap (λ l. x ∷ l) (set_twice xs t y z)

-- an overwritten element is written back
pub set_back : {X : Type 0} (xs : List X) (t : ℕ) (y z d : X) → z ≡ get_or xs t d → set (set xs t y) t z ≡ xs
set_back xs t y z d is = set_twice xs t y z ∙ ap (set xs t) is ∙ set-get_or xs t d

rows_in : StoredTree → List Row
rows_in tree = tree.rows

module _ (trees : List StoredTree) (version t : ℕ) where
  -- undoing the replacement of a tree gives the state before
  pub state_set : (x : StoredTree) → state_in (set trees t x) version ≡ before (entry.Replaced t x) (state_in trees version)
  unfolding rows_in
  state_set x = λ i. record { headings = map-set heading trees t x i; rows = map-set rows_in trees t x i; version = version }

  pub set_unset : (x old : StoredTree) → t < length trees → old ≡ get_or trees t old → before (entry.Replaced t old) (state_in (set trees t x) version) ≡ state_in trees version
  unfolding rows_in
  set_unset x old within is =
      let at = place_of trees t old within is in
      ap (before (entry.Replaced t old)) (state_set x) ∙ (λ i. record {
        headings = set_back (map heading trees) t (heading x) (heading old) no_heading (sym at.0) i;
        rows = set_back (map rows_in trees) t x.rows old.rows [] (sym at.1) i;
        version = version;
      })

  past_headings : length trees ≤ t → length (map heading trees) ≤ t
  past_headings past = rw length-map past

  past_rows : length trees ≤ t → length (map rows_in trees) ≤ t
  past_rows past = rw length-map past

  -- undoing the replacement of a tree past the last changes nothing
  pub tree_past : (x : StoredTree) → length trees ≤ t → state_in trees version ≡ before (entry.Replaced t x) (state_in trees version)
  unfolding rows_in
  tree_past x past = sym (λ i. record {
    headings = set_past (map heading trees) t (heading x) (past_headings past) i;
    rows = set_past (map rows_in trees) t x.rows (past_rows past) i;
    version = version;
  })

  pub rows_past : (u : RowsUndo) → length trees ≤ t → state_in trees version ≡ before (entry.Rows t u) (state_in trees version)
  unfolding rows_in
  rows_past u past = sym (λ i. record (state_in trees version) { rows = set_past (map rows_in trees) t (undone u (rows_at (state_in trees version) t)) (past_rows past) i })

  pub listed_past : (described : Row) (reals : ℕ) → length trees ≤ t → state_in trees version ≡ before (entry.Relisted t described reals) (state_in trees version)
  listed_past described reals past = sym (λ i. record (state_in trees version) { headings = set_past (map heading trees) t (shape_in (map heading trees) t, reals, described) (past_headings past) i })

  module _ (x : StoredTree) (within : t < length trees) (is : x ≡ get_or trees t x) where
    at : (get_or (map heading trees) t no_heading ≡ heading x) × (rows_at (state_in trees version) t ≡ x.rows)
    at = place_of trees t x within is

    -- the rows of one tree are edited
    pub state_edited : (y : StoredTree) → heading y ≡ heading x → state_in (set trees t y) version ≡ record (state_in trees version) { rows = set (state_in trees version).rows t y.rows }
    unfolding rows_in
    state_edited y same =
        let headings : map heading (set trees t y) ≡ map heading trees = map-set heading trees t y ∙ ap (set (map heading trees) t) (same ∙ sym at.0) ∙ set-get_or (map heading trees) t no_heading in
        λ i. record { headings = headings i; rows = map-set rows_in trees t y i; version = version }

    pub rows_undone : (y : StoredTree) (u : RowsUndo) → heading y ≡ heading x → y.rows ≡ undone u x.rows → state_in (set trees t y) version ≡ before (entry.Rows t u) (state_in trees version)
    rows_undone y u same rows = state_edited y same ∙ ap (λ r. record (state_in trees version) { rows = set (state_in trees version).rows t r }) (rows ∙ ap (undone u) (sym at.1))

    -- an edit of its rows is undone
    pub rows_back : (y : StoredTree) (u : RowsUndo) → heading y ≡ heading x → undone u y.rows ≡ x.rows → before (entry.Rows t u) (state_in (set trees t y) version) ≡ state_in trees version
    unfolding rows_in
    rows_back y u same back =
        let rows = (state_in trees version).rows in
        let edited : rows_at (record (state_in trees version) { rows = set rows t y.rows }) t ≡ y.rows = get_or-set_same rows t y.rows [] (rw length-map within) in
        ap (before (entry.Rows t u)) (state_edited y same)
        ∙ (λ i. record (state_in trees version) { rows = set_back rows t y.rows (undone u (get_or (set rows t y.rows) t [])) [] (ap (undone u) edited ∙ back ∙ sym at.1) i })

    here : shape_in (map heading trees) t ≡ x.shape
    here = ap (λ (h : Heading). h.0) at.0

    -- a tree whose listing alone differs gives the state before
    pub state_listed : (y : StoredTree) → y.shape ≡ x.shape → y.rows ≡ x.rows → state_in (set trees t y) version ≡ before (entry.Relisted t y.described y.reals) (state_in trees version)
    unfolding rows_in
    state_listed y shape rows =
        let same : map rows_in (set trees t y) ≡ map rows_in trees = map-set rows_in trees t y ∙ ap (set (map rows_in trees) t) (rows ∙ sym at.1) ∙ set-get_or (map rows_in trees) t [] in
        λ i. record {
          headings = (map-set heading trees t y ∙ ap (λ (k : Shape). set (map heading trees) t (k, y.reals, y.described)) (shape ∙ sym here)) i;
          rows = same i;
          version = version;
        }

    pub listed_back : (y : StoredTree) → y.shape ≡ x.shape → y.rows ≡ x.rows → before (entry.Relisted t x.described x.reals) (state_in (set trees t y) version) ≡ state_in trees version
    listed_back y shape rows =
        let hs = map heading trees in
        let anew : Heading = (shape_in hs t, y.reals, y.described) in
        let shape_stays : shape_in (set hs t anew) t ≡ x.shape = ap (λ (h : Heading). h.0) (get_or-set_same hs t anew no_heading (rw length-map within)) ∙ here in
        let old : (shape_in (set hs t anew) t, x.reals, x.described) ≡ get_or hs t no_heading = (λ i. (shape_stays i, x.reals, x.described)) ∙ sym at.0 in
        ap (before (entry.Relisted t x.described x.reals)) (state_listed y shape rows)
        ∙ (λ i. record (state_in trees version) { headings = set_back hs t anew (shape_in (set hs t anew) t, x.reals, x.described) no_heading old i })

    -- the rows after an edit is undone have the shape of their tree
    pub shaped_at : (u : RowsUndo) → RowsFitShapes (before (entry.Rows t u) (state_in trees version)) → IsShaped x.shape (undone u x.rows)
    shaped_at u h =
        let rows = (state_in trees version).rows in
        let edited : rows_at (before (entry.Rows t u) (state_in trees version)) t ≡ undone u x.rows =
        get_or-set_same rows t (undone u (rows_at (state_in trees version) t)) [] (rw length-map within) ∙ ap (undone u) at.1 in
        rw (here, edited) at (h t)

-- the last number is taken back
pub shorter_push : {X : Type 0} (xs : List X) (x : X) → shorter (xs ++ x ∷ []) ≡ xs
shorter_push xs x = take_at xs (x ∷ []) (length (xs ++ x ∷ []) - 1) (omega (arith, length-append xs (x ∷ [])))

pub grown_back : (trees : List StoredTree) (version : ℕ) (x : StoredTree) → before entry.SlotAdded (state_in (trees ++ x ∷ []) version) ≡ state_in trees version
unfolding rows_in
grown_back trees version x = λ i. record {
  headings = (ap shorter (map-append heading trees (x ∷ [])) ∙ shorter_push (map heading trees) (heading x)) i;
  rows = (ap shorter (map-append rows_in trees (x ∷ [])) ∙ shorter_push (map rows_in trees) x.rows) i;
  version = version;
}

-- a tree that is set to itself leaves the state
pub state_kept : (trees : List StoredTree) (version t : ℕ) (x : StoredTree) → t < length trees → x ≡ get_or trees t x → (y : StoredTree) → heading y ≡ heading x → y.rows ≡ x.rows
    → state_in (set trees t y) version ≡ state_in trees version
unfolding rows_in
state_kept trees version t x within is y same rows =
    let at = place_of trees t x within is in
    state_edited trees version t x within is y same
    ∙ (λ i. record (state_in trees version) { rows = (ap (set (map rows_in trees) t) (rows ∙ sym at.1) ∙ set-get_or (map rows_in trees) t []) i })

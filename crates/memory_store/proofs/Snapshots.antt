-- The snapshot after a change of the list of trees.
use Rattle.std.proofs.Common.{◌+◌, ◌≡◌, ◌≢◌, ◌<◌, ◌^◌, ◌∙◌, [], ◌∷◌, ◌++◌, Bool, List, ap, arith, cond, eq-eqb, eqb, false, fold, get_or, inl, inr, length, map, ne_eqb, refl, set, suc, sym, take, true, zero, ℕ}
use Rattle.std.proofs.lemmas.Bool.{cases_eq}
use Rattle.std.proofs.lemmas.List.{get_or-map, length-map, map-append, map-set, set-get_or, take_more}
use Rattle.std.proofs.lemmas.List.Sums.{fold_push}
use mathlib.Core.Path.{fun_ext}
use Rattle.sqlite_value.specs.Order.{Row}
use Rattle.sqlite_trees.specs.declared.schema.Object.{Object}
use Rattle.sqlite_trees.specs.declared.store.Shape.{Shape}
use Rattle.sqlite_trees.specs.declared.store.Shape.TheVariants.{Absent, Table}
use Rattle.sqlite_trees.specs.Listing.{Heading, no_heading, objects_from, objects_from-push, objects_from-set, reals_in, reals_unless_absent, shape_in}
use Rattle.sqlite_trees.specs.Objects.{catalog_tree, description, object_row, set_at, version_rows, version_tree, with_version}
use Rattle.sqlite_trees.specs.Tree.{Trees, put_row, with_tree}
use Rattle.sqlite_trees.specs.View.{Snapshot}
use Rattle.sqlite_trees.proofs.StoreLemmas.{get_or-set_cases, named, present_reals, unnumbered}
use Rattle.memory_store.specs.declared.tree.StoredTree.{StoredTree}
use Rattle.memory_store.specs.declared.content.Content.{Content}
use Rattle.memory_store.specs.Content.{HasPlaced, MayList, heading, rows_of, snapshot, snapshot_in, with_edit, with_listed, with_object}

-- ---- the tree of a number

pub place_of : (trees : List StoredTree) (t : ℕ) (x : StoredTree) → t < length trees → x ≡ get_or trees t x
    → (get_or (map heading trees) t no_heading ≡ heading x) × (rows_of trees t ≡ x.rows)
place_of trees t x within is = (
  get_or-map heading trees t x no_heading within ∙ ap heading (sym is),
  get_or-map (λ (y : StoredTree). y.rows) trees t x [] within ∙ ap (λ (y : StoredTree). y.rows) (sym is),
)

pub present : (hs : List Heading) (t : ℕ) → shape_in hs t ≢ Absent → t < length hs
present [] t h = absurd (h refl)
present (x ∷ hs) zero h = omega arith
present (x ∷ hs) (suc t) h = omega (arith, present hs t h)

pub shape_at : (trees : List StoredTree) (version t : ℕ) → t < 2 ^ 32 → (snapshot_in trees version).shape t ≡ shape_in (map heading trees) t
shape_at trees version t low = rw (unnumbered t low, named t low)

pub rows_at : (trees : List StoredTree) (version t : ℕ) → t < 2 ^ 32 → (snapshot_in trees version).trees t ≡ rows_of trees t
rows_at trees version t low = rw (unnumbered t low, named t low)

pub within_by_shape : (trees : List StoredTree) (version t : ℕ) → t < 2 ^ 32 → (snapshot_in trees version).shape t ≢ Absent → t < length trees
within_by_shape trees version t low there =
    let placed = present (map heading trees) t (λ none. there (shape_at trees version t low ∙ none)) in
    rw length-map at placed

-- ---- functions of a number

pub cond_under : {A B : Type 0} (f : A → B) (b : Bool) (x y : A) → f (cond b x y) ≡ cond b (f x) (f y)
cond_under f true x y = refl
cond_under f false x y = refl

set_same : {X : Type 0} (f : ℕ → X) (t : ℕ) (x : X) → x ≡ f t → set_at f t x ≡ f
set_same f t x is = fun_ext (λ k. elim (cases_eq k t) [ inl same ↦ rw (same, eq-eqb t t refl) is | inr other ↦ rw (ne_eqb k t other) ])

-- a change at a number that a call can name is made under the list of objects and the version
over : {X : Type 0} (f g : ℕ → X) (t : ℕ) (x b c : X) → t < 2 ^ 32 → ((k : ℕ) → g k ≡ cond (eqb k t) x (f k))
    → set_at (set_at g catalog_tree b) version_tree c ≡ set_at (set_at (set_at f catalog_tree b) version_tree c) t x
over f g t x b c low each = fun_ext (λ k. elim (cases_eq k t) [
  | inl same ↦ rw (same, unnumbered t low, named t low, eq-eqb t t refl) (each t ∙ ap (λ v. cond v x (f t)) (eq-eqb t t refl))
  | inr other ↦ rw (each k, ne_eqb k t other)
])

-- the list of objects is written last
listed_last : (rows : Trees) (t : ℕ) (x old new last : List Row) → t < 2 ^ 32
    → set_at (set_at (set_at rows catalog_tree new) version_tree last) t x ≡ set_at (set_at (set_at (set_at rows catalog_tree old) version_tree last) t x) catalog_tree new
listed_last rows t x old new last low = fun_ext (λ k. elim (cases_eq k catalog_tree) [
  | inl same ↦ rw (same, ne_eqb catalog_tree t (omega arith))
  | inr other ↦ rw (ne_eqb k catalog_tree other)
])

-- ---- one tree in place of another

module _ (trees : List StoredTree) (version t : ℕ) (it : StoredTree) (low : t < 2 ^ 32) (within : t < length trees) where
  abbrev before : Snapshot
  before = snapshot_in trees version

  heading_each : (k : ℕ) → get_or (map heading (set trees t it)) k no_heading ≡ cond (eqb k t) (heading it) (get_or (map heading trees) k no_heading)
  heading_each k = rw (map-set heading trees t it) (get_or-set_cases _ t _ no_heading (rw length-map within) k)

  rows_each : (k : ℕ) → rows_of (set trees t it) k ≡ cond (eqb k t) it.rows (rows_of trees k)
  rows_each k = ap (λ l. get_or l k []) (map-set (λ (y : StoredTree). y.rows) trees t it) ∙ get_or-set_cases _ t _ [] (rw length-map within) k

  snapshot_set : (edit : List Row → List Row) → objects_from 0 (set (map heading trees) t (heading it)) ≡ edit (objects_from 0 (map heading trees)) → snapshot_in (set trees t it) version ≡ record {
    trees = with_tree (with_tree before.trees t it.rows) catalog_tree (edit (before.trees catalog_tree));
    shape = set_at before.shape t it.shape;
    reals = set_at before.reals t (reals_unless_absent it.shape it.reals);
  }
  snapshot_set edit listed =
      let objects : objects_from 0 (map heading (set trees t it)) ≡ edit (objects_from 0 (map heading trees)) = ap (objects_from 0) (map-set heading trees t it) ∙ listed in
      let rows = over (rows_of trees) (rows_of (set trees t it)) t it.rows (objects_from 0 (map heading (set trees t it))) (version_rows version) low rows_each
      ∙ listed_last (rows_of trees) t it.rows (objects_from 0 (map heading trees)) _ (version_rows version) low in
      let kinds = over (shape_in (map heading trees)) (shape_in (map heading (set trees t it))) t it.shape Table Table low
      (λ k. ap (λ (h : Heading). h.0) (heading_each k) ∙ cond_under (λ (h : Heading). h.0) (eqb k t) _ _) in
      let bits = over (reals_in (map heading trees)) (reals_in (map heading (set trees t it))) t (reals_unless_absent it.shape it.reals) 0 0 low
      (λ k. ap (λ (h : Heading). reals_unless_absent h.0 h.1) (heading_each k) ∙ cond_under (λ (h : Heading). reals_unless_absent h.0 h.1) (eqb k t) _ _) in
      let all : (snapshot_in (set trees t it) version).trees ≡ with_tree (with_tree before.trees t it.rows) catalog_tree (edit (before.trees catalog_tree)) =
      rows ∙ ap (λ l. with_tree (with_tree before.trees t it.rows) catalog_tree l) objects in
      λ i. record { trees = all i; shape = kinds i; reals = bits i }

  pub snapshot_object : it.rows ≡ [] → (edit : List Row → List Row) → objects_from 0 (set (map heading trees) t (heading it)) ≡ edit (objects_from 0 (map heading trees))
      → snapshot_in (set trees t it) version ≡ with_object before t it.shape (reals_unless_absent it.shape it.reals) edit
  snapshot_object empty edit listed =
      let made = λ (rows : List Row). let s : Snapshot = record {
        trees = with_tree (with_tree before.trees t rows) catalog_tree (edit (before.trees catalog_tree));
        shape = set_at before.shape t it.shape;
        reals = set_at before.reals t (reals_unless_absent it.shape it.reals);
      } in s in
      snapshot_set edit listed ∙ ap made empty

  pub snapshot_edit : (edit : List Row → List Row) → heading it ≡ get_or (map heading trees) t no_heading → it.rows ≡ edit (rows_of trees t)
      → snapshot_in (set trees t it) version ≡ with_edit before t edit
  snapshot_edit edit same rows =
      let headings : map heading (set trees t it) ≡ map heading trees = map-set heading trees t it ∙ ap (set (map heading trees) t) same ∙ set-get_or (map heading trees) t no_heading in
      let made : it.rows ≡ edit (before.trees t) = rows ∙ ap edit (sym (rows_at trees version t low)) in
      let all : (snapshot_in (set trees t it) version).trees ≡ with_tree before.trees t (edit (before.trees t)) =
      ap (λ hs. with_version (with_tree (rows_of (set trees t it)) catalog_tree (objects_from 0 hs)) version) headings
      ∙ over (rows_of trees) (rows_of (set trees t it)) t it.rows (objects_from 0 (map heading trees)) (version_rows version) low rows_each
      ∙ ap (with_tree before.trees t) made in
      λ i. record {
        trees = all i;
        shape = set_at (set_at (shape_in (headings i)) catalog_tree Table) version_tree Table;
        reals = set_at (set_at (reals_in (headings i)) catalog_tree 0) version_tree 0;
      }

  pub snapshot_kept : heading it ≡ get_or (map heading trees) t no_heading → it.rows ≡ rows_of trees t → snapshot_in (set trees t it) version ≡ before
  snapshot_kept same rows =
      let kept = set_same before.trees t (before.trees t) refl in
      snapshot_edit (λ l. l) same rows ∙ (λ i. record before { trees = kept i })

  pub snapshot_relisted : (o : Object) → heading it ≡ (o.shape, o.reals, description o) → o.shape ≢ Absent → before.shape t ≡ o.shape → it.rows ≡ rows_of trees t
      → snapshot_in (set trees t it) version ≡ with_listed before ((t, o) ∷ [])
  snapshot_relisted o is there shaped rows =
      let kind : it.shape ≡ o.shape = ap (λ (h : Heading). h.0) is in
      let bits : it.reals ≡ o.reals = ap (λ (h : Heading). h.1) is in
      let listed : objects_from 0 (set (map heading trees) t (heading it)) ≡ put_row (object_row t o) (objects_from 0 (map heading trees)) =
      rw is (objects_from-set (map heading trees) 0 t t (o.shape, o.reals, description o) (omega arith) (rw length-map within) there) in
      let real : reals_unless_absent it.shape it.reals ≡ o.reals = rw (kind, bits) (present_reals o.shape o.reals there) in
      let objects = put_row (object_row t o) (objects_from 0 (map heading trees)) in
      let kept = set_same before.trees t it.rows (rows ∙ sym (rows_at trees version t low)) in
      let kinds = set_same before.shape t it.shape (kind ∙ sym shaped) in
      snapshot_set (put_row (object_row t o)) listed
      ∙ (λ i. record { trees = with_tree (kept i) catalog_tree objects; shape = kinds i; reals = set_at before.reals t (real i) })

-- ---- trees with the same snapshot

get_or-default_last : {X : Type 0} (xs : List X) (d : X) (k : ℕ) → get_or (xs ++ d ∷ []) k d ≡ get_or xs k d
get_or-default_last [] d zero = refl
get_or-default_last [] d (suc k) = refl
get_or-default_last (x ∷ xs) d zero = refl
get_or-default_last (x ∷ xs) d (suc k) = get_or-default_last xs d k

pub snapshot_longer : (trees : List StoredTree) (version : ℕ) (x : StoredTree) → heading x ≡ no_heading → x.rows ≡ [] → snapshot_in (trees ++ x ∷ []) version ≡ snapshot_in trees version
snapshot_longer trees version x absent empty =
    let headings : map heading (trees ++ x ∷ []) ≡ map heading trees ++ no_heading ∷ [] = rw (map-append, absent) in
    let each = λ (k : ℕ). ap (λ (hs : List Heading). get_or hs k no_heading) headings ∙ get_or-default_last (map heading trees) no_heading k in
    let rows : rows_of (trees ++ x ∷ []) ≡ rows_of trees = fun_ext (λ k. rw (map-append, empty, get_or-default_last)) in
    let objects : objects_from 0 (map heading (trees ++ x ∷ [])) ≡ objects_from 0 (map heading trees) = ap (objects_from 0) headings ∙ objects_from-push (map heading trees) 0 in
    λ i. record {
      trees = with_version (with_tree (rows i) catalog_tree (objects i)) version;
      shape = set_at (set_at (λ k. (each k i).0) catalog_tree Table) version_tree Table;
      reals = set_at (set_at (λ k. reals_unless_absent (each k i).0 (each k i).1) catalog_tree 0) version_tree 0;
    }

-- a tree was put in its place, if there is room
pub snapshot_placed : (old new : Content) (t : ℕ) (it : StoredTree) → t < 2 ^ 32 → (placed : HasPlaced old new t it) → it.rows ≡ []
    → (shape : Shape) (reals : ℕ) → it.shape ≡ shape → reals_unless_absent it.shape it.reals ≡ reals
    → (edit : List Row → List Row) → objects_from 0 (set (map heading placed.room) t (heading it)) ≡ edit (objects_from 0 (map heading placed.room))
    → snapshot new ≡ with_object (snapshot old) t shape reals edit
snapshot_placed old new t it low placed empty shape reals kind bits edit listed =
    (λ i. snapshot_in (placed.is i) (placed.version i))
    ∙ snapshot_object placed.room old.version t it low placed.within empty edit listed
    ∙ (λ i. with_object (placed.same i) t (kind i) (bits i) edit)

-- one more object was listed
pub listed_more : (s : Snapshot) (done : List (ℕ × Object)) (change : ℕ × Object) → with_listed (with_listed s done) (change ∷ []) ≡ with_listed s (done ++ change ∷ [])
listed_more s done change =
    let put = λ (objects : List Row) (x : ℕ × Object). put_row (object_row x.0 x.1) objects in
    let mark = λ (bits : ℕ → ℕ) (x : ℕ × Object). set_at bits x.0 x.1.reals in
    let rows = fold put (s.trees catalog_tree) done in
    let twice : with_tree (with_tree s.trees catalog_tree rows) catalog_tree (put rows change) ≡ with_tree s.trees catalog_tree (put rows change) =
    fun_ext (λ k. elim (cases_eq k catalog_tree) [ inl same ↦ rw same | inr other ↦ rw (ne_eqb k catalog_tree other) ]) in
    let trees = twice ∙ ap (with_tree s.trees catalog_tree) (sym (fold_push put (s.trees catalog_tree) done change)) in
    λ i. record s { trees = trees i; reals = sym (fold_push mark s.reals done change) i }

pub listed_next : (s was now : Snapshot) (all : List (ℕ × Object)) (at : ℕ) (d : ℕ × Object) → at < length all → was ≡ with_listed s (take at all) → now ≡ with_listed was (get_or all at d ∷ []) → now ≡ with_listed s (take (at + 1) all)
listed_next s was now all at d within before is =
    is ∙ ap (λ v. with_listed v (get_or all at d ∷ [])) before ∙ listed_more s (take at all) (get_or all at d) ∙ ap (with_listed s) (sym (take_more all at d within))

pub still_shaped : (s : Snapshot) (shape : ℕ → Shape) (change : ℕ × Object) → shape ≡ s.shape → MayList s change → shape change.0 ≡ change.1.shape
still_shaped s shape change same may = ap (λ (f : ℕ → Shape). f change.0) same ∙ may.shaped

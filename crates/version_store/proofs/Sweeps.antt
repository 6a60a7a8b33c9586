-- Changes of version rows over their bytes, and one after another.
use Rattle.std.proofs.Common.{◌≡◌, ℕ, ◌+◌, ◌<◌, ℤ, List, [], ◌∷◌, ◌++◌, map, filter, take, get_or, length, Bool, true, false, not, cond, ◌&&◌, ◌||◌, ◌==◌, refl, sym, ap, ap₂, subst, ◌∙◌, append-nil, append_assoc, Ordering, Less, Equal, Greater}
use Rattle.std.specs.List.{All, AllByRecursion, flat_map}
use Rattle.std.specs.List.Sorted.{IsPermutation}
use Rattle.std.specs.Ordering.{int_cmp, is_eq}
use Rattle.std.proofs.Math.Path.{fun_ext}
use Rattle.std.proofs.lemmas.Bool.{and_parts}
use Rattle.std.proofs.lemmas.List.Concat.{flat_map-append}
use Rattle.std.proofs.lemmas.List.Folds.{list_any-append}
use Rattle.std.proofs.lemmas.List.{map-append, take_more}
use Rattle.std.proofs.lemmas.List.Sorted.{IsPermutation-refl, IsPermutation-trans, IsPermutation-cons, IsPermutation-middle}
use Rattle.std.proofs.lemmas.Map.Lookups.{exact_signed}
use Rattle.std.proofs.lemmas.Cmp.{int_cmp_total, tied_itself}
use Rattle.sqlite_trees.proofs.ListLemmas.{all-flat_map, all_weaker}
use Rattle.sqlite.specs.Effect.{Database}
use Rattle.period_core.specs.Encoding.{IsColumnValue}
use Rattle.period_core.proofs.EncodingOrder.{keeps_order}
use Rattle.period_core.specs.Moments.{forever}
use Rattle.period_core.specs.Order.{values_cmp}
use Rattle.period_core.specs.declared.row.PeriodRow.{PeriodRow}
use Rattle.period_core.specs.declared.version.VersionRow.{VersionRow}
use Rattle.version_tables.specs.Represents.{Records, Represents, Version, version, same_key, closing, ended, with_clock}
use Rattle.version_tables.specs.Runs.{all_ended, is_one_of}
use Rattle.version_store.specs.Contents.{Contents, HaveColumnValues, TableVersion, added_in, same_version, version_in}
use Rattle.version_store.specs.Changed.{added_at, closed_at, ended_at, is_ended, remains_of, with_clock as clock_in}
use Rattle.version_store.specs.Runs.{row_key}
use Rattle.version_store.specs.Written.{Has, written, written_version}

-- ---- keys

-- the bytes of two keys are the same exactly if the keys are
pub same_bytes : (k v : TableVersion) → All IsColumnValue k.values → All IsColumnValue v.values → same_key (written_version k) (written_version v) ≡ same_version k v
same_bytes k v hk hv =
    ap (λ o. (v.table == k.table) && (is_eq o && (is_eq (int_cmp v.start k.start) && is_eq (int_cmp v.from k.from)))) (keeps_order v.values k.values hv hk)

pub equal : (o : Ordering) → is_eq o ≡ true → o ≡ Equal
equal Less h = absurd cc
equal Equal h = refl
equal Greater h = absurd cc

-- equal versions began at one moment
same_from : (k v : TableVersion) → same_version k v ≡ true → v.from ≡ k.from
same_from k v h =
    let values = is_eq (values_cmp v.values k.values) in
    let start = is_eq (int_cmp v.start k.start) in
    let from = is_eq (int_cmp v.from k.from) in
    let rest = and_parts (v.table == k.table) (values && (start && from)) h in
    let last = and_parts start from (and_parts values (start && from) rest.1).1 in
    exact_signed v.from k.from (equal (int_cmp v.from k.from) last.1)

-- ---- one row that ends

-- the remains of a version as one row ends
abbrev pub step : TableVersion → ℤ → TableVersion → List TableVersion
step k moment v = cond (same_version k v) (closed_at moment v) (v ∷ [])

or_false : (b : Bool) → (b || false) ≡ b
or_false true = refl
or_false false = refl

pub one_row : (table : ℕ) (moment : ℤ) (row : VersionRow) → remains_of table moment (row ∷ []) ≡ step (version_in table row) moment
one_row table moment row = fun_ext (λ v. ap (λ b. cond b (closed_at moment v) (v ∷ [])) (or_false (same_version (version_in table row) v)))

module _ (k : TableVersion) (moment : ℤ) (hk : All IsColumnValue k.values) where
  began_with : (v : TableVersion) → same_version k v ≡ true → is_eq (int_cmp v.from moment) ≡ is_eq (int_cmp k.from moment)
  began_with v h = ap (λ m. is_eq (int_cmp m moment)) (same_from k v h)

  pub taken : is_eq (int_cmp k.from moment) ≡ true → (vs : List TableVersion) → HaveColumnValues vs → map written_version (flat_map (step k moment) vs) ≡ filter (λ v. not (same_key (written_version k) v)) (map written_version vs)
  taken began [] h = refl
  taken began (v ∷ vs) h =
      subst (λ b. map written_version (flat_map (step k moment) (v ∷ vs)) ≡ cond (not b) (written_version v ∷ filter (λ v. not (same_key (written_version k) v)) (map written_version vs)) (filter (λ v. not (same_key (written_version k) v)) (map written_version vs)))
      (sym (same_bytes k v hk h.0))
      (go (same_version k v) refl (taken began vs h.1))
    where
      go : (b : Bool) → same_version k v ≡ b → map written_version (flat_map (step k moment) vs) ≡ filter (λ v. not (same_key (written_version k) v)) (map written_version vs)
          → map written_version (cond b (closed_at moment v) (v ∷ []) ++ flat_map (step k moment) vs) ≡ cond (not b) (written_version v ∷ filter (λ v. not (same_key (written_version k) v)) (map written_version vs)) (filter (λ v. not (same_key (written_version k) v)) (map written_version vs))
      go true e more = rw (began_with v e ∙ began) more
      go false e more = ap (λ l. written_version v ∷ l) more

-- ---- rows that end together

module _ (table : ℕ) (moment : ℤ) where
  one_of : (rows : List VersionRow) → AllByRecursion (λ (row : VersionRow). All IsColumnValue row.values) rows → (v : TableVersion) → All IsColumnValue v.values → is_one_of (map (row_key table) rows) (written_version v) ≡ is_ended table rows v
  one_of [] held v h = refl
  one_of (row ∷ rows) held v h = ap₂ (λ a b. a || b) (same_bytes (version_in table row) v held.0 h) (one_of rows held.1 v h)

  began_earlier : (rows : List VersionRow) → AllByRecursion (λ (row : VersionRow). is_eq (int_cmp row.from moment) ≡ false) rows → (v : TableVersion) → is_ended table rows v ≡ true → is_eq (int_cmp v.from moment) ≡ false
  began_earlier [] earlier v ends = absurd cc
  began_earlier (row ∷ rows) earlier v ends = go (same_version (version_in table row) v) refl ends (began_earlier rows earlier.1 v)
    where
      go : (b : Bool) → same_version (version_in table row) v ≡ b → (b || is_ended table rows v) ≡ true → (is_ended table rows v ≡ true → is_eq (int_cmp v.from moment) ≡ false) → is_eq (int_cmp v.from moment) ≡ false
      go true same h more = ap (λ m. is_eq (int_cmp m moment)) (same_from (version_in table row) v same) ∙ earlier.0
      go false same h more = more h

  module _ (rows : List VersionRow) (held : AllByRecursion (λ (row : VersionRow). All IsColumnValue row.values) rows) (earlier : AllByRecursion (λ (row : VersionRow). is_eq (int_cmp row.from moment) ≡ false) rows) where
    pub ending : (vs : List TableVersion) → HaveColumnValues vs
        → IsPermutation (map (closing moment) (filter (is_one_of (map (row_key table) rows)) (map written_version vs)) ++ filter (λ v. not (is_one_of (map (row_key table) rows) v)) (map written_version vs)) (map written_version (flat_map (remains_of table moment rows) vs))
    ending [] h = IsPermutation-refl _
    ending (v ∷ vs) h =
        let kept = filter (is_one_of (map (row_key table) rows)) (map written_version vs) in
        let others = filter (λ v. not (is_one_of (map (row_key table) rows) v)) (map written_version vs) in
        subst (λ b. IsPermutation (map (closing moment) (cond b (written_version v ∷ kept) kept) ++ cond (not b) (written_version v ∷ others) others) (map written_version (flat_map (remains_of table moment rows) (v ∷ vs))))
        (sym (one_of rows held v h.0))
        (go (is_ended table rows v) refl kept others (ending vs h.1))
      where
        go : (b : Bool) → is_ended table rows v ≡ b → (kept others : List Version) → IsPermutation (map (closing moment) kept ++ others) (map written_version (flat_map (remains_of table moment rows) vs))
            → IsPermutation (map (closing moment) (cond b (written_version v ∷ kept) kept) ++ cond (not b) (written_version v ∷ others) others) (map written_version (cond b (closed_at moment v) (v ∷ []) ++ flat_map (remains_of table moment rows) vs))
        go true e kept others more = rw (began_earlier rows earlier v e) (IsPermutation-cons (closing moment (written_version v)) _ _ more)
        go false e kept others more = IsPermutation-trans _ _ _ (IsPermutation-middle (map (closing moment) kept) (written_version v) others) (IsPermutation-cons (written_version v) _ _ more)

-- one row as rows that end together
pub one_ended : (k : Version) (moment : ℤ) (m : Records) → all_ended (k ∷ []) moment m ≡ ended k moment m
one_ended k moment m = ap (λ p. record m { versions = map (closing moment) (filter p m.versions) ++ filter (λ v. not (p v)) m.versions }) (fun_ext (λ v. or_false (same_key k v)))

-- ---- values stay values

closed_held : (moment : ℤ) (v : TableVersion) → All IsColumnValue v.values → HaveColumnValues (closed_at moment v)
closed_held moment v h = go (is_eq (int_cmp v.from moment))
  where
    go : (b : Bool) → HaveColumnValues (cond b [] (record v { to = moment } ∷ []))
    go true = tt
    go false = (h, tt)

left_held : (table : ℕ) (moment : ℤ) (rows : List VersionRow) (v : TableVersion) → All IsColumnValue v.values → HaveColumnValues (remains_of table moment rows v)
left_held table moment rows v h = go (is_ended table rows v)
  where
    go : (b : Bool) → HaveColumnValues (cond b (closed_at moment v) (v ∷ []))
    go true = closed_held moment v h
    go false = (h, tt)

pub ended_held : (table : ℕ) (moment : ℤ) (rows : List VersionRow) (vs : List TableVersion) → HaveColumnValues vs → HaveColumnValues (flat_map (remains_of table moment rows) vs)
ended_held table moment rows vs h =
    all-flat_map (λ (v : TableVersion). All IsColumnValue v.values) (remains_of table moment rows) vs (all_weaker (λ (v : TableVersion). All IsColumnValue v.values) (λ v. HaveColumnValues (remains_of table moment rows v)) (left_held table moment rows) vs h)

-- ---- one row

-- the moments of a row and of a change
pub same_moment : (a b : ℤ) → a ≡ b → is_eq (int_cmp a b) ≡ true
same_moment a b e = rw e (ap is_eq (tied_itself int_cmp_total b))

pub other_moment : (a b : ℤ) → (a ≡ b → ⊥) → is_eq (int_cmp a b) ≡ false
other_moment a b apart = go (is_eq (int_cmp a b)) refl
  where
    go : (t : Bool) → is_eq (int_cmp a b) ≡ t → t ≡ false
    go true e = absurd (apart (exact_signed a b (equal (int_cmp a b) e)))
    go false e = refl

-- a row's key by its parts
module _ (old new : Database) (table : ℕ) (moment : ℤ) (row : VersionRow) (n : ℕ) (bytes : List ℕ) (start from to : ℤ) (is_table : n ≡ table) (are_bytes : bytes ≡ (written_version (version_in table row)).values) (is_start : start ≡ row.period.start) (is_from : from ≡ row.from) (is_to : to ≡ moment) where
  pub same_ended : ((m : Records) → Represents old m → Represents new (ended (version n bytes start start from from) to m)) → (m : Records) → Represents old m → Represents new (ended (written_version (version_in table row)) moment m)
  same_ended made = rw (is_table, are_bytes, is_start, is_from, is_to) at made

-- the clock is set to the moment
pub clock_moved : (old new : Database) (moment n : ℤ) → n ≡ moment → ((m : Records) → Represents old m → Represents new (with_clock n m)) → (c : Contents) → Has old c → Has new (clock_in moment c)
clock_moved old new moment n same made c was =
    let rows = subst (λ k. (m : Records) → Represents old m → Represents new (with_clock k m)) same made in
    record { rows = rows (written c) was.rows; definitions = was.definitions; values = was.values }

-- ---- one row more, at the end

flat_twice : {A B C : Type 0} (g : B → List C) (f : A → List B) (xs : List A) → flat_map g (flat_map f xs) ≡ flat_map (λ x. flat_map g (f x)) xs
flat_twice g f [] = refl
flat_twice g f (x ∷ xs) = flat_map-append g (f x) (flat_map f xs) ∙ ap (λ l. flat_map g (f x) ++ l) (flat_twice g f xs)

-- the remains of a version's remains are its remains
left_again : (table : ℕ) (moment : ℤ) (rows : List VersionRow) (v : TableVersion) (a : Bool) → flat_map (remains_of table moment rows) (cond a (closed_at moment v) (v ∷ [])) ≡ cond (a || is_ended table rows v) (closed_at moment v) (v ∷ [])
left_again table moment rows v true = began (is_eq (int_cmp v.from moment)) refl
  where
    ends : (b : Bool) → (cond b (record v { to = moment } ∷ []) (record v { to = moment } ∷ []) ++ []) ≡ record v { to = moment } ∷ []
    ends true = refl
    ends false = refl

    began : (z : Bool) → is_eq (int_cmp v.from moment) ≡ z → flat_map (remains_of table moment rows) (cond z [] (record v { to = moment } ∷ [])) ≡ cond z [] (record v { to = moment } ∷ [])
    began true e = refl
    began false e = rw e (ends (is_ended table rows (record v { to = moment })))
left_again table moment rows v false = stays (is_ended table rows v)
  where
    stays : (b : Bool) → (cond b (closed_at moment v) (v ∷ []) ++ []) ≡ cond b (closed_at moment v) (v ∷ [])
    stays true = append-nil _
    stays false = refl

-- rows after others
pub ended_parts : (table : ℕ) (moment : ℤ) (first rest : List VersionRow) (c : Contents) → ended_at table moment rest (ended_at table moment first c) ≡ ended_at table moment (first ++ rest) c
ended_parts table moment first rest c =
    ap (λ vs. record c { versions = vs }) (flat_twice (remains_of table moment rest) (remains_of table moment first) c.versions ∙ ap (λ f. flat_map f c.versions) (fun_ext each))
  where
    each : (v : TableVersion) → flat_map (remains_of table moment rest) (remains_of table moment first v) ≡ remains_of table moment (first ++ rest) v
    each v =
        left_again table moment rest v (is_ended table first v)
        ∙ ap (λ b. cond b (closed_at moment v) (v ∷ [])) (sym (list_any-append (λ row. same_version (version_in table row) v) first rest))

pub ended_more : (table : ℕ) (moment : ℤ) (rows : List VersionRow) (i : ℕ) (row : VersionRow) → i < length rows → row ≡ get_or rows i row → (c : Contents)
    → ended_at table moment (row ∷ []) (ended_at table moment (take i rows) c) ≡ ended_at table moment (take (i + 1) rows) c
ended_more table moment rows i row low is c =
    let more : take (i + 1) rows ≡ take i rows ++ row ∷ [] = take_more rows i row low ∙ ap (λ r. take i rows ++ r ∷ []) (sym is) in
    ended_parts table moment (take i rows) (row ∷ []) c ∙ ap (λ l. ended_at table moment l c) (sym more)

pub added_more : (table : ℕ) (moment : ℤ) (rows : List PeriodRow) (i : ℕ) (row : PeriodRow) → i < length rows → row ≡ get_or rows i row → (c : Contents)
    → added_at table moment (row ∷ []) (added_at table moment (take i rows) c) ≡ added_at table moment (take (i + 1) rows) c
added_more table moment rows i row low is c =
    let f = added_in table moment forever in
    let more : take (i + 1) rows ≡ take i rows ++ row ∷ [] = take_more rows i row low ∙ ap (λ r. take i rows ++ r ∷ []) (sym is) in
    ap (λ vs. record c { versions = vs }) (append_assoc c.versions (map f (take i rows)) (f row ∷ []) ∙ ap (λ l. c.versions ++ l) (sym (map-append f (take i rows) (row ∷ [])) ∙ ap (map f) (sym more)))

pub none_ended : (table : ℕ) (moment : ℤ) (c : Contents) → ended_at table moment [] c ≡ c
none_ended table moment c = ap (λ vs. record c { versions = vs }) (all_stay c.versions)
  where
    all_stay : (vs : List TableVersion) → flat_map (remains_of table moment []) vs ≡ vs
    all_stay [] = refl
    all_stay (v ∷ vs) = ap (λ l. v ∷ l) (all_stay vs)

pub none_added : (table : ℕ) (moment : ℤ) (c : Contents) → added_at table moment [] c ≡ c
none_added table moment c = ap (λ vs. record c { versions = vs }) (append-nil c.versions)

-- Versions of which no two have one key, in any order and in part.
use Rattle.std.proofs.Common.{◌≡◌, ◌∙◌, ◌++◌, ◌∷◌, ◌+◌, ◌≤◌, ◌==◌, ℕ, List, [], Bool, true, false, cond, Ordering, Less, Equal, Greater, map, filter, length, refl, sym, ap, subst, append_assoc, arith}
use Rattle.std.specs.Cmp.Lexicographic.{slice_cmp}
use Rattle.std.specs.List.{AllByRecursion}
use Rattle.std.specs.Ordering.{int_cmp, is_eq, nat_cmp}
use Rattle.std.proofs.lemmas.Bool.{and_parts}
use Rattle.std.proofs.lemmas.Bool.Decides.{Decides-eqb}
use Rattle.std.proofs.lemmas.Map.Lookups.{exact_signed}
use Rattle.std.proofs.lemmas.Map.Text.{is_eq-slice_cmp}
use Rattle.std.proofs.lemmas.Slice.Eq.{bytes_eq-Decides}
use Rattle.std.specs.List.Sorted.{IsPermutation}
use Rattle.std.proofs.lemmas.List.{map-append}
use Rattle.std.proofs.lemmas.List.Sorted.{IsPermutation-append_comm, IsPermutation-append_left, IsPermutation-append_right, IsPermutation-cons, IsPermutation-middle, IsPermutation-refl, IsPermutation-trans}
use Rattle.sqlite.specs.Effect.{Database}
use Rattle.sqlite_trees.proofs.ListLemmas.{all-permutation, along_permutation}
use Rattle.version_tables.specs.Healthy.{CanAdd, HaveOwnKeys, IsHealthy, IsShort}
use Rattle.version_tables.specs.Represents.{Records, Version, all_added, same_key}
use Rattle.version_tables.proofs.Clashes.{same_key-turned}
use Rattle.version_tables.proofs.Numbers.{less_room}

-- versions with keys of their own have them in any order
pub own_along : (xs ys : List Version) → IsPermutation xs ys → HaveOwnKeys xs → HaveOwnKeys ys
own_along xs ys h =
    (along_permutation (λ xs ys. IsPermutation xs ys × (HaveOwnKeys xs → HaveOwnKeys ys))
    (λ xs. (IsPermutation-refl xs, λ u. u))
    (λ x xs ys h. (IsPermutation-cons x xs ys h.0, λ u. (all-permutation (λ y. same_key x y ≡ false) xs ys h.0 u.0, h.1 u.1)))
    (λ x y xs. (IsPermutation-middle (x ∷ []) y xs, λ u. ((same_key-turned y x ∙ u.0.0, u.1.0), (u.0.1, u.1.1))))
    (λ xs ys zs p q. (IsPermutation-trans xs ys zs p.0 q.0, λ u. q.1 (p.1 u))) xs ys h).1

pub own_after : (xs ys : List Version) → HaveOwnKeys (xs ++ ys) → HaveOwnKeys ys
own_after [] ys own = own
own_after (x ∷ xs) ys own = own_after xs ys own.1

swapped : (xs ys zs : List Version) → IsPermutation (xs ++ (ys ++ zs)) (ys ++ (xs ++ zs))
swapped xs ys zs = subst (λ l. IsPermutation l (ys ++ (xs ++ zs))) (append_assoc xs ys zs) (subst (IsPermutation ((xs ++ ys) ++ zs)) (append_assoc ys xs zs) (IsPermutation-append_left zs (xs ++ ys) (ys ++ xs) (IsPermutation-append_comm xs ys)))

-- a part of the rows that can be added can be added after an earlier part
module _ {X : Type 0} (f : X → Version) (done batch more : List X) (m : Records) where
  short_part : (xs ys : List Version) → AllByRecursion (λ (v : Version). IsShort v.values) (xs ++ ys) → AllByRecursion (λ (v : Version). IsShort v.values) xs × AllByRecursion (λ (v : Version). IsShort v.values) ys
  short_part [] ys all = (tt, all)
  short_part (x ∷ xs) ys all = let rest = short_part xs ys all.1 in ((all.0, rest.0), rest.1)

  pub can_add_part : CanAdd (map f (done ++ (batch ++ more))) m → CanAdd (map f batch) (all_added (map f done) m)
  can_add_part can =
      let parts : map f (done ++ (batch ++ more)) ≡ map f done ++ (map f batch ++ map f more) = map-append f done (batch ++ more) ∙ ap (λ l. map f done ++ l) (map-append f batch more) in
      let all = subst (λ l. AllByRecursion (λ (v : Version). IsShort v.values) l) parts can.short in
      let own : HaveOwnKeys (map f done ++ (map f batch ++ (map f more ++ m.versions))) =
      subst HaveOwnKeys (ap (λ l. l ++ m.versions) parts ∙ append_assoc (map f done) (map f batch ++ map f more) m.versions ∙ ap (λ l. map f done ++ l) (append_assoc (map f batch) (map f more) m.versions)) can.own in
      let moved =
      IsPermutation-trans _ _ _ (swapped (map f done) (map f batch) (map f more ++ m.versions))
      (IsPermutation-trans _ _ _ (IsPermutation-append_right (map f batch) _ _ (swapped (map f done) (map f more) m.versions)) (swapped (map f batch) (map f more) (map f done ++ m.versions))) in
      record {
        short = (short_part (map f batch) (map f more) (short_part (map f done) _ all).1).0;
        own = own_after (map f more) (map f batch ++ (map f done ++ m.versions)) (own_along _ _ moved own);
      }

-- a database that is healthy for many more versions is so for fewer
pub healthy_less : (few many : ℕ) (db : Database) → few ≤ many → IsHealthy many db → IsHealthy few db
healthy_less few many db less healthy = record { sound = healthy.sound; bare = healthy.bare; room = less_room few many (db.trees 2) less healthy.room }

-- a database that uses none of its room has the same room left
pub healthy_still : (left : ℕ) (db : Database) → IsHealthy (0 + left) db → IsHealthy left db
healthy_still left db = healthy_less left (0 + left) db (omega arith)

-- a database with room has room for no more rows
pub healthy_none : (left : ℕ) (db : Database) → IsHealthy left db → IsHealthy (0 + left) db
healthy_none left db = healthy_less (0 + left) left db (omega arith)

-- ---- one key

pub key_parts : (k v : Version) → same_key k v ≡ true → (v.table ≡ k.table) × (v.values ≡ k.values) × (v.start ≡ k.start) × (v.from ≡ k.from)
key_parts k v same =
    let table = and_parts (v.table == k.table) _ same in
    let values = and_parts (is_eq (slice_cmp nat_cmp v.values k.values)) _ table.1 in
    let start = and_parts (is_eq (int_cmp v.start k.start)) _ values.1 in (
      (Decides-eqb v.table k.table).0 table.0,
      (bytes_eq-Decides v.values k.values).0 (sym (is_eq-slice_cmp v.values k.values) ∙ values.0),
      exact_signed v.start k.start (is_equal (int_cmp v.start k.start) start.0),
      exact_signed v.from k.from (is_equal (int_cmp v.from k.from) start.1),
    )
  where
    is_equal : (o : Ordering) → is_eq o ≡ true → o ≡ Equal
    is_equal Less h = absurd cc
    is_equal Equal h = refl
    is_equal Greater h = absurd cc

-- versions with one key have one key with the same versions
pub key_same : (k v w : Version) → same_key k v ≡ true → same_key k w ≡ same_key v w
key_same k v w same = let p = key_parts k v same in rw (p.0, p.1, p.2, p.3) refl

none_other : (k v : Version) → same_key k v ≡ true → (vs : List Version) → AllByRecursion (λ w. same_key v w ≡ false) vs → filter (same_key k) vs ≡ []
none_other k v same [] apart = refl
none_other k v same (w ∷ vs) apart = let one = key_same k v w same ∙ apart.0 in rw one (none_other k v same vs apart.1)

-- at most one of versions with keys of their own has a given key
pub one_of_key : (k : Version) (vs : List Version) → HaveOwnKeys vs → length (filter (same_key k) vs) ≤ 1
one_of_key k [] own = omega arith
one_of_key k (v ∷ vs) own = go (same_key k v) refl (one_of_key k vs own.1)
  where
    go : (b : Bool) → same_key k v ≡ b → length (filter (same_key k) vs) ≤ 1 → length (cond b (v ∷ filter (same_key k) vs) (filter (same_key k) vs)) ≤ 1
    go true is rest = let none = ap length (none_other k v is vs own.0) in omega (arith, none)
    go false is rest = rest

pub none_of_key : (k : Version) (vs : List Version) → length (filter (same_key k) vs) ≡ 0 → AllByRecursion (λ w. same_key k w ≡ false) vs
none_of_key k [] none = tt
none_of_key k (v ∷ vs) none = go (same_key k v) refl none (none_of_key k vs)
  where
    go : (b : Bool) → same_key k v ≡ b → length (cond b (v ∷ filter (same_key k) vs) (filter (same_key k) vs)) ≡ 0 → (length (filter (same_key k) vs) ≡ 0 → AllByRecursion (λ w. same_key k w ≡ false) vs) → AllByRecursion (λ w. same_key k w ≡ false) (v ∷ vs)
    go true is none rest = absurd (omega (arith, none))
    go false is none rest = (is, rest none)

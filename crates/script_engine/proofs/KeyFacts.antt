-- Versions of distinct keys: which of them a plan ends.
use Rattle.std.proofs.Common.{◌≡◌, ◌&&◌, ◌||◌, ◌∷◌, ◌++◌, ◌∙◌, ℕ, ℤ, Bool, true, false, List, [], get_or, map, nat_eq, refl, sym, ap, ap₂, arith}
use Rattle.std.specs.List.{All, AllByRecursion}
use Rattle.std.specs.List.Sorted.{IsPermutation}
use Rattle.std.specs.Ordering.{int_cmp, is_eq, ordering_reverse}
use Rattle.std.specs.declared.cmp.Ordering.{Ordering}
use Rattle.std.specs.declared.cmp.Ordering.TheVariants.{Equal, Greater, Less}
use Rattle.std.proofs.lemmas.Bool.Decides.{nat_tests}
use Rattle.std.proofs.lemmas.Cmp.{int_cmp_total}
use Rattle.std.proofs.lemmas.List.Folds.{list_any_at}
use Rattle.std.proofs.lemmas.List.Sorted.{IsPermutation-cons, IsPermutation-middle, IsPermutation-refl, IsPermutation-trans}
use Rattle.sqlite_trees.proofs.ListLemmas.{all-permutation, all_both, all_from_map, all_of, along_permutation}
use Rattle.period_core.specs.Order.{values_cmp}
use Rattle.period_core.specs.OrderLaws.{values_cmp-refl, values_cmp_total}
use Rattle.period_core.specs.declared.value.Value.{Value}
use Rattle.period_core.specs.declared.version.VersionRow.{VersionRow}
use Rattle.version_store.specs.Changed.{is_ended}
use Rattle.version_store.specs.Contents.{TableVersion, same_version, version_in}
use Rattle.version_store.specs.DistinctKeys.{HaveDistinctKeys}

-- ---- the test of keys

is_eq-reverse : (o : Ordering) → is_eq (ordering_reverse o) ≡ is_eq o
is_eq-reverse Less = refl
is_eq-reverse Equal = refl
is_eq-reverse Greater = refl

values_turned : (a b : List Value) → is_eq (values_cmp a b) ≡ is_eq (values_cmp b a)
values_turned a b = ap is_eq (values_cmp_total.antisymm a b) ∙ is_eq-reverse (values_cmp b a)

ints_turned : (a b : ℤ) → is_eq (int_cmp a b) ≡ is_eq (int_cmp b a)
ints_turned a b = ap is_eq (int_cmp_total.antisymm a b) ∙ is_eq-reverse (int_cmp b a)

both_ways : (a b : Bool) → (a ≡ true → b ≡ true) → (b ≡ true → a ≡ true) → a ≡ b
both_ways true b f g = sym (f refl)
both_ways false true f g = g refl
both_ways false false f g = refl

nats_turned : (a b : ℕ) → nat_eq a b ≡ nat_eq b a
nats_turned a b = both_ways (nat_eq a b) (nat_eq b a) (λ h. grind (arith, nat_tests, h)) (λ h. grind (arith, nat_tests, h))

pub same_turned : (a b : TableVersion) → same_version a b ≡ same_version b a
same_turned a b =
    ap₂ (λ (x y : Bool). x && y) (nats_turned b.table a.table)
    (ap₂ (λ (x y : Bool). x && y) (values_turned b.values a.values)
    (ap₂ (λ (x y : Bool). x && y) (ints_turned b.start a.start) (ints_turned b.from a.from)))

nat_same : (n : ℕ) → nat_eq n n ≡ true
nat_same n = grind (arith, nat_tests)

pub int_same : (n : ℤ) → is_eq (int_cmp n n) ≡ true
int_same n = go (int_cmp n n) (int_cmp_total.antisymm n n)
  where
    go : (o : Ordering) → o ≡ ordering_reverse o → is_eq o ≡ true
    go Less e = cc
    go Equal e = refl
    go Greater e = cc

pub same_itself : (v : TableVersion) → same_version v v ≡ true
same_itself v =
    ap₂ (λ (x y : Bool). x && y) (nat_same v.table)
    (ap₂ (λ (x y : Bool). x && y) (ap is_eq (values_cmp-refl v.values))
    (ap₂ (λ (x y : Bool). x && y) (int_same v.start) (int_same v.from)))

-- ---- another order

-- distinct keys are so in any order
pub distinct_along : (xs ys : List TableVersion) → IsPermutation xs ys → HaveDistinctKeys xs → HaveDistinctKeys ys
distinct_along xs ys h =
    (along_permutation (λ (xs ys : List TableVersion). IsPermutation xs ys × (HaveDistinctKeys xs → HaveDistinctKeys ys))
    (λ xs. (IsPermutation-refl xs, λ u. u))
    (λ x xs ys h. (IsPermutation-cons x xs ys h.0, λ u. (all-permutation (λ (y : TableVersion). same_version x y ≡ false) xs ys h.0 u.0, h.1 u.1)))
    (λ x y xs. (IsPermutation-middle (x ∷ []) y xs, λ u. ((same_turned y x ∙ u.0.0, u.1.0), (u.0.1, u.1.1))))
    (λ xs ys zs p q. (IsPermutation-trans xs ys zs p.0 q.0, λ u. q.1 (p.1 u))) xs ys h).1

-- ---- ended rows

-- each ended row is found to be ended
pub are_ended : (table : ℕ) (ended : List VersionRow) → All (λ (v : VersionRow). is_ended table ended (version_in table v) ≡ true) ended
are_ended table ended place v inside =
    list_any_at (λ (row : VersionRow). same_version (version_in table row) (version_in table (get_or ended place v))) ended place v inside
    (same_itself (version_in table (get_or ended place v)))

pub all_of_second : {X : Type 0} (P : X → Type 0) (xs ys : List X) → AllByRecursion P (xs ++ ys) → AllByRecursion P ys
all_of_second P [] ys h = h
all_of_second P (x ∷ xs) ys h = all_of_second P xs ys h.1

neither : (a b : Bool) → a ≡ false → b ≡ false → (a || b) ≡ false
neither true b e f = e
neither false b e f = f

-- none of the remaining versions has an ended one's key
pub rest_stays : (table : ℕ) (ended stay : List VersionRow) → HaveDistinctKeys (map (version_in table) (ended ++ stay)) → AllByRecursion (λ (v : VersionRow). is_ended table ended (version_in table v) ≡ false) stay
rest_stays table [] stay apart = all_of (λ (v : VersionRow). is_ended table [] (version_in table v) ≡ false) (λ v. refl) stay
rest_stays table (row ∷ ended) stay apart =
    all_both (λ (v : VersionRow). same_version (version_in table row) (version_in table v) ≡ false) (λ (v : VersionRow). is_ended table ended (version_in table v) ≡ false)
    (λ (v : VersionRow). is_ended table (row ∷ ended) (version_in table v) ≡ false)
    (λ v here there. neither (same_version (version_in table row) (version_in table v)) (is_ended table ended (version_in table v)) here there) stay
    (all_of_second (λ (v : VersionRow). same_version (version_in table row) (version_in table v) ≡ false) ended stay
    (all_from_map (λ (y : TableVersion). same_version (version_in table row) y ≡ false) (version_in table) (ended ++ stay) apart.0))
    (rest_stays table ended stay apart.1)

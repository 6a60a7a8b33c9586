-- A list in two parts, the settled and the late ones, with one element more or less.
use Rattle.std.proofs.Common.{◌≡◌, ◌≤◌, ◌<◌, ◌≤ℤ◌, ◌+◌, ◌-◌, ◌∷◌, [], ◌∙◌, ℕ, ℤ, zero, suc, Bool, true, false, List, length, get_or, take, drop, refl, sym, ap, subst, arith}
use Rattle.std.specs.List.{insert, remove}
use Rattle.std.specs.List.Sorted.{IsSortedByKey}
use Rattle.std.specs.Ordering.{int_cmp, is_lt}
use Rattle.std.proofs.lemmas.Cmp.{int_cmp_total}
use Rattle.std.proofs.lemmas.Int.{by_lt_z}
use Rattle.std.proofs.lemmas.List.{take_all}
use Rattle.std.proofs.lemmas.List.Edits.{length-insert, length-remove}
use Rattle.std.proofs.lemmas.List.Sorted.{ranks_by, sorted_far}
use Rattle.temporal_model.proofs.AnswerOrder.{int_cmp-Less}
use Rattle.period_core.specs.declared.period.Period.{Period}
use Rattle.period_keys.specs.Ordered.{AreInOrder, FitsAt}
use Rattle.period_keys.proofs.Edited.{remove_in_order}
use Rattle.period_keys.proofs.InOrder.{insert_in_order}

-- ---- the parts of a list with one element more

drop_0 : {X : Type 0} (xs : List X) → drop 0 xs ≡ xs
drop_0 [] = refl
drop_0 (y ∷ ys) = refl

insert_cons : {X : Type 0} (y : X) (ys : List X) (s p : ℕ) (x : X) → insert (y ∷ ys) (suc s + p) x ≡ y ∷ insert ys (s + p) x
insert_cons y ys s p x = let e : suc s + p ≡ suc (s + p) = omega arith in ap (λ n. insert (y ∷ ys) n x) e

remove_cons : {X : Type 0} (y : X) (ys : List X) (s p : ℕ) → remove (y ∷ ys) (suc s + p) ≡ y ∷ remove ys (s + p)
remove_cons y ys s p = let e : suc s + p ≡ suc (s + p) = omega arith in ap (λ n. remove (y ∷ ys) n) e

take_insert : {X : Type 0} (xs : List X) (s p : ℕ) (x : X) → s ≤ length xs → take s (insert xs (s + p) x) ≡ take s xs
take_insert xs zero p x h = refl
take_insert [] (suc s) p x h = absurd (omega (arith, h))
take_insert (y ∷ ys) (suc s) p x h = ap (take (suc s)) (insert_cons y ys s p x) ∙ ap (λ zs. y ∷ zs) (take_insert ys s p x (omega (arith, h)))

drop_insert : {X : Type 0} (xs : List X) (s p : ℕ) (x : X) → s ≤ length xs → drop s (insert xs (s + p) x) ≡ insert (drop s xs) p x
drop_insert xs zero p x h =
    let e : 0 + p ≡ p = omega arith in
    drop_0 (insert xs (0 + p) x) ∙ ap (λ n. insert xs n x) e ∙ ap (λ zs. insert zs p x) (sym (drop_0 xs))
drop_insert [] (suc s) p x h = absurd (omega (arith, h))
drop_insert (y ∷ ys) (suc s) p x h = ap (drop (suc s)) (insert_cons y ys s p x) ∙ drop_insert ys s p x (omega (arith, h))

-- ---- and with one less

take_remove : {X : Type 0} (xs : List X) (s i : ℕ) → i ≤ s → take s (remove xs i) ≡ remove (take (suc s) xs) i
take_remove [] zero zero h = refl
take_remove [] (suc s) zero h = refl
take_remove [] zero (suc i) h = absurd (omega (arith, h))
take_remove [] (suc s) (suc i) h = refl
take_remove (y ∷ ys) s zero h = refl
take_remove (y ∷ ys) zero (suc i) h = absurd (omega (arith, h))
take_remove (y ∷ ys) (suc s) (suc i) h = ap (λ zs. y ∷ zs) (take_remove ys s i (omega (arith, h)))

drop_remove : {X : Type 0} (xs : List X) (s i : ℕ) → i ≤ s → drop s (remove xs i) ≡ drop (suc s) xs
drop_remove [] zero zero h = refl
drop_remove [] (suc s) zero h = refl
drop_remove [] zero (suc i) h = absurd (omega (arith, h))
drop_remove [] (suc s) (suc i) h = refl
drop_remove (y ∷ ys) s zero h = refl
drop_remove (y ∷ ys) zero (suc i) h = absurd (omega (arith, h))
drop_remove (y ∷ ys) (suc s) (suc i) h = drop_remove ys s i (omega (arith, h))

take_remove_late : {X : Type 0} (xs : List X) (s p : ℕ) → s ≤ length xs → take s (remove xs (s + p)) ≡ take s xs
take_remove_late xs zero p h = refl
take_remove_late [] (suc s) p h = absurd (omega (arith, h))
take_remove_late (y ∷ ys) (suc s) p h = ap (take (suc s)) (remove_cons y ys s p) ∙ ap (λ zs. y ∷ zs) (take_remove_late ys s p (omega (arith, h)))

drop_remove_late : {X : Type 0} (xs : List X) (s p : ℕ) → s ≤ length xs → drop s (remove xs (s + p)) ≡ remove (drop s xs) p
drop_remove_late xs zero p h =
    let e : 0 + p ≡ p = omega arith in
    drop_0 (remove xs (0 + p)) ∙ ap (remove xs) e ∙ ap (λ zs. remove zs p) (sym (drop_0 xs))
drop_remove_late [] (suc s) p h = absurd (omega (arith, h))
drop_remove_late (y ∷ ys) (suc s) p h = ap (drop (suc s)) (remove_cons y ys s p) ∙ drop_remove_late ys s p (omega (arith, h))

length_take : {X : Type 0} (xs : List X) (s : ℕ) → s ≤ length xs → length (take s xs) ≡ s
length_take xs zero h = refl
length_take [] (suc s) h = absurd (omega (arith, h))
length_take (y ∷ ys) (suc s) h = ap suc (length_take ys s (omega (arith, h)))

length_drop : {X : Type 0} (xs : List X) (s : ℕ) → s ≤ length xs → s + length (drop s xs) ≡ length xs
length_drop xs zero h = let e : length (drop 0 xs) ≡ length xs = ap length (drop_0 xs) in omega arith
length_drop [] (suc s) h = absurd (omega (arith, h))
length_drop (y ∷ ys) (suc s) h = let e : s + length (drop s ys) ≡ length ys = length_drop ys s (omega (arith, h)) in omega arith

nothing_after : {X : Type 0} (xs : List X) (s : ℕ) → s ≤ length xs → drop s xs ≡ [] → s ≡ length xs
nothing_after xs s h none = let e : length (drop s xs) ≡ 0 = ap length none in let size : s + length (drop s xs) ≡ length xs = length_drop xs s h in omega arith

all_dropped : {X : Type 0} (xs : List X) (s : ℕ) → length xs ≤ s → drop s xs ≡ []
all_dropped [] zero h = refl
all_dropped [] (suc s) h = refl
all_dropped (y ∷ ys) zero h = absurd (omega (arith, h))
all_dropped (y ∷ ys) (suc s) h = all_dropped ys s (omega (arith, h))

pub none_in_order : (xs : List Period) → xs ≡ [] → AreInOrder xs
none_in_order xs none = subst AreInOrder (sym none) (λ i j d lt below. absurd (omega (arith, below)))

-- ---- both parts in order

pub record AreRuns (settled : ℕ) (periods : List Period) : Type 0 where
  pub within : settled ≤ length periods
  pub ordered : AreInOrder (take settled periods)
  pub late : AreInOrder (drop settled periods)

fits_order : (xs : List Period) (x : Period) (place : ℕ) → FitsAt x.start xs place → AreInOrder xs → AreInOrder (insert xs place x)
fits_order xs x place fits order = insert_in_order xs place x fits.0 order fits.1 fits.2

-- a period is added to the settled run
pub settles : (settled place : ℕ) (periods : List Period) (x : Period) → AreRuns settled periods → drop settled periods ≡ [] → FitsAt x.start (take settled periods) place
    → AreRuns (settled + 1) (insert periods place x)
settles settled place periods x runs none fits =
    let whole : settled ≡ length periods = nothing_after periods settled runs.within none in
    let all : take settled periods ≡ periods = take_all settled periods (omega arith) in
    let inside : place ≤ length periods = subst (λ (xs : List Period). place ≤ length xs) all fits.0 in
    let size : length (insert periods place x) ≡ length periods + 1 = length-insert periods place x inside in
    let order : AreInOrder (insert periods place x) = subst (λ (xs : List Period). AreInOrder (insert xs place x)) all (fits_order (take settled periods) x place fits runs.ordered) in
    record {
      within = omega arith;
      ordered = subst AreInOrder (sym (take_all (settled + 1) (insert periods place x) (omega arith))) order;
      late = none_in_order (drop (settled + 1) (insert periods place x)) (all_dropped (insert periods place x) (settled + 1) (omega arith));
    }

-- a period is added to the late run
pub comes_late : (settled place p : ℕ) (periods : List Period) (x : Period) → AreRuns settled periods → place ≡ settled + p → FitsAt x.start (drop settled periods) p
    → AreRuns settled (insert periods place x)
comes_late settled place p periods x runs is fits =
    let size : settled + length (drop settled periods) ≡ length periods = length_drop periods settled runs.within in
    let low : p ≤ length (drop settled periods) = fits.0 in
    let longer : length (insert periods (settled + p) x) ≡ length periods + 1 = length-insert periods (settled + p) x (omega arith) in
    subst (λ n. AreRuns settled (insert periods n x)) (sym is) (record {
      within = let h = runs.within in omega arith;
      ordered = subst AreInOrder (sym (take_insert periods settled p x runs.within)) runs.ordered;
      late = subst AreInOrder (sym (drop_insert periods settled p x runs.within)) (fits_order (drop settled periods) x p fits runs.late);
    })

-- the place at which a period arrives: among the settled ones, or the late ones
abbrev pub ComesIn : ℤ → ℕ → List Period → ℕ → Bool → Type 0
ComesIn day settled periods place settles =
    (settles ≡ true → (drop settled periods ≡ []) × FitsAt day (take settled periods) place)
    × (settles ≡ false → (p : ℕ) × (place ≡ settled + p) × FitsAt day (drop settled periods) p)

-- a period is removed from the settled run
pub settled_gone : (settled place : ℕ) (periods : List Period) → AreRuns settled periods → place < settled → AreRuns (settled - 1) (remove periods place)
settled_gone settled place periods runs lt =
    let one : suc (settled - 1) ≡ settled = omega arith in
    let within : settled ≤ length periods = runs.within in
    let size : length (remove periods place) + 1 ≡ length periods = length-remove periods place (omega arith) in
    let there : length (take settled periods) ≡ settled = length_take periods settled within in
    record {
      within = omega arith;
      ordered = subst AreInOrder (sym (take_remove periods (settled - 1) place (omega arith)))
          (subst (λ n. AreInOrder (remove (take n periods) place)) (sym one) (remove_in_order (take settled periods) place (omega arith) runs.ordered));
      late = subst AreInOrder (sym (drop_remove periods (settled - 1) place (omega arith))) (subst (λ n. AreInOrder (drop n periods)) (sym one) runs.late);
    }

-- a period is removed from the late run
pub late_gone : (settled place : ℕ) (periods : List Period) → AreRuns settled periods → settled ≤ place → place < length periods → AreRuns settled (remove periods place)
late_gone settled place periods runs ge inside =
    let is : settled + (place - settled) ≡ place = omega arith in
    let within : settled ≤ length periods = runs.within in
    let size : settled + length (drop settled periods) ≡ length periods = length_drop periods settled within in
    let shorter : length (remove periods place) + 1 ≡ length periods = length-remove periods place inside in
    subst (λ n. AreRuns settled (remove periods n)) is (record {
      within = let e : length (remove periods (settled + (place - settled))) ≡ length (remove periods place) = ap (λ n. length (remove periods n)) is in omega arith;
      ordered = subst AreInOrder (sym (take_remove_late periods settled (place - settled) within)) runs.ordered;
      late = subst AreInOrder (sym (drop_remove_late periods settled (place - settled) within)) (remove_in_order (drop settled periods) (place - settled) (omega arith) runs.late);
    })

-- ---- all in order

start_upto : {X : Type 0} (start : X → ℤ) (xs : List X) → IsSortedByKey start int_cmp xs → (i j : ℕ) (d : X) → i < j → j < length xs → start (get_or xs i d) ≤ℤ start (get_or xs j d)
start_upto start xs up i j d lt below =
    let a : ℤ = start (get_or xs i d) in
    let b : ℤ = start (get_or xs j d) in
    let far : is_lt (int_cmp b a) ≡ false = sorted_far (λ x y. is_lt (int_cmp (start x) (start y))) (ranks_by int_cmp_total start) xs up i j d (omega (arith, lt)) below in
    by_lt_z {P = a ≤ℤ b} b a (λ less. let wrong : is_lt (int_cmp b a) ≡ true = ap is_lt (int_cmp-Less b a less) in cc) (λ upto. upto)

-- periods that are sorted by their starts
pub periods_in_order : (periods : List Period) → IsSortedByKey (λ (p : Period). p.start) int_cmp periods → AreInOrder periods
periods_in_order periods up = start_upto (λ (p : Period). p.start) periods up

pub all_settled : (periods : List Period) → AreInOrder periods → AreRuns (length periods) periods
all_settled periods order = record {
  within = omega arith;
  ordered = subst AreInOrder (sym (take_all (length periods) periods (omega arith))) order;
  late = none_in_order (drop (length periods) periods) (all_dropped periods (length periods) (omega arith));
}

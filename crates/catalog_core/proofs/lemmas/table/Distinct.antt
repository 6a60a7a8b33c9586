-- If no two columns share a name, a column is found by its name.
use Rattle.std.proofs.Common.{◌≡◌, ◌<◌, ◌≤◌, ◌∷◌, ◌&&◌, ◌||◌, ◌∙◌, ℕ, zero, suc, Bool, true, false, not, List, [], None, Some, cond, bytes_eq, count_by, nat_lt, get_or, length, filter, refl, sym, ap, arith}
use Rattle.std.specs.List.{list_any, position}
use Rattle.std.proofs.lemmas.Bool.Decides.{nat_tests}
use Rattle.std.proofs.lemmas.List.Quantifiers.{position-Some}
use Rattle.std.proofs.lemmas.List.Sums.{length-filter}
use Rattle.std.proofs.lemmas.Slice.Eq.{bytes_eq-Decides}
use Rattle.catalog_core.proofs.lemmas.create.Built.{place_within}
use Rattle.catalog_core.proofs.lemmas.table.Positions.{none_passes}
use Rattle.catalog_core.proofs.lemmas.judged.Sound.{fails_at}
use Rattle.catalog_core.specs.table.Matches.{is_matching}
use Rattle.catalog_core.specs.table.TableWords.{def_matches, def_place, has_distinct_names}
use Rattle.catalog_core.specs.declared.table.match_counts.MatchCount.TheVariants.{Many}
use Rattle.catalog_core.specs.declared.table.Column.{Column}
use Rattle.catalog_core.specs.declared.table.TableDef.{TableDef}
use Rattle.catalog_core.specs.table.Naming.{matches_among, place_among}

-- an element that passes is in the filtered list
pub kept_some : {X : Type 0} (p : X → Bool) (xs : List X) (i : ℕ) (d : X) → i < length xs → p (get_or xs i d) ≡ true → 0 < length (filter p xs)
kept_some p [] i d here passing = absurd (omega (arith, here))
kept_some p (x ∷ xs) zero d here passing = rw passing (omega arith)
kept_some p (x ∷ xs) (suc i) d here passing =
    let more : 0 < length (filter p xs) = kept_some p xs i d (omega (arith, here)) passing in
    (elim (p x) as (λ b. 0 < length (cond b (x ∷ filter p xs) (filter p xs))) [ true ↦ omega (arith, more) | false ↦ more ])

-- elements that pass are at one place, if the filtered list has at most one
same_place : {X : Type 0} (p : X → Bool) (xs : List X) (i k : ℕ) (d : X) → i < length xs → k < length xs
    → p (get_or xs i d) ≡ true → p (get_or xs k d) ≡ true → length (filter p xs) ≤ 1 → i ≡ k
same_place p [] i k d first second one other few = absurd (omega (arith, first))
same_place p (x ∷ xs) zero zero d first second one other few = refl
same_place p (x ∷ xs) zero (suc k) d first second one other few =
    let more : 0 < length (filter p xs) = kept_some p xs k d (omega (arith, second)) other in
    let all : length (x ∷ filter p xs) ≤ 1 = rw one at few in
    absurd (omega (arith, more, all))
same_place p (x ∷ xs) (suc i) zero d first second one other few =
    let more : 0 < length (filter p xs) = kept_some p xs i d (omega (arith, first)) one in
    let all : length (x ∷ filter p xs) ≤ 1 = rw other at few in
    absurd (omega (arith, more, all))
same_place p (x ∷ xs) (suc i) (suc k) d first second one other few =
    let fewer : length (filter p xs) ≤ 1 =
    (elim (p x) as (λ b. length (cond b (x ∷ filter p xs) (filter p xs)) ≤ 1 → length (filter p xs) ≤ 1) [
      | true ↦ (λ e. omega (arith, e))
      | false ↦ (λ e. e)
    ]) few in
    let same : i ≡ k = same_place p xs i k d (omega (arith, first)) (omega (arith, second)) one other fewer in
    omega (arith, same)

none_and : {X : Type 0} (p q : X → Bool) (xs : List X) → length (filter p xs) ≤ 0 → list_any (λ y. p y && q y) xs ≡ false
none_and p q [] none = refl
none_and p q (x ∷ xs) none =
    (elim (p x) as (λ b. length (cond b (x ∷ filter p xs) (filter p xs)) ≤ 0 → (b && q x || list_any (λ y. p y && q y) xs) ≡ false) [
      | true ↦ (λ e. absurd (omega (arith, e)))
      | false ↦ (λ e. none_and p q xs e)
    ]) none

or_false : (b : Bool) → (b || false) ≡ b
or_false true = refl
or_false false = refl

-- a test of the only element that passes another test
pub only_one : {X : Type 0} (p q : X → Bool) (xs : List X) (i : ℕ) (d : X) → i < length xs → p (get_or xs i d) ≡ true → length (filter p xs) ≤ 1
    → list_any (λ y. p y && q y) xs ≡ q (get_or xs i d)
only_one p q [] i d here passing few = absurd (omega (arith, here))
only_one p q (x ∷ xs) zero d here passing few =
    let all : length (x ∷ filter p xs) ≤ 1 = rw passing at few in
    let rest : length (filter p xs) ≤ 0 = omega (arith, all) in
    rw (passing, none_and p q xs rest) (or_false (q x))
only_one p q (x ∷ xs) (suc i) d here passing few =
    let more : 0 < length (filter p xs) = kept_some p xs i d (omega (arith, here)) passing in
    (elim (p x) as (λ b. length (cond b (x ∷ filter p xs) (filter p xs)) ≤ 1 → (b && q x || list_any (λ y. p y && q y) xs) ≡ q (get_or xs i d)) [
      | true ↦ (λ e. absurd (omega (arith, e, more)))
      | false ↦ (λ e. only_one p q xs i d (omega (arith, here)) passing e)
    ]) few

not_true : (b : Bool) → not b ≡ true → b ≡ false
not_true true e = sym e
not_true false e = refl

-- a column's name matches no other
pub few_named : (t : TableDef) (i : ℕ) (x : Column) → has_distinct_names t ≡ true → i < length t.columns → x ≡ get_or t.columns i x
    → length (filter (λ (y : Column). bytes_eq x.name y.name) t.columns) ≤ 1
unfolding has_distinct_names matches_among is_matching
few_named t i x distinct here item =
    let several : Column → Bool = λ y. is_matching Many (def_matches t y.name) in
    let p : Column → Bool = λ y. bytes_eq x.name y.name in
    let few : nat_lt 1 (count_by p t.columns) ≡ false = fails_at several t.columns i x here item (not_true (list_any several t.columns) distinct) in
    let kept : length (filter p t.columns) ≡ count_by p t.columns = length-filter p t.columns in
    grind (arith, nat_tests)

pub own_name : (x : Column) → bytes_eq x.name x.name ≡ true
own_name x = (bytes_eq-Decides x.name x.name).1 refl

-- the name gives the column's place
pub its_place : (t : TableDef) (i : ℕ) (x : Column) → has_distinct_names t ≡ true → i < length t.columns → x ≡ get_or t.columns i x → def_place t x.name ≡ Some i
unfolding place_among
its_place t i x distinct here item =
    let p : Column → Bool = λ y. bytes_eq x.name y.name in
    let mine : p (get_or t.columns i x) ≡ true = ap p (sym item) ∙ own_name x in
    let few = few_named t i x distinct here item in
    (elim (position p t.columns) as (λ o. position p t.columns ≡ o → o ≡ Some i) [
      | None ↦ (λ none.
          let zero : length (filter p t.columns) ≡ 0 = none_passes p t.columns none in
          let more : 0 < length (filter p t.columns) = kept_some p t.columns i x here mine in
          absurd (omega (arith, zero, more)))
      | Some n ↦ (λ found.
          let first = position-Some p t.columns n x found in
          let inside : n < length t.columns = place_within p t.columns n found in
          let same : n ≡ i = same_place p t.columns n i x inside here first.1 mine few in
          ap (λ (k : ℕ). Some k) same)
    ]) refl

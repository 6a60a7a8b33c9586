-- Traced rows: at two places they have two origins, if the day's rows differ; in another order they are the same ones.
use Rattle.std.proofs.Common.{◌≡◌, ◌+◌, ◌<◌, ◌≤◌, ◌∷◌, ◌∙◌, ℕ, ℤ, Bool, List, [], ap, arith, get_or, inl, inr, length, map, not, subst, sym}
use Rattle.std.specs.Prelude.{◌↔◌, Contains, IsPermutation, filter}
use Rattle.std.specs.List.{enumerate_from}
use Rattle.std.proofs.lemmas.Bool.{cases_lt}
use Rattle.std.proofs.lemmas.List.{get_or_default}
use Rattle.std.proofs.lemmas.List.Sorted.{Contains-permutation, IsPermutation-append_left, IsPermutation-map, IsPermutation-sym}
use Rattle.period_core.specs.declared.value.Value.{Value}
use Rattle.temporal_model.proofs.Members.{Contains-cons_cases, Contains-nil, Contains-one}
use Rattle.temporal_model.proofs.Rearranged.{IsPermutation-filter}
use Rattle.catalog_core.specs.declared.change.Action.{Action}
use Rattle.catalog_core.specs.declared.change.Action.TheVariants.{Delete, Insert, Update}
use Rattle.catalog_core.specs.declared.change.InsertedRow.{InsertedRow}
use Rattle.history_model.specs.Effects.{Given, Kept, Origin, Traced, acts_on, inserted_covers, inserted_row, kept, rows_after, traced, updated}
use Rattle.period_keys.specs.Days.{ShareKey}
use Rattle.period_keys.specs.Keys.{SomePair, values_at}
use Rattle.period_keys.specs.Lawful.{OriginsShareKey}
use Rattle.period_keys.proofs.MappedPairs.{pair_of_filter, pair_of_map}
use Rattle.period_keys.proofs.ByDays.{pair_in_map}
use Rattle.period_keys.proofs.Members.{from_map}
use Rattle.period_keys.proofs.Pairs.{SomePair-append, SomePair-nil, SomePair-one, SomePair-permutation}

-- ---- pairs

pair_weaker : {X : Type 0} (R S : X → X → Type 0) → ((x y : X) → R x y → S x y) → (xs : List X) → SomePair R xs → SomePair S xs
pair_weaker R S weaker xs (i, j, lt, below, both) = (i, j, lt, below, λ d. weaker (get_or xs i d) (get_or xs j d) (both d))

-- a member at its place, whatever the default
at_place : {X : Type 0} (xs : List X) (k : ℕ) (x d : X) → k < length xs → get_or xs k x ≡ x → x ≡ get_or xs k d
at_place xs k x d below is = sym is ∙ get_or_default xs k x d below

-- two members that differ are at two places
apart_pair : {X : Type 0} (R : X → X → Type 0) → ((x y : X) → R x y → R y x) → (xs : List X) (a b : X) → Contains xs a → Contains xs b → (a ≡ b → ⊥) → R a b → SomePair R xs
apart_pair {X} R turned xs a b (i, at_i, a_is) (j, at_j, b_is) differ related =
    elim (cases_lt i j) [
      | inl less ↦ (i, j, less, at_j, λ d. subst (λ (x : X). R x (get_or xs j d)) (at_place xs i a d at_i a_is) (subst (R a) (at_place xs j b d at_j b_is) related))
      | inr ge ↦ elim (cases_lt j i) [
        | inl more ↦ (j, i, more, at_i, λ d. subst (λ (x : X). R x (get_or xs i d)) (at_place xs j b d at_j b_is) (subst (R b) (at_place xs i a d at_i a_is) (turned a b related)))
        | inr le ↦ let same : i ≡ j = omega arith in
            absurd (differ (at_place xs i a b at_i a_is ∙ ap (λ n. get_or xs n b) same ∙ b_is))
      ]
    ]

-- a list has both elements of a pair of its places
of_pair : {X : Type 0} (R : X → X → Type 0) (xs : List X) (i j : ℕ) (lt : i < j) (below : j < length xs) → (d : X) → Contains xs (get_or xs i d) × Contains xs (get_or xs j d)
of_pair R xs i j lt below d = ((i, omega arith, get_or_default xs i (get_or xs i d) d (omega arith)), (j, below, get_or_default xs j (get_or xs j d) d below))

-- ---- origins

abbrev SameOrigin : Traced → Traced → Type 0
SameOrigin a b = a.origin ≡ b.origin

abbrev values_or : Origin → List Value → List Value
values_or (Kept v) other = v
values_or (Given i) other = other

abbrev index_or : Origin → ℕ → ℕ
index_or (Kept v) other = other
index_or (Given i) other = i

kept_apart : (v w : List Value) → Kept v ≡ Kept w → v ≡ w
kept_apart v w e = ap (λ o. values_or o v) e

given_apart : (i j : ℕ) → Given i ≡ Given j → i ≡ j
given_apart i j e = ap (λ o. index_or o i) e

no_common : (v : List Value) (i : ℕ) → Kept v ≡ Given i → ⊥
no_common v i e = cc

abbrev SameNumber : {X : Type 0} → ℕ × X → ℕ × X → Type 0
SameNumber a b = a.0 ≡ b.0

numbered_from : {X : Type 0} (k : ℕ) (xs : List X) (y : ℕ × X) → Contains (enumerate_from k xs) y → k ≤ y.0
numbered_from k [] y h = absurd (Contains-nil y h)
numbered_from k (x ∷ xs) y h =
    elim (Contains-cons_cases (k, x) (enumerate_from (k + 1) xs) y h) [
      | inl e ↦ (let same : k ≡ y.0 = ap (λ p. p.0) e in omega arith)
      | inr later ↦ (let above : k + 1 ≤ y.0 = numbered_from (k + 1) xs y later in omega arith)
    ]

numbers_differ : {X : Type 0} (k : ℕ) (xs : List X) → SomePair (SameNumber {X = X}) (enumerate_from k xs) → ⊥
numbers_differ {X} k [] h = SomePair-nil (SameNumber {X = X}) h
numbers_differ {X} k (x ∷ xs) h =
    elim (SomePair-append (SameNumber {X = X}) ((k, x) ∷ []) (enumerate_from (k + 1) xs) h) [
      | inl one ↦ SomePair-one (SameNumber {X = X}) (k, x) one
      | inr (inl cross) ↦
          let above : k + 1 ≤ cross.1.0 = numbered_from (k + 1) xs cross.1 cross.3 in
          let here : k ≡ cross.0.0 = ap (λ p. p.0) (Contains-one (k, x) cross.0 cross.2) in
          let same : cross.0.0 ≡ cross.1.0 = cross.4 in
          omega arith
      | inr (inr later) ↦ numbers_differ (k + 1) xs later
    ]

abbrev Differ : List (List Value) → Type 0
Differ rows = SomePair (λ (v w : List Value). v ≡ w) rows → ⊥

kept_differ : (rows : List (List Value)) → Differ rows → SomePair SameOrigin (map kept rows) → ⊥
kept_differ rows apart h = apart (pair_weaker (λ v w. Kept v ≡ Kept w) (λ v w. v ≡ w) kept_apart rows (pair_of_map SameOrigin kept rows h))

given_differ : (day : ℤ) (given : List InsertedRow) → SomePair SameOrigin (map inserted_row (filter (inserted_covers day) (enumerate_from 0 given))) → ⊥
given_differ day given h =
    let listed : List (ℕ × InsertedRow) = enumerate_from 0 given in
    numbers_differ 0 given (pair_of_filter (inserted_covers day) (λ a b. SameOrigin (inserted_row a) (inserted_row b)) (SameNumber {X = InsertedRow}) (λ a b t u e. given_apart a.0 b.0 e) listed
    (pair_of_map SameOrigin inserted_row (filter (inserted_covers day) listed) h))

-- rows at two places have two origins
origins_differ : (action : Action) (day : ℤ) (rows : List (List Value)) → Differ rows → SomePair SameOrigin (traced action day rows) → ⊥
origins_differ (Insert given) day rows apart h =
    let shown : List (ℕ × InsertedRow) = filter (inserted_covers day) (enumerate_from 0 given) in
    elim (SomePair-append SameOrigin (map kept rows) (map inserted_row shown) h) [
      | inl left ↦ kept_differ rows apart left
      | inr (inl cross) ↦ (let p = from_map kept rows cross.0 cross.2 in let q = from_map inserted_row shown cross.1 cross.3 in
          no_common p.0 q.0.0 (ap (λ (t : Traced). t.origin) p.2 ∙ cross.4 ∙ sym (ap (λ (t : Traced). t.origin) q.2)))
      | inr (inr right) ↦ given_differ day given right
    ]
origins_differ (Update portion assignments condition) day rows apart h =
    apart (pair_weaker (λ v w. Kept v ≡ Kept w) (λ v w. v ≡ w) kept_apart rows (pair_of_map SameOrigin (updated portion assignments condition day) rows h))
origins_differ (Delete portion condition) day rows apart h =
    let stays : List Value → Bool = λ row. not (acts_on portion condition day row) in
    kept_differ (filter stays rows) (λ g. apart (pair_of_filter stays (λ v w. v ≡ w) (λ v w. v ≡ w) (λ v w t u e. e) rows g)) h

-- ---- a shared key

abbrev SameKey : List ℕ → List Value → List Value → Type 0
SameKey positions v w = values_at positions v ≡ values_at positions w

abbrev SameTracedKey : List ℕ → Traced → Traced → Type 0
SameTracedKey positions a b = SameKey positions a.row b.row

abbrev row_of : Traced → List Value
row_of t = t.row

with_origins : (positions : List ℕ) (ts : List Traced) → (SomePair SameOrigin ts → ⊥) → SomePair (SameTracedKey positions) ts → OriginsShareKey positions ts
with_origins positions [] apart (i, j, lt, below, both) = absurd (omega arith)
with_origins positions (t ∷ ts) apart (i, j, lt, below, both) =
    let all : List Traced = t ∷ ts in
    let members : Contains all (get_or all i t) × Contains all (get_or all j t) = of_pair SameOrigin all i j lt below t in
    let same_origins : SameOrigin (get_or all i t) (get_or all j t) → (d : Traced) → SameOrigin (get_or all i d) (get_or all j d) =
    λ e d. ap (λ (x : Traced). x.origin) (get_or_default all i d t (omega arith)) ∙ e ∙ ap (λ (x : Traced). x.origin) (get_or_default all j t d below) in
    (get_or all i t, get_or all j t, members.0, members.1, (λ e. apart (i, j, lt, below, same_origins e)), both t)

from_origins : (positions : List ℕ) (ts : List Traced) → OriginsShareKey positions ts → SomePair (SameTracedKey positions) ts
from_origins positions ts (a, b, in_a, in_b, apart, same) = apart_pair (SameTracedKey positions) (λ x y e. sym e) ts a b in_a in_b (λ e. apart (ap (λ (t : Traced). t.origin) e)) same

-- if no two rows of a day shared the key before, two rows after it do exactly if two traced rows of different origins do
pub of_origins : (positions : List ℕ) (action : Action) (day : ℤ) (rows after : List (List Value)) → IsPermutation after (rows_after action day rows) → (ShareKey positions rows → ⊥)
    → (ShareKey positions after ↔ OriginsShareKey positions (traced action day rows))
of_origins positions action day rows after moved clean =
    let ts : List Traced = traced action day rows in
    let Same : List Value → List Value → Type 0 = SameKey positions in
    let apart : Differ rows = λ g. clean (pair_weaker (λ v w. v ≡ w) Same (λ v w e. ap (values_at positions) e) rows g) in (
      λ h. with_origins positions ts (origins_differ action day rows apart)
          (pair_of_map Same row_of ts (SomePair-permutation Same (λ v w e. sym e) after (map row_of ts) moved h)),
      λ h. SomePair-permutation Same (λ v w e. sym e) (map row_of ts) after (IsPermutation-sym after (map row_of ts) moved)
          (pair_in_map Same row_of ts (from_origins positions ts h)),
    )

-- ---- in another order

pub traced_moved : (action : Action) (day : ℤ) (xs ys : List (List Value)) → IsPermutation xs ys → IsPermutation (traced action day xs) (traced action day ys)
traced_moved (Insert given) day xs ys moved =
    IsPermutation-append_left (map inserted_row (filter (inserted_covers day) (enumerate_from 0 given))) (map kept xs) (map kept ys) (IsPermutation-map kept xs ys moved)
traced_moved (Update portion assignments condition) day xs ys moved = IsPermutation-map (updated portion assignments condition day) xs ys moved
traced_moved (Delete portion condition) day xs ys moved =
    let stays : List Value → Bool = λ row. not (acts_on portion condition day row) in
    IsPermutation-map kept (filter stays xs) (filter stays ys) (IsPermutation-filter stays xs ys moved)

pub origins_moved : (positions : List ℕ) (ts us : List Traced) → IsPermutation ts us → OriginsShareKey positions ts → OriginsShareKey positions us
origins_moved positions ts us moved (a, b, in_a, in_b, apart, same) = (a, b, Contains-permutation ts us a moved in_a, Contains-permutation ts us b moved in_b, apart, same)

pub rows_moved : (action : Action) (day : ℤ) (xs ys : List (List Value)) → IsPermutation xs ys → IsPermutation (rows_after action day xs) (rows_after action day ys)
rows_moved action day xs ys moved = IsPermutation-map row_of (traced action day xs) (traced action day ys) (traced_moved action day xs ys moved)

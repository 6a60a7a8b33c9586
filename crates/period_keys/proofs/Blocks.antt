-- Blocks of placed periods: one that changes, and one more.
use Rattle.std.proofs.Common.{◌≡◌, ◌⊎◌, ◌<◌, Bool, true, false, ◌≤ℤ◌, ◌+◌, ◌++◌, ◌∷◌, [], ◌∙◌, ℕ, ℤ, List, length, get_or, set, take, drop, sym, ap, subst, inl, inr, arith}
use Rattle.std.specs.Bool.{OnTrue}
use Rattle.std.specs.List.{All, Any, Contains, insert, swap_remove}
use Rattle.std.specs.List.Sorted.{IsPermutation}
use Rattle.std.proofs.lemmas.Int.{ints}
use Rattle.std.proofs.lemmas.List.Elements.{All-append, All-cons, All-weaker, Contains-append_cases, Contains-append_left, Contains-append_right}
use Rattle.period_keys.specs.Between.{LiesBetween}
use Rattle.std.proofs.lemmas.Bool.{cases_lt}
use Rattle.std.proofs.lemmas.List.{get_or_default, get_or-set_other, get_or-set_same, length-set, take-append-drop, take_more}
use Rattle.std.proofs.lemmas.List.Sorted.{Contains-permutation, IsPermutation-insert, IsPermutation-swap_remove}
use Rattle.temporal_model.proofs.Members.{Contains-cons_cases, Contains-here, Contains-one}
use Rattle.period_core.specs.declared.period.Period.{Period}
use Rattle.period_keys.specs.declared.block.Block.{Block}
use Rattle.period_keys.specs.declared.placed_period.PlacedPeriod.{PlacedPeriod}
use Rattle.period_keys.proofs.Members.{Any-append, Any-permutation, some_member}

-- some block has the period
abbrev pub Has : PlacedPeriod → List Block → Type 0
Has item blocks = Any (λ (block : Block). Contains block.items.items item) blocks

-- if one block changes, only some of its items may go
pub changed_block : (blocks : List Block) (i : ℕ) (old new : Block) (Gone : PlacedPeriod → Type 0) → i < length blocks → old ≡ get_or blocks i old
    → ((x : PlacedPeriod) → Contains old.items.items x → Gone x ⊎ Contains new.items.items x) → (x : PlacedPeriod) → Has x blocks → Gone x ⊎ Has x (set blocks i new)
changed_block blocks i old new Gone inside is kept x (k, b, below, at, there) =
    let size : length (set blocks i new) ≡ length blocks = length-set blocks i new in
    let other : (k ≡ i → ⊥) → Has x (set blocks i new) = λ apart. (k, b, omega arith, get_or-set_other blocks i k new b apart ∙ at, there) in
    elim (cases_lt k i) [
      | inl less ↦ inr (other (λ e. omega arith))
      | inr ge ↦ elim (cases_lt i k) [
        | inl more ↦ inr (other (λ e. omega arith))
        | inr le ↦
            let here : i ≡ k = omega arith in
            let same : b ≡ old = sym at ∙ ap (λ n. get_or blocks n b) (sym here) ∙ get_or_default blocks i b old inside ∙ sym is in
            elim (kept x (subst (λ (block : Block). Contains block.items.items x) same there)) [
              | inl gone ↦ inl gone
              | inr left ↦ inr (i, new, omega arith, get_or-set_same blocks i new new inside, left)
            ]
      ]
    ]

-- an item of a block that was put in place of another is one of the blocks'
pub in_changed : (blocks : List Block) (i : ℕ) (new : Block) (x : PlacedPeriod) → i < length blocks → Contains new.items.items x → Has x (set blocks i new)
in_changed blocks i new x inside there = let size : length (set blocks i new) ≡ length blocks = length-set blocks i new in (i, new, omega arith, get_or-set_same blocks i new new inside, there)

-- one block more leaves the periods that blocks have
pub more_blocks : (blocks : List Block) (at : ℕ) (block : Block) (x : PlacedPeriod) → Has x blocks → Has x (insert blocks at block)
more_blocks blocks at block x there =
    let P : Block → Type 0 = λ b. Contains b.items.items x in
    Any-permutation P (block ∷ blocks) (insert blocks at block) (IsPermutation-insert blocks at block) ((Any-append P (block ∷ []) blocks).1 (inr there))

pub in_new_block : (blocks : List Block) (at : ℕ) (block : Block) (x : PlacedPeriod) → Contains block.items.items x → Has x (insert blocks at block)
in_new_block blocks at block x there =
    some_member (λ (b : Block). Contains b.items.items x) (insert blocks at block) block
    (Contains-permutation (block ∷ blocks) (insert blocks at block) block (IsPermutation-insert blocks at block) (Contains-here block blocks)) there

-- items that lie between two days lie between days around them
pub wider : (start end low high : ℤ) (items : List PlacedPeriod) → low ≤ℤ start → end ≤ℤ high → All (LiesBetween start end) items → All (LiesBetween low high) items
wider start end low high items before after within =
    All-weaker (LiesBetween start end) (LiesBetween low high) (λ item (from, to). (omega (arith, ints), omega (arith, ints))) items within

-- items between two days lie between wider days, with one item more
pub wider_with :
    (start end low high : ℤ) (items all : List PlacedPeriod) (item : PlacedPeriod) → low ≤ℤ start → end ≤ℤ high → LiesBetween low high item → All (LiesBetween start end) items
    → all ≡ items ++ item ∷ [] → All (LiesBetween low high) all
wider_with start end low high items all item before after lies within is =
    subst (All (LiesBetween low high)) (sym is) (All-append (LiesBetween low high) items (item ∷ []) (wider start end low high items before after within) (All-cons (LiesBetween low high) item [] lies (λ k d below. absurd (omega arith))))

-- an element of a list is the one that is removed, or one of the rest
pub others_left : {X : Type 0} (xs left : List X) (gone x : X) → IsPermutation xs (gone ∷ left) → Contains xs x → (x ≡ gone) ⊎ Contains left x
others_left xs left gone x moved there = elim (Contains-cons_cases gone left x (Contains-permutation xs (gone ∷ left) x moved there)) [ inl same ↦ inl (sym same) | inr rest ↦ inr rest ]

-- the items of a block without the one at a place
pub all_but_one : (items left : List PlacedPeriod) (place : ℕ) (gone : PlacedPeriod) → place < length items → gone ≡ get_or items place gone → left ≡ swap_remove items place gone
    → IsPermutation items (gone ∷ left)
all_but_one items left place gone inside there is = subst (λ (xs : List PlacedPeriod). IsPermutation items (gone ∷ xs)) (sym is) (IsPermutation-swap_remove items place gone inside there)

pub left_by_one : (items left : List PlacedPeriod) (place : ℕ) (gone item : PlacedPeriod) → (place < length items) × (get_or items place item ≡ item) → gone ≡ get_or items place gone
    → left ≡ swap_remove items place gone → (other : PlacedPeriod) → Contains items other → (other ≡ item) ⊎ Contains left other
left_by_one items left place gone item (inside, at) there is other had =
    elim (others_left items left gone other (all_but_one items left place gone inside there is) had) [ inl same ↦ inl (same ∙ there ∙ get_or_default items place gone item inside ∙ at) | inr rest ↦ inr rest ]

-- the elements of a list stay if one is replaced, but for that one
pub others_kept : {X : Type 0} (xs : List X) (i : ℕ) (new old x : X) → i < length xs → get_or xs i old ≡ old → Contains xs x → (x ≡ old) ⊎ Contains (set xs i new) x
others_kept xs i new old x inside is (k, below, at) =
    let size : length (set xs i new) ≡ length xs = length-set xs i new in
    elim (cases_lt k i) [
      | inl less ↦ inr (k, omega arith, get_or-set_other xs i k new x (λ e. omega arith) ∙ at)
      | inr ge ↦ elim (cases_lt i k) [
        | inl more ↦ inr (k, omega arith, get_or-set_other xs i k new x (λ e. omega arith) ∙ at)
        | inr le ↦ let here : k ≡ i = omega arith in inl (sym at ∙ ap (λ n. get_or xs n x) here ∙ get_or_default xs i x old inside ∙ is)
      ]
    ]

-- an item that was found at a place
pub is_there : {X : Type 0} (xs ys : List X) (i : ℕ) (here x : X) → xs ≡ ys → i < length xs → get_or xs i here ≡ x → (i < length ys) × (get_or ys i x ≡ x)
is_there {X} xs ys i here x same below is = subst (λ (zs : List X). (i < length zs) × (get_or zs i x ≡ x)) same (below, get_or_default xs i x here below ∙ is)

-- an element of a list is in one of two parts of the list in another order
pub in_parts : {X : Type 0} (xs sorted : List X) (n : ℕ) (x : X) → IsPermutation xs sorted → Contains xs x → Contains (drop n sorted) x ⊎ Contains (take n sorted) x
in_parts {X} xs sorted n x moved there =
    elim (Contains-append_cases (take n sorted) (drop n sorted) x (subst (λ (ys : List X). Contains ys x) (sym (take-append-drop n sorted)) (Contains-permutation xs sorted x moved there))) [ inl first ↦ inr first | inr second ↦ inl second ]

-- one element more of a list is taken
pub taken : {X : Type 0} (xs : List X) (i : ℕ) (here x : X) → i < length xs → here ≡ get_or xs i here → Contains (take (i + 1) xs) x → Contains (take i xs) x ⊎ (here ≡ x)
taken {X} xs i here x below is there =
    let more : take (i + 1) xs ≡ take i xs ++ here ∷ [] = take_more xs i here below ∙ ap (λ (y : X). take i xs ++ y ∷ []) (sym is) in
    elim (Contains-append_cases (take i xs) (here ∷ []) x (subst (λ (ys : List X). Contains ys x) more there)) [ inl before ↦ inl before | inr one ↦ inr (Contains-one here x one) ]

abbrev placed_as : Period → ℕ → PlacedPeriod
placed_as period place = record { period = period; place = place }

-- two placed periods with one period and one place are one
pub same_placed : (one other : PlacedPeriod) → one.place ≡ other.place → one.period ≡ other.period → one ≡ other
same_placed one other place period = ap (λ (p : Period). placed_as p one.place) period ∙ ap (placed_as other.period) place

-- a block that got one more item
pub grown : (blocks : List Block) (i : ℕ) (old new : Block) (item : PlacedPeriod) → i < length blocks → old ≡ get_or blocks i old → new.items.items ≡ old.items.items ++ item ∷ []
    → (x : PlacedPeriod) → Has x blocks → Has x (set blocks i new)
grown blocks i old new item inside is more x there =
    elim (changed_block blocks i old new (λ y. ⊥) inside is (λ y here. inr (subst (λ (xs : List PlacedPeriod). Contains xs y) (sym more) (Contains-append_left old.items.items (item ∷ []) y here))) x there) [ inl none ↦ absurd none | inr has ↦ has ]

pub grown_by : (blocks : List Block) (i : ℕ) (old new : Block) (item : PlacedPeriod) → i < length blocks → new.items.items ≡ old.items.items ++ item ∷ [] → Has item (set blocks i new)
grown_by blocks i old new item inside more =
    in_changed blocks i new item inside (subst (λ (xs : List PlacedPeriod). Contains xs item) (sym more) (Contains-append_right old.items.items (item ∷ []) item (Contains-here item [])))

-- a block that is cut in two
pub cut_block : (blocks : List Block) (i j : ℕ) (old new later : Block) → i < length blocks → old ≡ get_or blocks i old
    → ((x : PlacedPeriod) → Contains old.items.items x → Contains later.items.items x ⊎ Contains new.items.items x) → (x : PlacedPeriod) → Has x blocks → Has x (insert (set blocks i new) j later)
cut_block blocks i j old new later inside is parts x there =
    elim (changed_block blocks i old new (λ (y : PlacedPeriod). Contains later.items.items y) inside is parts x there) [
      | inl second ↦ in_new_block (set blocks i new) j later x second
      | inr has ↦ more_blocks (set blocks i new) j later x has
    ]

pub on_true : (b : Bool) {P Q : Type 0} → (P → Q) → OnTrue b P → OnTrue b Q
on_true true f p = f p
on_true false f p = tt

-- the first case after two steps, each of which may end in it
pub still : {P Q R : Type 0} → P ⊎ Q → (Q → P ⊎ R) → P ⊎ R
still (inl gone) next = inl gone
still (inr has) next = next has

-- Clashes and uncovered children by the rows that hold on a day.
use Rattle.std.proofs.Common.{◌≡◌, ◌↔◌, ◌⊎◌, ◌∙◌, ℕ, ℤ, Bool, true, false, cond, List, [], ◌∷◌, length, map, get_or, refl, sym, ap, subst, inl, inr, arith}
use Rattle.std.specs.List.{Contains, filter}
use Rattle.std.proofs.lemmas.List.{get_or-map, length-map}
use Rattle.period_core.specs.declared.value.Value.{Value}
use Rattle.period_core.specs.declared.row.PeriodRow.{PeriodRow}
use Rattle.temporal_model.specs.Snapshot.{covers_day, values_on}
use Rattle.temporal_model.proofs.Members.{Contains-here, Contains-one}
use Rattle.temporal_model.proofs.Snapshots.{in_snapshot, held}
use Rattle.period_keys.specs.Keys.{IsKeyClash, IsUncovered, IsWithin, ShareKeyOn, SomePair, values_at}
use Rattle.period_keys.specs.Days.{LacksParent, ShareKey}
use Rattle.period_keys.proofs.MappedPairs.{pair_of_filter, pair_of_map}
use Rattle.period_keys.proofs.Members.{in_filter}
use Rattle.period_keys.proofs.Pairs.{SomeCross, SomePair-append, SomePair-cross, SomePair-nil, SomePair-one, SomePair-right}

-- two elements in a relation give two in a mapped list
pub pair_in_map : {X Y : Type 0} (R : Y → Y → Type 0) (f : X → Y) (xs : List X) → SomePair (λ a b. R (f a) (f b)) xs → SomePair R (map f xs)
pair_in_map {X} R f [] h = let S : X → X → Type 0 = λ a b. R (f a) (f b) in absurd (SomePair-nil S h)
pair_in_map R f (x ∷ xs) (i, j, lt, below, both) =
    let size : length (map f (x ∷ xs)) ≡ length (x ∷ xs) = length-map (x ∷ xs) f in (
      i,
      j,
      lt,
      omega arith,
      λ d.
          subst (λ y. R y (get_or (map f (x ∷ xs)) j d)) (sym (get_or-map f (x ∷ xs) i x d (omega arith)))
          (subst (R (f (get_or (x ∷ xs) i x))) (sym (get_or-map f (x ∷ xs) j x d below)) (both x)),
    )

-- two elements in a relation, both of which pass a test, are two in the filtered list
pair_in_filter :
    {X : Type 0} (test : X → Bool) (R S : X → X → Type 0) → ((x y : X) → R x y → (test x ≡ true) × (test y ≡ true) × S x y)
    → (xs : List X) → SomePair R xs → SomePair S (filter test xs)
pair_in_filter test R S gives [] h = absurd (SomePair-nil R h)
pair_in_filter {X} test R S gives (y ∷ ys) h = by_pair (λ p. pair_in_filter test R S gives ys p) (SomePair-append R (y ∷ []) ys h)
  where
    rest : List X
    rest = filter test ys

    kept : (b : Bool) → SomePair S rest → SomePair S (cond b (y ∷ rest) rest)
    kept true p = SomePair-right S (y ∷ []) rest p
    kept false p = p

    crossing : (z : X) → Contains ys z → R y z → SomePair S (cond (test y) (y ∷ rest) rest)
    crossing z there pair =
        let (t, u, s) = gives y z pair in
        subst (λ b. SomePair S (cond b (y ∷ rest) rest)) (sym t)
        (SomePair-cross S (y ∷ []) rest (y, z, Contains-here y [], in_filter test ys z there u, s))

    by_pair : (SomePair R ys → SomePair S rest) → SomePair R (y ∷ []) ⊎ (SomeCross R (y ∷ []) ys ⊎ SomePair R ys) → SomePair S (cond (test y) (y ∷ rest) rest)
    by_pair later (inl one) = absurd (SomePair-one R y one)
    by_pair later (inr (inl (x, z, in_one, there, pair))) = crossing z there (subst (λ w. R w z) (sym (Contains-one y x in_one)) pair)
    by_pair later (inr (inr others)) = kept (test y) (later others)

within_covers : (row : PeriodRow) (day : ℤ) → IsWithin row.period day → covers_day row.period.start row.period.end day ≡ true
within_covers row day h = grind (arith, h)

covers_within : (row : PeriodRow) (day : ℤ) → covers_day row.period.start row.period.end day ≡ true → IsWithin row.period day
covers_within row day h = grind (arith, h)

-- a key clash on a day is a pair of that day's rows with one key
pub clashes_of_days : (positions : List ℕ) (rows : List PeriodRow) (day : ℤ) → (IsKeyClash positions rows day ↔ ShareKey positions (values_on rows day))
clashes_of_days positions rows day =
    let test : PeriodRow → Bool = λ (row : PeriodRow). covers_day row.period.start row.period.end day in
    let values_of : PeriodRow → List Value = λ (row : PeriodRow). row.values in
    let Same : List Value → List Value → Type 0 = λ v w. values_at positions v ≡ values_at positions w in
    let SameKey : PeriodRow → PeriodRow → Type 0 = λ a b. Same a.values b.values in (
      λ h. pair_in_map Same values_of (filter test rows)
          (pair_in_filter test (ShareKeyOn positions day) SameKey
          (λ a b pair. (within_covers a day pair.1.0, within_covers b day pair.1.1, pair.0)) rows h),
      λ h. pair_of_filter test SameKey (ShareKeyOn positions day)
          (λ a b t u same. (same, (covers_within a day t, covers_within b day u))) rows
          (pair_of_map Same values_of (filter test rows) h),
    )

pub uncovered_of_days :
    (own : List ℕ) (children : List PeriodRow) (keys : List ℕ) (parents : List PeriodRow) (day : ℤ)
    → (IsUncovered own children keys parents day ↔ LacksParent own (values_on children day) keys (values_on parents day))
uncovered_of_days own children keys parents day = (
  λ (child, there, within, alone). (
    child.values,
    in_snapshot children day child.values (child, there, refl, within),
    λ parent seen same.
        let (row, in_parents, values, holds) = held parents day parent seen in
        alone (row, in_parents, ap (values_at keys) values ∙ same, holds),
  ),
  λ (child, seen, alone).
      let (row, there, values, within) = held children day child seen in (
        row,
        there,
        within,
        λ (parent, in_parents, same, holds).
            alone parent.values (in_snapshot parents day parent.values (parent, in_parents, refl, holds)) (same ∙ ap (values_at own) values),
      ),
)

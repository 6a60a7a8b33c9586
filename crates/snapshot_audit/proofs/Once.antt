-- Sorted lists without repeats, and the sets that they list.
use Rattle.std.proofs.Common.{◌≡◌, ◌↔◌, List, [], ◌∷◌, Ordering, ap, ◌∙◌, arith}
use Rattle.std.specs.List.{AllPairs, Contains}
use Rattle.std.specs.List.Sorted.{IsStrictlySortedBy}
use Rattle.std.specs.Ordering.{ordering_reverse}
use Rattle.std.specs.declared.cmp.Ordering.TheVariants.{Less, Greater}
use Rattle.std.proofs.lemmas.List.Kept.{AllPairs-cons}
use Rattle.std.proofs.lemmas.List.Elements.{All-from_recursion}
use Rattle.period_core.specs.Order.{values_cmp}
use Rattle.period_core.specs.OrderLaws.{values_cmp_total, values_cmp-same}
use Rattle.period_core.specs.declared.value.Value.{Value}
use Rattle.snapshot_audit.specs.Sets.{ListsSet, IsSortedOnce}

-- in a strictly sorted list each element is less than all later ones
pub AllPairs-from_strict :
    {K : Type 0} (cmp : K → K → Ordering) (xs : List K) → IsStrictlySortedBy cmp xs
    → AllPairs (λ a b. cmp a b ≡ Less) xs
unfolding IsStrictlySortedBy
AllPairs-from_strict cmp [] h = λ i j d lt below. absurd (omega arith)
AllPairs-from_strict cmp (x ∷ xs) h = AllPairs-cons (λ a b. cmp a b ≡ Less) x xs (All-from_recursion (λ y. cmp x y ≡ Less) xs h.0) (AllPairs-from_strict cmp xs h.1)

-- the set of a list's members, once the list is sorted without repeats
pub set_from_once :
    (InSet : List Value → Type 0) (items once : List (List Value))
    → ((values : List Value) → (Contains items values ↔ InSet values)) → IsSortedOnce values_cmp items once
    → ListsSet InSet once
set_from_once InSet items once same is = record {
  ascending = is.ascending;
  members = λ values. (
    λ h. (same values).0 ((is.members values_cmp-same values).0 h),
    λ h. (is.members values_cmp-same values).1 ((same values).1 h),
  );
}

strictly : (a b : List Value) → values_cmp a b ≡ Less → values_cmp b a ≡ Less → ⊥
strictly a b p q = let back : values_cmp b a ≡ Greater = values_cmp_total.antisymm b a ∙ ap ordering_reverse p in cc

-- a list of a set is a list of an equal set
pub set_by :
    (InOne InOther : List Value → Type 0) (list : List (List Value)) → ListsSet InOne list
    → ((values : List Value) → (InOne values ↔ InOther values)) → ListsSet InOther list
set_by InOne InOther list is same = record {
  ascending = is.ascending;
  members = λ values. (λ h. (same values).0 ((is.members values).0 h), λ h. (is.members values).1 ((same values).1 h));
}

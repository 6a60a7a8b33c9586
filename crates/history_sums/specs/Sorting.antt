-- Lists in order, and the order of versions.
use Rattle.std.specs.Prelude.{◌∷◌, List, [], if◌then◌else◌}
use Rattle.std.specs.Ordering.{int_cmp, is_lt, ordering_then}
use Rattle.std.specs.declared.cmp.Ordering.{Ordering}
use Rattle.period_core.specs.Order.{values_cmp}
use Rattle.history_model.specs.Versions.{PlainVersion}

-- an element put into a list in order, before the first that is not less
abbrev pub put_in : {X : Type 0} → (X → X → Ordering) → X → List X → List X
put_in cmp x [] = x ∷ []
put_in cmp x (y ∷ ys) = if is_lt (cmp y x) then y ∷ put_in cmp x ys else x ∷ (y ∷ ys)

-- the elements of a list, in order
abbrev pub sorted_by : {X : Type 0} → (X → X → Ordering) → List X → List X
sorted_by cmp [] = []
sorted_by cmp (x ∷ xs) = put_in cmp x (sorted_by cmp xs)

-- versions by values, then by the first day, then by the moment from which one is recorded; and if
-- these are the same, by the end of the period, then by the moment to which it is recorded
abbrev pub plain_cmp : PlainVersion → PlainVersion → Ordering
plain_cmp a b =
    ordering_then (values_cmp a.values b.values)
    (ordering_then (int_cmp a.start b.start)
    (ordering_then (int_cmp a.from b.from)
    (ordering_then (int_cmp a.end b.end)
    (int_cmp a.to b.to))))

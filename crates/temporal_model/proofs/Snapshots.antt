-- Snapshots by their rows, and of lists that are joined or put in another order.
use Rattle.std.proofs.Common.{◌≡◌, ◌<ℤ◌, ◌≤ℤ◌, ℤ, Bool, true, false, List, [], ◌∷◌, ◌++◌, map, filter, refl, sym, ap, ◌∙◌, subst, inl, inr, arith}
use Rattle.std.specs.List.{Contains}
use Rattle.std.specs.List.Sorted.{IsPermutation}
use Rattle.std.proofs.lemmas.Int.{ints}
use Rattle.std.proofs.lemmas.List.{map-append}
use Rattle.std.proofs.lemmas.List.Elements.{Contains-append_left, Contains-append_cases, Contains-append_right, filter-append}
use Rattle.std.proofs.lemmas.List.Sorted.{Contains-permutation, IsPermutation-sym}
use Rattle.period_core.specs.declared.value.Value.{Value}
use Rattle.period_core.specs.declared.row.PeriodRow.{PeriodRow}
use Rattle.temporal_model.specs.Snapshot.{InSnapshot, Equivalent, covers_day, values_on}
use Rattle.temporal_model.proofs.Members.{Contains-here, Contains-there, Contains-nil, Contains-cons_cases}

-- ---- the members of a snapshot

-- the day lies in the row's period
abbrev pub CoversDay : PeriodRow → ℤ → Type 0
CoversDay row day = (row.period.start ≤ℤ day) × (day <ℤ row.period.end)

-- some row of the list holds the values on the day
abbrev pub HoldsOn : List PeriodRow → ℤ → List Value → Type 0
HoldsOn rows day values = (row : PeriodRow) × Contains rows row × (row.values ≡ values) × CoversDay row day

abbrev row_covers : ℤ → PeriodRow → Bool
row_covers day row = covers_day row.period.start row.period.end day

covers : (row : PeriodRow) (day : ℤ) → CoversDay row day → row_covers day row ≡ true
covers row day h = grind (arith, h)

covered : (row : PeriodRow) (day : ℤ) → row_covers day row ≡ true → CoversDay row day
covered row day h = grind (arith, h)

-- one more row at the front, which may hold on the day
values_on-there : (row : PeriodRow) (rows : List PeriodRow) (day : ℤ) (values : List Value) (b : Bool) → row_covers day row ≡ b
    → Contains (values_on rows day) values → Contains (values_on (row ∷ rows) day) values
values_on-there row rows day values true e h = rw e (Contains-there row.values (values_on rows day) values h)
values_on-there row rows day values false e h = rw e h

-- values of a row that holds on a day are in the day's snapshot
pub in_snapshot : (rows : List PeriodRow) (day : ℤ) (values : List Value) → HoldsOn rows day values → InSnapshot rows day values
in_snapshot [] day values (row, c, e, h) = absurd (Contains-nil row c)
in_snapshot (first ∷ rows) day values (row, c, e, h) =
    elim (Contains-cons_cases first rows row c) [
      | inl same ↦
          let here : row_covers day first ≡ true = covers first day (subst (λ r. CoversDay r day) (sym same) h) in
          let its : first.values ≡ values = ap (λ (r : PeriodRow). r.values) same ∙ e in
          rw (here, ← its) (Contains-here first.values (values_on rows day))
      | inr k ↦ values_on-there first rows day values (row_covers day first) refl (in_snapshot rows day values (row, k, e, h))
    ]

later : (first : PeriodRow) (rows : List PeriodRow) (day : ℤ) (values : List Value) → HoldsOn rows day values → HoldsOn (first ∷ rows) day values
later first rows day values (row, c, e, h) = (row, Contains-there first rows row c, e, h)

held_by : (first : PeriodRow) (rows : List PeriodRow) (day : ℤ) (values : List Value) (b : Bool) → row_covers day first ≡ b
    → (InSnapshot rows day values → HoldsOn rows day values) → InSnapshot (first ∷ rows) day values → HoldsOn (first ∷ rows) day values
held_by first rows day values true e rest h =
    elim (Contains-cons_cases first.values (values_on rows day) values (rw e at h)) [
      | inl same ↦ (first, Contains-here first rows, same, covered first day e)
      | inr k ↦ later first rows day values (rest k)
    ]
held_by first rows day values false e rest h = later first rows day values (rest (rw e at h))

-- a member of a snapshot is held by some row of the list
pub held : (rows : List PeriodRow) (day : ℤ) (values : List Value) → InSnapshot rows day values → HoldsOn rows day values
held [] day values h = absurd (Contains-nil values h)
held (first ∷ rows) day values h = held_by first rows day values (row_covers day first) refl (held rows day values) h

-- the values of two lists on a day are the first's and then the second's
pub values_on-append : (rows others : List PeriodRow) (day : ℤ) → values_on (rows ++ others) day ≡ values_on rows day ++ values_on others day
values_on-append rows others day =
    ap (map (λ (row : PeriodRow). row.values)) (filter-append (row_covers day) rows others)
    ∙ map-append (λ (row : PeriodRow). row.values) (filter (row_covers day) rows) (filter (row_covers day) others)

-- ---- equivalent lists

-- a row's values hold on its first day
pub InSnapshot-start :
    (rows : List PeriodRow) (row : PeriodRow) → Contains rows row
    → InSnapshot rows row.period.start row.values
InSnapshot-start rows row c =
    let first : row.period.start <ℤ row.period.end = row.period.ordered in
    in_snapshot rows row.period.start row.values (row, c, refl, (omega (arith, ints), first))

-- a list is equivalent to itself
pub Equivalent-refl : (xs : List PeriodRow) → Equivalent xs xs
Equivalent-refl xs day vs = (λ h. h, λ h. h)

-- equivalence is transitive
pub Equivalent-trans : (xs ys zs : List PeriodRow) → Equivalent xs ys → Equivalent ys zs → Equivalent xs zs
Equivalent-trans xs ys zs p q day vs = (λ h. (q day vs).0 ((p day vs).0 h), λ h. (p day vs).1 ((q day vs).1 h))

-- a list that another includes is included too with more rows after both
InSnapshot-append :
    (old new rest : List PeriodRow) (day : ℤ) (vs : List Value)
    → (InSnapshot old day vs → InSnapshot new day vs) → InSnapshot (old ++ rest) day vs
    → InSnapshot (new ++ rest) day vs
InSnapshot-append old new rest day vs to h =
    subst (λ (l : List (List Value)). Contains l vs) (sym (values_on-append new rest day))
    (elim (Contains-append_cases (values_on old day) (values_on rest day) vs (subst (λ (l : List (List Value)). Contains l vs) (values_on-append old rest day) h)) [
      | inl before ↦ Contains-append_left (values_on new day) (values_on rest day) vs (to before)
      | inr more ↦ Contains-append_right (values_on new day) (values_on rest day) vs more
    ])

-- equivalent lists stay so with the same rows after them
pub Equivalent-append :
    (xs ys rest : List PeriodRow) → Equivalent xs ys → Equivalent (xs ++ rest) (ys ++ rest)
Equivalent-append xs ys rest p day vs = (InSnapshot-append xs ys rest day vs (p day vs).0, InSnapshot-append ys xs rest day vs (p day vs).1)

-- lists with the same rows in another order are equivalent
pub Equivalent-permutation : (xs ys : List PeriodRow) → IsPermutation xs ys → Equivalent xs ys
Equivalent-permutation xs ys p day vs = (
  λ h. let (r, c, v, covers) = held xs day vs h in in_snapshot ys day vs (r, Contains-permutation xs ys r p c, v, covers),
  λ h. let (r, c, v, covers) = held ys day vs h in in_snapshot xs day vs (r, Contains-permutation ys xs r (IsPermutation-sym xs ys p) c, v, covers),
)

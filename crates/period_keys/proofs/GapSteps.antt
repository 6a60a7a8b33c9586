-- The first gap of a period, and of one period more.
use Rattle.std.proofs.Common.{◌≡◌, ◌⊎◌, ◌≤ℤ◌, ◌<ℤ◌, ℤ, List, Option, Some, None, inl, inr, sym, subst, arith}
use Rattle.std.specs.Prelude.{IfSome, MatchOption}
use Rattle.std.proofs.lemmas.Int.{ints, by_lt_z}
use Rattle.period_core.specs.declared.period.Period.{Period}
use Rattle.period_keys.specs.Keys.{IsLeastOf, IsWithin}
use Rattle.period_keys.specs.Gaps.{IsGap, IsHeld}

-- the days of the child before this one are held
abbrev pub IsHeldTo : List Period → Period → ℤ → Type 0
IsHeldTo periods child day = (d : ℤ) → child.start ≤ℤ d → d <ℤ day → IsHeld periods d

-- a gap of a child that is held up to a day is no earlier than the day
gap_from : (periods : List Period) (child : Period) (day other : ℤ) → IsHeldTo periods child day → IsGap periods child other → day ≤ℤ other
gap_from periods child day other held (within, alone) = by_lt_z {P = day ≤ℤ other} other day (λ less. absurd (alone (held other within.0 less))) (λ ge. ge)

-- the first day that is not held, if the child holds it, is its first gap
pub gap_at : (periods : List Period) (child : Period) (day : ℤ) → IsHeldTo periods child day → child.start ≤ℤ day → day <ℤ child.end → (IsHeld periods day → ⊥) → IsLeastOf (IsGap periods child) (Some day)
gap_at periods child day held from before alone = record {
  faulty = ((from, before), alone);
  least = λ other gap. gap_from periods child day other held gap;
}

pub no_gap : (periods : List Period) (child : Period) (day : ℤ) → IsHeldTo periods child day → child.end ≤ℤ day → IsLeastOf (IsGap periods child) None
no_gap periods child day held past = λ other gap. (let from : day ≤ℤ other = gap_from periods child day other held gap in let to : other <ℤ child.end = gap.0.1 in omega (arith, ints))

-- the day found before is no earlier than the day up to which one looks
no_earlier : (Old : ℤ → Type 0) (found : Option ℤ) (until other : ℤ) → IsLeastOf Old found → IfSome found (λ day. until ≤ℤ day) → Old other → until ≤ℤ other
no_earlier Old None until other least upto old = absurd (least other old)
no_earlier Old (Some day) until other least upto old = let le : day ≤ℤ other = least.least other old in omega (arith, ints)

-- an earlier gap of one child more
pub earlier_gap : (Old : ℤ → Type 0) (periods : List Period) (child : Period) (found : Option ℤ) (day until : ℤ) → IsLeastOf Old found → IsHeldTo periods child day → child.start ≤ℤ day → day <ℤ until
    → (IsHeld periods day → ⊥) → until ≤ℤ child.end → IfSome found (λ other. until ≤ℤ other) → IsLeastOf (λ other. Old other ⊎ IsGap periods child other) (Some day)
earlier_gap Old periods child found day until least held from before alone inside upto = record {
  faulty = inr ((from, omega (arith, ints)), alone);
  least = λ other h. elim h [
    | inl old ↦ (let le : until ≤ℤ other = no_earlier Old found until other least upto old in omega (arith, ints))
    | inr gap ↦ gap_from periods child day other held gap
  ];
}

-- one more child has no gap before the least day of the old ones
pub no_earlier_gap : (Old : ℤ → Type 0) (periods : List Period) (child : Period) (found : Option ℤ) (day until : ℤ) → IsLeastOf Old found → IsHeldTo periods child day → until ≤ℤ day
    → (until ≡ child.end) ⊎ (found ≡ Some until) → IsLeastOf (λ other. Old other ⊎ IsGap periods child other) found
no_earlier_gap Old periods child None day until least held past one = λ other h. elim h [
  | inl old ↦ least other old
  | inr gap ↦ elim one [
    | inl end_is ↦ (let from : day ≤ℤ other = gap_from periods child day other held gap in let to : other <ℤ child.end = gap.0.1 in omega (arith, ints))
    | inr wrong ↦ cc
  ]
]
no_earlier_gap Old periods child (Some found) day until least held past one = record {
  faulty = inl least.faulty;
  least = λ other h. elim h [
    | inl old ↦ least.least other old
    | inr gap ↦
        let from : day ≤ℤ other = gap_from periods child day other held gap in
        let to : other <ℤ child.end = gap.0.1 in
        elim one [ inl end_is ↦ omega (arith, ints) | inr found_is ↦ (let same : found ≡ until = cc in omega (arith, ints)) ]
  ];
}

-- the first gap of a child, as the loop finds it
pub first_of : (periods : List Period) (child : Period) (day : ℤ) (found : Option ℤ) → IsHeldTo periods child day → child.start ≤ℤ day → (day <ℤ child.end → IsHeld periods day → ⊥)
    → (day <ℤ child.end → found ≡ Some day) → (child.end ≤ℤ day → found ≡ None) → IsLeastOf (IsGap periods child) found
first_of periods child day found held from alone there none =
    by_lt_z {P = IsLeastOf (IsGap periods child) found} day child.end (λ less. subst (IsLeastOf (IsGap periods child)) (sym (there less)) (gap_at periods child day held from less (alone less)))
    (λ past. subst (IsLeastOf (IsGap periods child)) (sym (none past)) (no_gap periods child day held past))

-- the least day of the old ones and of the gaps of one more child
pub first_of_more : (Old : ℤ → Type 0) (periods : List Period) (child : Period) (found new : Option ℤ) (day until : ℤ) → IsLeastOf Old found → IsHeldTo periods child day → child.start ≤ℤ day
    → (day <ℤ until → IsHeld periods day → ⊥) → until ≤ℤ child.end → IfSome found (λ other. until ≤ℤ other) → (until ≡ child.end) ⊎ (found ≡ Some until)
    → (day <ℤ until → new ≡ Some day) → (until ≤ℤ day → new ≡ found) → IsLeastOf (λ other. Old other ⊎ IsGap periods child other) new
first_of_more Old periods child found new day until least held from alone inside upto one there before =
    let Both : ℤ → Type 0 = λ other. Old other ⊎ IsGap periods child other in
    by_lt_z {P = IsLeastOf Both new} day until (λ less. subst (IsLeastOf Both) (sym (there less)) (earlier_gap Old periods child found day until least held from less (alone less) inside upto))
    (λ past. subst (IsLeastOf Both) (sym (before past)) (no_earlier_gap Old periods child found day until least held past one))

-- days of a period that is known to be held
pub held_past : (periods : List Period) (held : Option Period) (start from : ℤ) → IfSome held (λ (period : Period). (d : ℤ) → IsWithin period d → IsHeld periods d)
    → ((d : ℤ) → start ≤ℤ d → d <ℤ from → MatchOption held ⊥ (λ period. IsWithin period d)) → (d : ℤ) → start ≤ℤ d → d <ℤ from → IsHeld periods d
held_past periods None start from known inside d low high = absurd (inside d low high)
held_past periods (Some period) start from known inside d low high = known d (inside d low high)

-- a period that has been held since a day is known
pub known_since : (periods : List Period) (held : Option Period) (start day : ℤ) → IfSome held (λ (period : Period). period.start ≡ start) → IfSome held (λ (period : Period). period.end ≡ day)
    → ((d : ℤ) → start ≤ℤ d → d <ℤ day → IsHeld periods d) → IfSome held (λ (period : Period). (d : ℤ) → IsWithin period d → IsHeld periods d)
known_since periods None start day start_is end_is to = tt
known_since periods (Some period) start day start_is end_is to = λ d within. to d (subst (λ s. s ≤ℤ d) start_is within.0) (subst (λ e. d <ℤ e) end_is within.1)

-- Rows at some places: the rest are not touched by a change.
use Rattle.std.proofs.Common.{◌≡◌, ◌⊎◌, ◌≤◌, ◌<◌, ◌+◌, ◌-◌, ◌++◌, ◌∷◌, [], ◌∙◌, ℕ, zero, suc, Bool, true, false, cond, List, append-nil, length, length-append, get_or, set, take, drop, refl, sym, ap, subst, inl, inr, arith}
use Rattle.std.specs.List.{Contains, filter, swap_remove}
use Rattle.std.specs.List.Sorted.{IsSorted}
use Rattle.std.specs.Ordering.{is_lt, nat_cmp}
use Rattle.std.proofs.lemmas.Bool.{cases_Bool, cases_eq, cases_lt}
use Rattle.std.proofs.lemmas.List.{drop_more, get_or_default, get_or-append_right, get_or-set_other, get_or-set_same, get_or-take, length-set, length-take-le, take_all, take_more}
use Rattle.std.proofs.lemmas.List.Elements.{filter-append}
use Rattle.std.proofs.lemmas.Cmp.{nat_cmp_total}
use Rattle.std.proofs.lemmas.List.Sorted.{ranks_by, sorted_far}
use Rattle.std.proofs.lemmas.Map.Keys.{ge_from_not_lt}
use Rattle.catalog_core.specs.declared.change.Action.{Action}
use Rattle.catalog_core.specs.declared.change.Plan.{Plan}
use Rattle.portion_dml.specs.Plans.{Plans}
use Rattle.period_keys.proofs.PlanParts.{touched}
use Rattle.period_core.specs.declared.period.Period.{Period}
use Rattle.period_core.specs.declared.version.VersionRow.{VersionRow}
use Rattle.period_keys.specs.declared.period_blocks.PeriodBlocks.{PeriodBlocks}
use Rattle.period_keys.specs.declared.placed_period.PlacedPeriod.{PlacedPeriod}
use Rattle.period_keys.specs.Near.{IsAt}
use Rattle.period_keys.specs.Placed.{ArePlaced, HasPlaced}

some : {X : Type 0} (xs : List X) → 0 < length xs → X
some [] more = absurd (omega (arith, more))
some (x ∷ xs) more = x

-- elements from a place on that fail the test are dropped
kept_to : {X : Type 0} (test : X → Bool) (xs : List X) (n m : ℕ) → n + m ≤ length xs → ((j : ℕ) (d : X) → n ≤ j → j < n + m → test (get_or xs j d) ≡ false) → filter test (take (n + m) xs) ≡ filter test (take n xs)
kept_to test xs n zero within fails = ap (λ k. filter test (take k xs)) (let e : n + 0 ≡ n = omega arith in e)
kept_to {X} test xs n (suc m) within fails =
    let more : n + suc m ≡ (n + m) + 1 = omega arith in
    let d : X = some xs (omega arith) in
    let x : X = get_or xs (n + m) d in
    ap (λ k. filter test (take k xs)) more ∙ ap (filter test) (take_more xs (n + m) d (omega arith)) ∙ filter-append test (take (n + m) xs) (x ∷ [])
    ∙ ap (λ (one : List X). filter test (take (n + m) xs) ++ one) (ap (λ b. cond b (x ∷ []) []) (fails (n + m) d (omega arith) (omega arith)))
    ∙ append-nil (filter test (take (n + m) xs)) ∙ kept_to test xs n m (omega arith) (λ j e from below. fails j e from (omega arith))

-- the elements that pass up to a place are all up to a later one, if none between passes
pub kept_up_to : {X : Type 0} (test : X → Bool) (xs : List X) (n p : ℕ) → n ≤ p → p ≤ length xs → ((j : ℕ) (d : X) → n ≤ j → j < p → test (get_or xs j d) ≡ false) → filter test (take p xs) ≡ filter test (take n xs)
kept_up_to test xs n p upto within fails =
    let is : n + (p - n) ≡ p = omega arith in
    ap (λ k. filter test (take k xs)) (sym is) ∙ kept_to test xs n (p - n) (omega arith) (λ j d from below. fails j d from (omega arith))

-- sorted places rise from one to a later one
sorted_upto : (places : List ℕ) (i k : ℕ) (d : ℕ) → IsSorted nat_cmp places → i ≤ k → k < length places → get_or places i d ≤ get_or places k d
sorted_upto places i k d up upto below = ge_from_not_lt (get_or places k d) (get_or places i d) (sorted_far (λ x y. is_lt (nat_cmp x y)) (ranks_by nat_cmp_total (λ (n : ℕ). n)) places up i k d upto below)

-- the first places are passed, or are of no row
abbrev pub ArePassed : List VersionRow → List ℕ → ℕ → ℕ → Type 0
ArePassed rows places i next = (k : ℕ) (d : ℕ) → k < i → (get_or places k d < next) ⊎ (length rows ≤ get_or places k d)

-- each touched row is at one of the places
abbrev pub AreAllAt : Action → List VersionRow → List ℕ → Type 0
AreAllAt action rows places = (place : ℕ) (d : VersionRow) → place < length rows → touched action (get_or rows place d) ≡ true → (Contains places place → ⊥) → ⊥

-- a row between those that are passed and the place in hand is not touched
quiet : (action : Action) (rows : List VersionRow) (places : List ℕ) (i next j : ℕ) (d : VersionRow) → AreAllAt action rows places → ArePassed rows places i next → next ≤ j → j < length rows
    → ((k : ℕ) → i ≤ k → k < length places → get_or places k j ≡ j → ⊥) → touched action (get_or rows j d) ≡ false
quiet action rows places i next j d all passed from inside later =
    elim (cases_Bool (touched action (get_or rows j d))) [
      | inl t ↦ absurd (all j d inside t (λ (k, below, is).
          elim (cases_lt k i) [
            | inl less ↦ elim (passed k j less) [ inl before ↦ (let e : get_or places k j ≡ j = is in omega arith) | inr past ↦ (let e : get_or places k j ≡ j = is in omega arith) ]
            | inr ge ↦ later k ge below is
          ]))
      | inr f ↦ f
    ]

pub quiet_to : (action : Action) (rows : List VersionRow) (places : List ℕ) (i next : ℕ) → IsSorted nat_cmp places → AreAllAt action rows places → ArePassed rows places i next → i < length places
    → next ≤ get_or places i 0 → get_or places i 0 < length rows → filter (touched action) (take (get_or places i 0) rows) ≡ filter (touched action) (take next rows)
quiet_to action rows places i next up all passed below from inside =
    kept_up_to (touched action) rows next (get_or places i 0) from (omega arith) (λ j d low high. quiet action rows places i next j d all passed low (omega arith) (λ k ge k_below is.
    let upto : get_or places i j ≤ get_or places k j = sorted_upto places i k j up ge k_below in
    let here : get_or places i j ≡ get_or places i 0 = get_or_default places i j 0 below in
    let e : get_or places k j ≡ j = is in
    omega arith))

pub quiet_after : (action : Action) (rows : List VersionRow) (places : List ℕ) (i next : ℕ) → AreAllAt action rows places → ArePassed rows places i next → length places ≤ i → next ≤ length rows
    → filter (touched action) rows ≡ filter (touched action) (take next rows)
quiet_after action rows places i next all passed past bound =
    ap (filter (touched action)) (sym (take_all (length rows) rows (omega arith)))
    ∙ kept_up_to (touched action) rows next (length rows) bound (omega arith) (λ j d low high. quiet action rows places i next j d all passed low high (λ k ge below is. omega arith))

-- a walk over sorted places has passed one more
pub passed_more : (rows : List VersionRow) (places : List ℕ) (i next new : ℕ) → i < length places → ArePassed rows places i next → next ≤ new → (get_or places i 0 < new) ⊎ (length rows ≤ get_or places i 0) → ArePassed rows places (i + 1) new
passed_more rows places i next new below passed upto one = λ k d lt.
    elim (cases_lt k i) [
      | inl less ↦ elim (passed k d less) [ inl before ↦ inl (omega arith) | inr past ↦ inr past ]
      | inr ge ↦
          let here : k ≡ i = omega arith in
          let at : get_or places k d ≡ get_or places i 0 = ap (λ n. get_or places n d) here ∙ get_or_default places i d 0 below in
          elim one [ inl before ↦ inl (omega arith) | inr past ↦ inr (omega arith) ]
    ]

-- rows that are not touched make no difference to a plan
pub plan_beside : (action : Action) (xs ys : List VersionRow) (plan : Plan) → filter (touched action) ys ≡ filter (touched action) xs → Plans action xs plan → Plans action ys plan
plan_beside action xs ys plan same plans = record { ended = plans.ended ∙ sym same; added = plans.added }

-- the rows from a place on and before the next
pub one_row : (rows : List VersionRow) (at : ℕ) (d : VersionRow) → at < length rows → take (at + 1 - at) (drop at rows) ≡ get_or rows at d ∷ []
one_row rows at d below =
    let one : at + 1 - at ≡ 1 = omega arith in
    let row : VersionRow = get_or rows at d in
    ap (λ n. take n (drop at rows)) one ∙ ap (take 1) (drop_more rows at row below ∙ ap (λ (x : VersionRow). x ∷ drop (at + 1) rows) (get_or_default rows at row d below))

abbrev pub placed_as : Period → ℕ → PlacedPeriod
placed_as period place = record { period = period; place = place }

-- the element at a place after the last one was moved there
swapped_in : {X : Type 0} (xs : List X) (i last : ℕ) (x d : X) → i < length xs → last + 1 ≡ length xs → i < last → get_or (swap_remove xs i x) i d ≡ get_or xs last d
swapped_in xs i last x d inside is below =
    let end : length xs - 1 ≡ last = omega arith in
    get_or-take (length xs - 1) (set xs i (get_or xs (length xs - 1) x)) i d (omega arith) ∙ get_or-set_same xs i (get_or xs (length xs - 1) x) d inside
    ∙ ap (λ n. get_or xs n x) end ∙ get_or_default xs last x d (omega arith)

swapped_other : {X : Type 0} (xs : List X) (i k : ℕ) (x d : X) → i < length xs → (k ≡ i → ⊥) → k + 1 < length xs → get_or (swap_remove xs i x) k d ≡ get_or xs k d
swapped_other xs i k x d inside apart below =
    get_or-take (length xs - 1) (set xs i (get_or xs (length xs - 1) x)) k d (omega arith) ∙ get_or-set_other xs i k (get_or xs (length xs - 1) x) d apart

length-swap_remove : {X : Type 0} (xs : List X) (i : ℕ) (x : X) → i < length xs → length (swap_remove xs i x) + 1 ≡ length xs
length-swap_remove xs i x inside =
    let size : length (set xs i (get_or xs (length xs - 1) x)) ≡ length xs = length-set xs i (get_or xs (length xs - 1) x) in
    let short : length (swap_remove xs i x) ≡ length xs - 1 = length-take-le (length xs - 1) (set xs i (get_or xs (length xs - 1) x)) (omega arith) in
    omega arith

front : {X : Type 0} (xs ys : List X) (k : ℕ) (d : X) → k < length xs → get_or (xs ++ ys) k d ≡ get_or xs k d
front [] ys k d below = absurd (omega (arith, below))
front (x ∷ xs) ys zero d below = refl
front (x ∷ xs) ys (suc k) d below = front xs ys k d (omega (arith, below))

-- one row more at the end
pub placed_next : (rows before : List VersionRow) (row : VersionRow) (old new : PeriodBlocks) → rows ≡ before ++ row ∷ [] → ArePlaced before old → ((x : PlacedPeriod) → HasPlaced old x → HasPlaced new x)
    → HasPlaced new (record { period = row.period; place = length before }) → ArePlaced rows new
placed_next rows before row old new is placed kept there =
    subst (λ (xs : List VersionRow). ArePlaced xs new) (sym is) (λ k d below none.
    let size : length (before ++ row ∷ []) ≡ length before + 1 = simp length-append (omega arith) in
    elim (cases_lt k (length before)) [
      | inl less ↦ placed k d less (λ has. none (subst (λ (v : VersionRow). HasPlaced new (placed_as v.period k)) (sym (front before (row ∷ []) k d less)) (kept (placed_as (get_or before k d).period k) has)))
      | inr ge ↦
          let here : k ≡ length before = omega arith in
          let at : get_or (before ++ row ∷ []) k d ≡ row = get_or-append_right before (row ∷ []) (length before) k d refl ge ∙ ap (λ n. get_or (row ∷ []) n d) (let e : k - length before ≡ 0 = omega arith in e) in
          none (subst (λ (v : VersionRow). HasPlaced new (placed_as v.period k)) (sym at) (subst (λ n. HasPlaced new (placed_as row.period n)) (sym here) there))
    ])

-- one row less, with the last in its place
pub placed_less : (before : List VersionRow) (x : VersionRow) (gone last : PlacedPeriod) (old less new : PeriodBlocks) → IsAt before gone → IsAt before last → last.place + 1 ≡ length before
    → ArePlaced before old → ((other : PlacedPeriod) → HasPlaced old other → (other ≡ gone) ⊎ HasPlaced less other) → ((other : PlacedPeriod) → HasPlaced less other → (other ≡ last) ⊎ HasPlaced new other)
    → ((gone.place ≡ last.place → ⊥) → HasPlaced new (placed_as last.period gone.place)) → ArePlaced (swap_remove before gone.place x) new
placed_less before x gone last old less new at_gone at_last is_last placed taken moved put = λ k d below none.
    let size : length (swap_remove before gone.place x) + 1 ≡ length before = length-swap_remove before gone.place x at_gone.0 in
    let inside : k + 1 < length before = omega arith in
    let by_place : (one other : PlacedPeriod) → one ≡ other → one.place ≡ other.place = λ one other e. ap (λ (p : PlacedPeriod). p.place) e in
    elim (cases_eq k gone.place) [
      | inl here ↦
          let at : get_or (swap_remove before gone.place x) k d ≡ get_or before last.place d = ap (λ n. get_or (swap_remove before gone.place x) n d) here ∙ swapped_in before gone.place last.place x d at_gone.0 is_last (omega arith) in
          none (subst (λ (p : Period). HasPlaced new (placed_as p k)) (sym (ap (λ (v : VersionRow). v.period) at ∙ at_last.1 d)) (subst (λ n. HasPlaced new (placed_as last.period n)) (sym here) (put (λ e. omega arith))))
      | inr apart ↦
          let at : get_or (swap_remove before gone.place x) k d ≡ get_or before k d = swapped_other before gone.place k x d at_gone.0 apart inside in
          let own : PlacedPeriod = placed_as (get_or before k d).period k in
          placed k d (omega arith) (λ has.
          none (subst (λ (v : VersionRow). HasPlaced new (placed_as v.period k)) (sym at)
          (elim (taken own has) [
            | inl e ↦ absurd (apart (by_place own gone e))
            | inr has_less ↦ elim (moved own has_less) [ inl e ↦ absurd (let same : k ≡ last.place = by_place own last e in omega arith) | inr has_new ↦ has_new ]
          ])))
    ]

-- the last row, with its place
pub placed_last : (rows before : List VersionRow) (row : VersionRow) (item : PlacedPeriod) → rows ≡ before ++ row ∷ [] → item.place ≡ length before → IsAt rows item → item ≡ placed_as row.period (length before)
placed_last rows before row item is place at =
    let here : get_or rows item.place row ≡ row = ap (λ (xs : List VersionRow). get_or xs item.place row) is ∙ get_or-append_right before (row ∷ []) (length before) item.place row refl (omega arith)
    ∙ ap (λ n. get_or (row ∷ []) n row) (let e : item.place - length before ≡ 0 = omega arith in e) in
    ap (λ (p : Period). placed_as p item.place) (sym (at.1 row) ∙ ap (λ (v : VersionRow). v.period) here) ∙ ap (placed_as row.period) place

-- some row of a list that has a row at the place
pub row_of_some : (rows : List VersionRow) (at : ℕ) → at < length rows → VersionRow
row_of_some rows at below = some rows (omega arith)

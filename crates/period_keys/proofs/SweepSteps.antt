-- One turn of the sweep over rows of keys in order, and what the sort before it keeps.
use Rattle.std.proofs.Common.{◌≡◌, ◌↔◌, ◌⊎◌, ◌+◌, ◌-◌, ◌<◌, ◌≤◌, ◌<ℤ◌, ◌≤ℤ◌, ℕ, ℤ, List, Option, Some, None, true, false, length, map, get_or, refl, sym, ◌∙◌, ap, subst, inl, inr, arith}
use Rattle.std.specs.declared.cmp.Ordering.TheVariants.{Less, Equal, Greater}
use Rattle.std.specs.List.{AllPairs}
use Rattle.std.specs.List.Sorted.{IsPermutation}
use Rattle.std.specs.Ordering.{int_cmp, is_lt, ordering_then, ordering_reverse}
use Rattle.std.proofs.lemmas.Int.{ints}
use Rattle.std.proofs.lemmas.Bool.{cases_lt}
use Rattle.std.proofs.lemmas.List.{get_or_default, get_or-map, length-map}
use Rattle.std.proofs.lemmas.List.Sorted.{IsPermutation-sym}
use Rattle.period_core.specs.Order.{values_cmp}
use Rattle.period_core.specs.OrderLaws.{values_cmp_total, values_cmp-same}
use Rattle.period_core.specs.declared.row.PeriodRow.{PeriodRow}
use Rattle.temporal_model.specs.Answer.{answer_cmp}
use Rattle.coalesce_core.specs.Coalesced.{NotAfter}
use Rattle.coalesce_core.proofs.Order.{NotAfter-start}
use Rattle.period_keys.specs.Keys.{IsKeyClash, IsLeastOf}
use Rattle.period_keys.specs.Index.{earlier}
use Rattle.period_keys.specs.Repeats.{EndsByThen, EndsLater, HoldSame, IsReachedOn, Repeats, RepeatsBelow, key_row}
use Rattle.period_keys.proofs.Leasts.{IsLeastOf-either, IsLeastOf-same}
use Rattle.period_keys.proofs.Pairs.{SomePair-permutation}

-- a row between two of the same values has those values
between : (a b c : PeriodRow) → NotAfter a b → NotAfter b c → a.values ≡ c.values → a.values ≡ b.values
between a b c p q v =
    elim (values_cmp a.values b.values) as (λ o. values_cmp a.values b.values ≡ o → a.values ≡ b.values) [
      | Less ↦ λ e. absurd (let less : values_cmp c.values b.values ≡ Less = subst (λ vs. values_cmp vs b.values ≡ Less) v e in
          let first : is_lt (answer_cmp c b) ≡ true = ap (λ o. is_lt (ordering_then o (int_cmp c.period.start b.period.start))) less in
          let other : is_lt (answer_cmp c b) ≡ false = q in cc)
      | Equal ↦ λ e. values_cmp-same a.values b.values e
      | Greater ↦ λ e. absurd (let less : values_cmp b.values a.values ≡ Less = values_cmp_total.antisymm b.values a.values ∙ ap ordering_reverse e in
          let first : is_lt (answer_cmp b a) ≡ true = ap (λ o. is_lt (ordering_then o (int_cmp b.period.start a.period.start))) less in
          let other : is_lt (answer_cmp b a) ≡ false = p in cc)
    ] refl

-- the next entry and an earlier one hold the same values on the day
abbrev pub NewPair : List PeriodRow → ℕ → ℤ → Type 0
NewPair rows n day = (i : ℕ) × (i < n) × ((d : PeriodRow) → HoldSame day (get_or rows i d) (get_or rows n d))

below_more : (rows : List PeriodRow) (n : ℕ) (day : ℤ) → ((RepeatsBelow rows n day ⊎ NewPair rows n day) ↔ RepeatsBelow rows (n + 1) day)
below_more rows n day = (
  λ h. elim h [
    | inl (i, j, lt, below, both) ↦ (i, j, lt, omega arith, both)
    | inr (i, lt, both) ↦ (i, n, lt, omega arith, both)
  ],
  λ (i, j, lt, below, both). elim (cases_lt j n) [
    | inl less ↦ inl (i, j, lt, less, both)
    | inr ge ↦ let here : j ≡ n = omega arith in inr (i, omega arith, subst (λ m. (d : PeriodRow) → HoldSame day (get_or rows i d) (get_or rows m d)) here both)
  ],
)

-- an earlier entry with the values of the next one has the values of the entry that ends latest
same_run : (rows : List PeriodRow) (n latest i : ℕ) (d : PeriodRow) → AllPairs NotAfter rows → n < length rows → (get_or rows latest d).values ≡ (get_or rows (n - 1) d).values → i < n → (get_or rows i d).values ≡ (get_or rows n d).values → (get_or rows i d).values ≡ (get_or rows latest d).values
same_run rows n latest i d order below last lt same =
    elim (cases_lt i (n - 1)) [
      | inl less ↦ between (get_or rows i d) (get_or rows (n - 1) d) (get_or rows n d) (order i (n - 1) d less (omega arith)) (order (n - 1) n d (omega arith) below) same ∙ sym last
      | inr ge ↦ let here : i ≡ n - 1 = omega arith in ap (λ m. (get_or rows m d).values) here ∙ sym last
    ]

-- the least day of the next entry and an earlier one: its first, if the one that ends latest still holds then
new_least :
    (rows : List PeriodRow) (n latest : ℕ) (d : PeriodRow) (found : Option ℤ) → AllPairs NotAfter rows → n < length rows → latest < n
    → ((e : PeriodRow) → (get_or rows latest e ≡ get_or rows latest d) × (get_or rows n e ≡ get_or rows n d))
    → (get_or rows latest d).values ≡ (get_or rows (n - 1) d).values
    → ((k : ℕ) → k < n → (get_or rows k d).values ≡ (get_or rows latest d).values → (get_or rows k d).period.end ≤ℤ (get_or rows latest d).period.end)
    → IsReachedOn (get_or rows latest d) (get_or rows n d) found → IsLeastOf (NewPair rows n) found
new_least rows n latest d None order below place one last reach apart =
    λ day (i, lt, both).
    let pair = both d in
    let run : (get_or rows i d).values ≡ (get_or rows latest d).values = same_run rows n latest i d order below last lt pair.0 in
    let end : (get_or rows i d).period.end ≤ℤ (get_or rows latest d).period.end = reach i lt run in
    let to : day <ℤ (get_or rows i d).period.end = pair.1.0.1 in
    let from : (get_or rows n d).period.start ≤ℤ day = pair.1.1.0 in
    apart (sym run ∙ pair.0, omega (arith, ints))
new_least rows n latest d (Some day) order below place one last reach (reaches, is) =
    let first : PeriodRow = get_or rows latest d in
    let row : PeriodRow = get_or rows n d in
    let begins : first.period.start ≤ℤ row.period.start = NotAfter-start first row reaches.0 (order latest n d place below) in
    let mine : row.period.start <ℤ row.period.end = row.period.ordered in
    let ends : row.period.start <ℤ first.period.end = reaches.1 in
    let pair : HoldSame row.period.start first row = (reaches.0, ((begins, ends), (omega (arith, ints), mine))) in
    let there : NewPair rows n row.period.start =
    (latest, place, λ e. subst (λ x. HoldSame row.period.start x (get_or rows n e)) (sym (one e).0) (subst (HoldSame row.period.start first) (sym (one e).1) pair)) in
    record {
      faulty = subst (NewPair rows n) (sym is) there;
      least = λ other (i, lt, both). let from : row.period.start ≤ℤ other = (both d).1.1.0 in omega (arith, ints, is);
    }

-- the days found after the next entry
pub turn :
    (rows : List PeriodRow) (n latest : ℕ) (found more new : Option ℤ) (first row : PeriodRow) → AllPairs NotAfter rows → n < length rows → latest < n
    → first ≡ get_or rows latest first → row ≡ get_or rows n row
    → ((d : PeriodRow) → (get_or rows latest d).values ≡ (get_or rows (n - 1) d).values)
    → ((k : ℕ) (d : PeriodRow) → k < n → (get_or rows k d).values ≡ (get_or rows latest d).values → (get_or rows k d).period.end ≤ℤ (get_or rows latest d).period.end)
    → IsReachedOn first row more → new ≡ earlier found more
    → IsLeastOf (RepeatsBelow rows n) found → IsLeastOf (RepeatsBelow rows (n + 1)) new
turn rows n latest found more new first row order below place is_first is_row last reach reached new_is so_far =
    let early : latest < length rows = omega arith in
    let one : first ≡ get_or rows latest row = is_first ∙ get_or_default rows latest first row early in
    let now : IsReachedOn (get_or rows latest row) (get_or rows n row) more =
    subst (λ x. IsReachedOn x (get_or rows n row) more) one (subst (λ x. IsReachedOn first x more) is_row reached) in
    let newest : IsLeastOf (NewPair rows n) more =
    new_least rows n latest row more order below place (λ e. (get_or_default rows latest e row early, get_or_default rows n e row below)) (last row) (λ k. reach k row) now in
    IsLeastOf-same (λ day. RepeatsBelow rows n day ⊎ NewPair rows n day) (RepeatsBelow rows (n + 1)) (below_more rows n) new
    (subst (IsLeastOf (λ day. RepeatsBelow rows n day ⊎ NewPair rows n day)) (sym new_is)
    (IsLeastOf-either (RepeatsBelow rows n) (NewPair rows n) found more so_far newest))

-- a sweep that has passed all entries has found the least repeat
pub found_all : (rows : List PeriodRow) (n : ℕ) (found : Option ℤ) → length rows ≤ n → (1 < n → n ≤ length rows) → IsLeastOf (RepeatsBelow rows n) found → IsLeastOf (Repeats rows) found
found_all rows n found all bound so_far =
    IsLeastOf-same (RepeatsBelow rows n) (Repeats rows)
    (λ day. (
      λ (i, j, lt, below, both). (i, j, lt, omega (arith, bound (omega arith)), both),
      λ (i, j, lt, below, both). (i, j, lt, omega arith, both),
    )) found so_far

-- the place of the one that ends latest after the next entry
pub next_latest :
    (rows : List PeriodRow) (n latest result : ℕ) → AllPairs NotAfter rows → n < length rows → latest < n
    → ((d : PeriodRow) → (get_or rows latest d).values ≡ (get_or rows (n - 1) d).values)
    → ((k : ℕ) (d : PeriodRow) → k < n → (get_or rows k d).values ≡ (get_or rows latest d).values → (get_or rows k d).period.end ≤ℤ (get_or rows latest d).period.end)
    → (((result ≡ latest) × EndsLater rows n latest) ⊎ ((result ≡ n) × EndsByThen rows latest n))
    → (result < n + 1) × ((d : PeriodRow) → (get_or rows result d).values ≡ (get_or rows (n + 1 - 1) d).values)
    × ((k : ℕ) (d : PeriodRow) → k < n + 1 → (get_or rows k d).values ≡ (get_or rows result d).values → (get_or rows k d).period.end ≤ℤ (get_or rows result d).period.end)
next_latest rows n latest result order below place last reach picked =
    let P : ℕ → Type 0 = λ r. (r < n + 1) × ((d : PeriodRow) → (get_or rows r d).values ≡ (get_or rows (n + 1 - 1) d).values) × ((k : ℕ) (d : PeriodRow) → k < n + 1 → (get_or rows k d).values ≡ (get_or rows r d).values → (get_or rows k d).period.end ≤ℤ (get_or rows r d).period.end) in
    let back : n ≡ n + 1 - 1 = omega arith in
    elim picked [
      | inl keeps ↦ subst P (sym keeps.0) (
        omega arith,
        λ d. sym (keeps.1 d).0 ∙ ap (λ m. (get_or rows m d).values) back,
        λ k d lt same. elim (cases_lt k n) [
          | inl less ↦ reach k d less same
          | inr ge ↦ let here : n ≡ k = omega arith in subst (λ m. (get_or rows m d).period.end ≤ℤ (get_or rows latest d).period.end) here (keeps.1 d).1
        ],
      )
      | inr moves ↦ subst P (sym moves.0) (
        omega arith,
        λ d. ap (λ m. (get_or rows m d).values) back,
        λ k d lt same. elim (cases_lt k n) [
          | inl less ↦ let run : (get_or rows k d).values ≡ (get_or rows latest d).values = same_run rows n latest k d order below (last d) less same in
              let one : (get_or rows k d).period.end ≤ℤ (get_or rows latest d).period.end = reach k d less run in
              let two : (get_or rows latest d).period.end ≤ℤ (get_or rows n d).period.end = moves.1 d (sym run ∙ same) in
              omega (arith, ints)
          | inr ge ↦ let here : n ≡ k = omega arith in let itself : (get_or rows n d).period.end ≤ℤ (get_or rows n d).period.end = omega (arith, ints) in subst (λ m. (get_or rows m d).period.end ≤ℤ (get_or rows n d).period.end) here itself
        ],
      )
    ]

HoldSame-sym : (day : ℤ) (a b : PeriodRow) → HoldSame day a b → HoldSame day b a
HoldSame-sym day a b h = (sym h.0, (h.1.1, h.1.0))

-- a repeat among rows does not depend on their order
pub repeats_moved : (rows others : List PeriodRow) → IsPermutation rows others → (day : ℤ) → (Repeats others day ↔ Repeats rows day)
repeats_moved rows others moved day = (
  SomePair-permutation (HoldSame day) (HoldSame-sym day) others rows (IsPermutation-sym rows others moved),
  SomePair-permutation (HoldSame day) (HoldSame-sym day) rows others moved,
)

-- two entries share a key if two rows of keys hold the same values
pub keys_repeat : (positions : List ℕ) (rows : List PeriodRow) (day : ℤ) → (Repeats (map (key_row positions) rows) day ↔ IsKeyClash positions rows day)
keys_repeat positions rows day =
    let f = key_row positions in
    let size : length (map f rows) ≡ length rows = length-map rows f in (
      λ (i, j, lt, below, both). (i, j, lt, omega arith, λ d. subst (λ x. HoldSame day x (f (get_or rows j d))) (get_or-map f rows i d d (omega arith)) (subst (HoldSame day (get_or (map f rows) i d)) (get_or-map f rows j d d (omega arith)) (both d))),
      λ (i, j, lt, below, both).
          (i, j, lt, omega arith, λ d. subst (λ x. HoldSame day x (get_or (map f rows) j d)) (sym (get_or-map f rows i d d (omega arith))) (subst (HoldSame day (f (get_or rows i d))) (sym (get_or-map f rows j d d below)) (both d))),
    )

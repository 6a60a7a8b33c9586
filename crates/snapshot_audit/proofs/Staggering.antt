-- Rows in the order of their values, starts and ends: one more row, and where a row is found.
use Rattle.std.proofs.Common.{◌≡◌, ◌<◌, ◌-◌, ◌+ℤ◌, ◌≤ℤ◌, ◌<ℤ◌, ℕ, ℤ, pos, Bool, true, false, int_lt, List, [], ◌∷◌, ◌++◌, length, get_or, Some, refl, sym, ◌∙◌, ap, subst, inl, inr, ◌⊎◌, arith, append_assoc, append-nil}
use Rattle.std.specs.Prelude.{◌↔◌, ◌≤◌, slice_get}
use Rattle.std.specs.List.{AllPairs, Contains}
use Rattle.std.specs.List.Sorted.{IsSorted, IsPartitionedBy, IsPartitionPoint}
use Rattle.std.specs.Ordering.{is_lt, int_cmp, ordering_then, ordering_reverse, match_ordering}
use Rattle.std.specs.declared.cmp.Ordering.TheVariants.{Less, Equal, Greater}
use Rattle.std.proofs.lemmas.Bool.{cases_lt}
use Rattle.std.proofs.lemmas.Int.{ints, by_lt_z}
use Rattle.std.proofs.lemmas.List.{get_or_default, nil_from_length}
use Rattle.std.proofs.lemmas.List.Elements.{Contains-append_left, Contains-push_cases}
use Rattle.std.proofs.lemmas.List.Quantifiers.{all_pairs_push}
use Rattle.std.proofs.lemmas.List.Sorted.{sorted_far, ranks_by}
use Rattle.std.proofs.lemmas.Cmp.{then_total, on_total, int_cmp_total}
use Rattle.std.proofs.lemmas.Option.{slice_get_within, slice_get-get_or, same_Some}
use Rattle.std.specs.Cmp.{IsTotalOrder}
use Rattle.period_core.specs.Order.{values_cmp, period_cmp, row_cmp}
use Rattle.period_core.specs.OrderLaws.{values_cmp_total, values_cmp-same, values_cmp-refl}
use Rattle.period_core.specs.declared.value.Value.{Value}
use Rattle.period_core.specs.declared.row.PeriodRow.{PeriodRow}
use Rattle.temporal_model.specs.Snapshot.{Equivalent, InSnapshot}
use Rattle.temporal_model.proofs.AnswerOrder.{int_cmp-Less}
use Rattle.temporal_model.proofs.Members.{Contains-here, Contains-there, Contains-nil, AllPairs-head, AllPairs-tail}
use Rattle.temporal_model.proofs.Snapshots.{Equivalent-append, held, in_snapshot}
use Rattle.snapshot_audit.specs.Staggered.{AreStaggered, IsStaggered, LastHolds, comes_before}

-- a row that is read at a place is a member
member_at : (rows : List PeriodRow) (k : ℕ) (row : PeriodRow) → slice_get rows k ≡ Some row → Contains rows row
member_at rows k row there =
    let inside : k < length rows = slice_get_within rows k row there in
    (k, inside, same_Some (get_or rows k row) row (sym (slice_get-get_or rows k row inside) ∙ there))

not_less_itself : (values : List Value) → values_cmp values values ≡ Less → ⊥
not_less_itself values less = let tie : values_cmp values values ≡ Equal = values_cmp-refl values in cc

-- ---- the order of two rows

-- the first comes no later by its values, and by its start if they are the same
abbrev pub InRowOrder : PeriodRow → PeriodRow → Type 0
InRowOrder a b = (values_cmp a.values b.values ≡ Less) ⊎ ((a.values ≡ b.values) × (a.period.start ≤ℤ b.period.start))

start_order : (a b : PeriodRow) → InRowOrder a b → a.values ≡ b.values → a.period.start ≤ℤ b.period.start
start_order a b (inl less) same = absurd (not_less_itself a.values (subst (λ v. values_cmp a.values v ≡ Less) (sym same) less))
start_order a b (inr order) same = order.1

order_from : (a b : PeriodRow) → is_lt (row_cmp b a) ≡ false → InRowOrder a b
order_from a b far = elim (values_cmp a.values b.values) as (λ o. values_cmp a.values b.values ≡ o → InRowOrder a b) [
  | Less ↦ λ e. inl e
  | Equal ↦ λ e.
      let same : a.values ≡ b.values = values_cmp-same a.values b.values e in
      let tie : values_cmp b.values a.values ≡ Equal = values_cmp_total.antisymm b.values a.values ∙ ap ordering_reverse e in
      inr (
        same,
        by_lt_z {P = a.period.start ≤ℤ b.period.start} b.period.start a.period.start
            (λ less. absurd (let wrong : is_lt (row_cmp b a) ≡ true =
            ap (λ o. is_lt (ordering_then o (period_cmp b.period a.period))) tie
            ∙ ap (λ o. is_lt (ordering_then o (int_cmp b.period.end a.period.end))) (int_cmp-Less b.period.start a.period.start less) in cc))
            (λ upto. upto),
      )
  | Greater ↦ λ e. absurd (
      let back : values_cmp b.values a.values ≡ Less = values_cmp_total.antisymm b.values a.values ∙ ap ordering_reverse e in
      let wrong : is_lt (row_cmp b a) ≡ true = ap (λ o. is_lt (ordering_then o (period_cmp b.period a.period))) back in cc)
] refl

row_cmp_total : IsTotalOrder row_cmp
row_cmp_total = then_total (on_total (λ (r : PeriodRow). r.values) values_cmp_total) (then_total (on_total (λ (r : PeriodRow). r.period.start) int_cmp_total) (on_total (λ (r : PeriodRow). r.period.end) int_cmp_total))

pub sorted_rows : (rows : List PeriodRow) → IsSorted row_cmp rows → AllPairs InRowOrder rows
sorted_rows rows up = λ i j d lt below.
    order_from (get_or rows i d) (get_or rows j d)
    (sorted_far (λ x y. is_lt (row_cmp x y)) (ranks_by row_cmp_total (λ (r : PeriodRow). r)) rows up i j d (omega arith) below)

-- ---- staggered rows

staggered-trans : (a b c : PeriodRow) → IsStaggered a b → IsStaggered b c → IsStaggered a c
staggered-trans a b c (inl p) (inl q) = inl (values_cmp_total.trans a.values b.values c.values p q)
staggered-trans a b c (inl p) (inr q) = inl (subst (λ v. values_cmp a.values v ≡ Less) q.0 p)
staggered-trans a b c (inr p) (inl q) = inl (subst (λ v. values_cmp v c.values ≡ Less) (sym p.0) q)
staggered-trans a b c (inr p) (inr q) = inr (p.0 ∙ q.0, omega (arith, ints, p.1, q.1), omega (arith, ints, p.2, q.2))

-- a row after the last of some rows is after all of them
staggered_push :
    (rows : List PeriodRow) (row : PeriodRow)
    → ((last : PeriodRow) → slice_get rows (length rows - 1) ≡ Some last → IsStaggered last row)
    → AreStaggered rows → AreStaggered (rows ++ row ∷ [])
staggered_push rows row before all = all_pairs_push IsStaggered rows row all (λ k d inside.
    let n : ℕ = length rows - 1 in
    let last : PeriodRow = get_or rows n d in
    let last_before : IsStaggered last row = before last (slice_get-get_or rows n d (omega arith)) in
    elim (cases_lt k n) [
      | inl less ↦ staggered-trans (get_or rows k d) last row (all k n d less (omega arith)) last_before
      | inr not_less ↦ let is : n ≡ k = omega arith in subst (λ m. IsStaggered (get_or rows m d) row) is last_before
    ])

-- of the sorted rows what is done and what is left, and the rows that remain
pub record AreKept (sorted done rest kept : List PeriodRow) : Type 0 where
  pub all : done ++ rest ≡ sorted
  pub ordered : AllPairs InRowOrder rest
  pub below : (a b : PeriodRow) → Contains kept a → Contains rest b → InRowOrder a b
  pub staggered : AreStaggered kept
  pub same : Equivalent done kept

pub kept_none : (sorted : List PeriodRow) → AllPairs InRowOrder sorted → AreKept sorted [] sorted []
kept_none sorted up = record {
  all = refl;
  ordered = up;
  below = λ a b c k. absurd (Contains-nil a c);
  staggered = λ i j d lt below. absurd (omega arith);
  same = λ day values. (λ h. h, λ h. h);
}

module _ (sorted done was rest kept : List PeriodRow) (row : PeriodRow) where
  -- a row that the last does not hold to its end
  pub kept_more :
      was ≡ row ∷ rest → (LastHolds kept row → ⊥) → AreKept sorted done was kept
      → AreKept sorted (done ++ row ∷ []) rest (kept ++ row ∷ [])
  kept_more is free old =
      let up : AllPairs InRowOrder (row ∷ rest) = subst (AllPairs InRowOrder) is old.ordered in
      record {
        all = append_assoc done (row ∷ []) rest ∙ ap (λ l. done ++ l) (sym is) ∙ old.all;
        ordered = AllPairs-tail InRowOrder row rest up;
        below = λ a b c k. elim (Contains-push_cases kept row a c) [
          | inl before ↦ old.below a b before (subst (λ l. Contains l b) (sym is) (Contains-there row rest b k))
          | inr same ↦ subst (λ x. InRowOrder x b) same (AllPairs-head InRowOrder row rest up b k)
        ];
        staggered = staggered_push kept row (λ last there. after last there) old.staggered;
        same = Equivalent-append done kept (row ∷ []) old.same;
      }
    where
      after : (last : PeriodRow) → slice_get kept (length kept - 1) ≡ Some last → IsStaggered last row
      after last there = elim (old.below last row (member_at kept (length kept - 1) last there) (subst (λ l. Contains l row) (sym is) (Contains-here row rest))) [
        | inl less ↦ inl less
        | inr (same, start) ↦ inr (
          same,
          start,
          by_lt_z {P = last.period.end <ℤ row.period.end} last.period.end row.period.end
              (λ less. less) (λ upto. absurd (free (last, there, same, upto))),
        )
      ]

  -- a row within the last one is left out
  pub kept_skip :
      was ≡ row ∷ rest → LastHolds kept row → AreKept sorted done was kept → AreKept sorted (done ++ row ∷ []) rest kept
  kept_skip is (last, there, same, ends) old =
      let up : AllPairs InRowOrder (row ∷ rest) = subst (AllPairs InRowOrder) is old.ordered in
      let member : Contains kept last = member_at kept (length kept - 1) last there in
      let starts : last.period.start ≤ℤ row.period.start =
      start_order last row (old.below last row member (subst (λ l. Contains l row) (sym is) (Contains-here row rest))) same in
      record {
        all = append_assoc done (row ∷ []) rest ∙ ap (λ l. done ++ l) (sym is) ∙ old.all;
        ordered = AllPairs-tail InRowOrder row rest up;
        below = λ a b c k. old.below a b c (subst (λ l. Contains l b) (sym is) (Contains-there row rest b k));
        staggered = old.staggered;
        same = λ day values. (
          λ h.
              let (r, c, v, (from, to)) = held (done ++ row ∷ []) day values h in
              elim (Contains-push_cases done row r c) [
                | inl before ↦ (old.same day values).0 (in_snapshot done day values (r, before, v, (from, to)))
                | inr one ↦
                    let first : row.period.start ≤ℤ day = subst (λ (x : PeriodRow). x.period.start ≤ℤ day) (sym one) from in
                    let final : day <ℤ row.period.end = subst (λ (x : PeriodRow). day <ℤ x.period.end) (sym one) to in
                    in_snapshot kept day values (last, member, same ∙ ap (λ (x : PeriodRow). x.values) one ∙ v, (omega (arith, ints), omega (arith, ints)))
              ],
          λ h.
              let (r, c, v, covers) = held done day values ((old.same day values).1 h) in
              in_snapshot (done ++ row ∷ []) day values (r, Contains-append_left done (row ∷ []) r c, v, covers),
        );
      }

pub kept_all :
    (sorted done rest kept : List PeriodRow) → length rest ≡ 0 → AreKept sorted done rest kept → AreStaggered kept × Equivalent sorted kept
kept_all sorted done rest kept none old =
    let is : rest ≡ [] = nil_from_length rest none in
    let all : done ≡ sorted = sym (append-nil done) ∙ ap (λ l. done ++ l) (sym is) ∙ old.all in
    (old.staggered, subst (λ l. Equivalent l kept) all old.same)

-- ---- the place of a row

-- `comes_before` of equal values compares the days
pub before_same :
    (values others : List Value) (start day : ℤ) → values ≡ others → comes_before values start others day ≡ int_lt start day
before_same values others start day same =
    ap (λ o. match_ordering o true (int_lt start day) false) (subst (λ v. values_cmp values v ≡ Equal) same (values_cmp-refl values))

pub before_less :
    (values others : List Value) (start day : ℤ) → values_cmp values others ≡ Less → comes_before values start others day ≡ true
before_less values others start day less = ap (λ o. match_ordering o true (int_lt start day) false) less

pub before_greater :
    (values others : List Value) (start day : ℤ) → values_cmp others values ≡ Less → comes_before values start others day ≡ false
before_greater values others start day less =
    ap (λ o. match_ordering o true (int_lt start day) false) (values_cmp_total.antisymm values others ∙ ap ordering_reverse less)

-- a row is before by its values, or has the same and starts before the day
pub before_cases :
    (values others : List Value) (start day : ℤ) → comes_before values start others day ≡ true
    → (values_cmp values others ≡ Less) ⊎ ((values ≡ others) × (start <ℤ day))
before_cases values others start day before = elim (values_cmp values others) as (λ o. values_cmp values others ≡ o → (values_cmp values others ≡ Less) ⊎ ((values ≡ others) × (start <ℤ day))) [
  | Less ↦ λ e. inl e
  | Equal ↦ λ e. let same : values ≡ others = values_cmp-same values others e in
      let starts : int_lt start day ≡ true = sym (before_same values others start day same) ∙ before in
      inr (same, grind (arith, starts))
  | Greater ↦ λ e. absurd (let wrong : comes_before values start others day ≡ false = ap (λ o. match_ordering o true (int_lt start day) false) e in cc)
] refl

-- whether the row begins by the day, in the order of the rows
abbrev pub begins_by : List Value → ℤ → PeriodRow → Bool
begins_by values day row = comes_before row.values row.period.start values (day +ℤ pos 1)

begins_earlier :
    (values : List Value) (day : ℤ) (a b : PeriodRow) → IsStaggered a b → begins_by values day b ≡ true → begins_by values day a ≡ true
begins_earlier values day a b (inl less) by = elim (before_cases b.values values b.period.start (day +ℤ pos 1) by) [
  | inl more ↦ before_less a.values values a.period.start (day +ℤ pos 1) (values_cmp_total.trans a.values b.values values less more)
  | inr same ↦ before_less a.values values a.period.start (day +ℤ pos 1) (subst (λ v. values_cmp a.values v ≡ Less) same.0 less)
]
begins_earlier values day a b (inr (same, starts, ends)) by = elim (before_cases b.values values b.period.start (day +ℤ pos 1) by) [
  | inl more ↦ before_less a.values values a.period.start (day +ℤ pos 1) (subst (λ v. values_cmp v values ≡ Less) (sym same) more)
  | inr (is, start) ↦
      let less : a.period.start <ℤ (day +ℤ pos 1) = omega (arith, ints) in
      let begun : int_lt a.period.start (day +ℤ pos 1) ≡ true = grind (arith, less) in
      before_same a.values values a.period.start (day +ℤ pos 1) (same ∙ is) ∙ begun
]

pub begins_in_order :
    (values : List Value) (day : ℤ) (rows : List PeriodRow) → AreStaggered rows → IsPartitionedBy (begins_by values day) rows
begins_in_order values day rows all i j d upto inside by = elim (cases_lt i j) [
  | inl less ↦ begins_earlier values day (get_or rows i d) (get_or rows j d) (all i j d less inside) by
  | inr not_less ↦ let is : j ≡ i = omega arith in subst (λ k. begins_by values day (get_or rows k d) ≡ true) is by
]

module _
    (rows : List PeriodRow) (values : List Value) (day : ℤ) (n : ℕ) (all : AreStaggered rows)
    (point : IsPartitionPoint (λ y. begins_by values day y ≡ true) (λ y. begins_by values day y ≡ false) rows n) where
  -- a row that holds the values on the day is one of the first n
  begun : (k : ℕ) (row : PeriodRow) → k < length rows → get_or rows k row ≡ row → row.values ≡ values → row.period.start ≤ℤ day → k < n
  begun k row inside at same starts = elim (cases_lt k n) [
    | inl less ↦ less
    | inr not_less ↦ absurd (
        let no : begins_by values day row ≡ false = subst (λ r. begins_by values day r ≡ false) at (point.1 k row not_less inside) in
        let less : row.period.start <ℤ (day +ℤ pos 1) = omega (arith, ints) in
        let yes : int_lt row.period.start (day +ℤ pos 1) ≡ true = grind (arith, less) in
        let by : begins_by values day row ≡ true = before_same row.values values row.period.start (day +ℤ pos 1) same ∙ yes in cc)
  ]

  pub none_begun : n ≡ 0 → InSnapshot rows day values → ⊥
  none_begun none h =
      let (row, (k, inside, at), same, (from, to)) = held rows day values h in
      let less : k < n = begun k row inside at same from in
      omega arith

  -- the last row that has begun holds the values on the day, or no row does
  pub last_of_begun :
      (last : PeriodRow) → 0 < n → n ≤ length rows → last ≡ get_or rows (n - 1) last
      → (((last.values ≡ values) × (day <ℤ last.period.end)) ↔ InSnapshot rows day values)
  last_of_begun last some upto is = (
    λ (same, ends).
        elim (before_cases last.values values last.period.start (day +ℤ pos 1) by) [
          | inl less ↦ absurd (not_less_itself values (subst (λ v. values_cmp v values ≡ Less) same less))
          | inr (_, starts) ↦ in_snapshot rows day values (last, (n - 1, omega arith, sym is), same, (omega (arith, ints), ends))
        ],
    λ h.
        let (row, (k, inside, at), same, (from, to)) = held rows day values h in
        let less : k < n = begun k row inside at same from in
        elim (cases_lt k (n - 1)) [
          | inl earlier ↦
              let order : IsStaggered row last =
              subst (λ r. IsStaggered r last) at
              (subst (IsStaggered (get_or rows k row)) (get_or_default rows (n - 1) row last (omega arith) ∙ sym is) (all k (n - 1) row earlier (omega arith))) in
              elim order [
                | inl first ↦ absurd (
                    let no : begins_by values day last ≡ false = before_greater last.values values last.period.start (day +ℤ pos 1) (subst (λ v. values_cmp v last.values ≡ Less) same first) in
                    let yes : begins_by values day last ≡ true = by in cc)
                | inr (one, starts, ends) ↦ (sym one ∙ same, omega (arith, ints))
              ]
          | inr not_earlier ↦
              let one : k ≡ n - 1 = omega arith in
              let it : row ≡ last = sym at ∙ ap (λ m. get_or rows m row) one ∙ get_or_default rows (n - 1) row last (omega arith) ∙ sym is in
              (subst (λ (r : PeriodRow). r.values ≡ values) it same, subst (λ (r : PeriodRow). day <ℤ r.period.end) it to)
        ],
  )
    where
      by : begins_by values day last ≡ true
      by = subst (λ r. begins_by values day r ≡ true) (sym is) (point.0 (n - 1) last (omega arith) (omega arith))

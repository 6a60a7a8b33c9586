-- Coalesced lists, and the facts that each step of merging keeps.
use Rattle.std.proofs.Common.{◌≡◌, ◌<ℤ◌, ◌≤ℤ◌, ◌-ℤ◌, pos, List, [], ◌∷◌, ◌++◌, get_or, refl, sym, ◌∙◌, ap, subst, inl, inr, ◌⊎◌, arith, true, false, append_assoc}
use Rattle.std.specs.List.{Contains}
use Rattle.std.specs.Ordering.{eq_by_cmp}
use Rattle.period_core.specs.Order.{values_cmp}
use Rattle.period_core.specs.OrderLaws.{values_eq}
use Rattle.std.proofs.lemmas.Int.{ints, by_lt_z}
use Rattle.std.proofs.lemmas.Bool.{cases_lt}
use Rattle.std.proofs.lemmas.List.{get_or_default}
use Rattle.period_core.specs.declared.row.PeriodRow.{PeriodRow}
use Rattle.temporal_model.specs.Snapshot.{Equivalent, InSnapshot}
use Rattle.temporal_model.proofs.Members.{AllPairs-head, Contains-cons_cases, Contains-here, Contains-nil, Contains-one, Contains-there}
use Rattle.temporal_model.proofs.Snapshots.{Equivalent-append, Equivalent-refl, Equivalent-trans, HoldsOn, InSnapshot-start, held, in_snapshot}
use Rattle.temporal_model.specs.Answer.{IsCertified, IsInAnswerOrder}
use Rattle.coalesce_core.specs.Coalesced.{PrecedesWithGap, NotAfter, IsCoalesced, IsCoalescedOf, IsOrdered}
use Rattle.coalesce_core.proofs.Lists.{AllPairs-front, AllPairs-one}
use Rattle.coalesce_core.proofs.Order.{PrecedesWithGap-gap, PrecedesWithGap-later, PrecedesWithGap-other, PrecedesWithGap-upto}

pub ordered : (rows : List PeriodRow) → IsCoalesced rows → IsInAnswerOrder rows
ordered rows h = λ i j d lt below. (h i j d lt below).0

-- two rows in a coalesced list are one, or one of them is before the other
pub placed :
    (rows : List PeriodRow) → IsCoalesced rows → (a b : PeriodRow) → Contains rows a
    → Contains rows b → PrecedesWithGap a b ⊎ (PrecedesWithGap b a ⊎ (a ≡ b))
placed rows h a b (i, in_i, at_i) (j, in_j, at_j) =
    let value_i : get_or rows i b ≡ a = get_or_default rows i b a in_i ∙ at_i in
    elim (cases_lt i j) [
      | inl before ↦ inl (subst (λ x. PrecedesWithGap x b) value_i (subst (PrecedesWithGap (get_or rows i b)) at_j (h i j b before in_j)))
      | inr not_before ↦ elim (cases_lt j i) [
        | inl after ↦ inr (inl (subst (PrecedesWithGap b) value_i (subst (λ x. PrecedesWithGap x (get_or rows i b)) at_j (h j i b after in_i))))
        | inr not_after ↦ let k : i ≡ j = omega arith in inr (inr (sym value_i ∙ ap (λ n. get_or rows n b) k ∙ at_j))
      ]
    ]

pub certified : (rows : List PeriodRow) → IsCoalesced rows → IsCertified rows
certified rows h = record {
  absent_before = λ row c before.
      let (other, inside, values, (from, to)) = held rows (row.period.start -ℤ pos 1) row.values before in
      let mine : row.period.start <ℤ row.period.end = row.period.ordered in
      elim (placed rows h other row inside c) [
        | inl before ↦ let gap : other.period.end <ℤ row.period.start = before.1 values in omega (arith, ints)
        | inr more ↦ elim more [
          | inl after ↦ let gap : row.period.end <ℤ other.period.start = after.1 (sym values) in omega (arith, ints)
          | inr one ↦ let starts : other.period.start ≡ row.period.start = ap (λ (r : PeriodRow). r.period.start) one in omega (arith, ints)
        ]
      ];
  distinct = λ i j d lt below same.
      let gap : (get_or rows i d).period.end <ℤ (get_or rows j d).period.start = (h i j d lt below).1 same.0 in
      let first : (get_or rows i d).period.start <ℤ (get_or rows i d).period.end = (get_or rows i d).period.ordered in
      let starts : (get_or rows i d).period.start ≡ (get_or rows j d).period.start = same.1 in
      omega (arith, ints);
}

-- ---- lists with the same snapshots

pub Equivalent-front :
    (row : PeriodRow) (xs ys : List PeriodRow) → Equivalent xs ys → Equivalent (row ∷ xs) (row ∷ ys)
Equivalent-front row xs ys p day vs = (
  λ h. go xs ys (λ k. (p day vs).0 k) h,
  λ h. go ys xs (λ k. (p day vs).1 k) h,
)
  where
    go : (old new : List PeriodRow) → (InSnapshot old day vs → InSnapshot new day vs) → InSnapshot (row ∷ old) day vs → InSnapshot (row ∷ new) day vs
    go old new to h =
        let (r, c, v, on) = held (row ∷ old) day vs h in
        in_snapshot (row ∷ new) day vs
        (elim (Contains-cons_cases row old r c) [
          | inl same ↦ (r, subst (Contains (row ∷ new)) same (Contains-here row new), v, on)
          | inr inside ↦ let (s, d, w, now) = held new day vs (to (in_snapshot old day vs (r, inside, v, on))) in
              (s, Contains-there row new s d, w, now)
        ])

-- a list that holds nothing has no row
pub Equivalent-nothing : (rows : List PeriodRow) → Equivalent [] rows → rows ≡ []
Equivalent-nothing [] p = refl
Equivalent-nothing (row ∷ rows) p =
    let start = InSnapshot-start (row ∷ rows) row (Contains-here row rows) in
    let (r, c, v, on) = held [] row.period.start row.values ((p row.period.start row.values).1 start) in
    absurd (Contains-nil r c)

-- ---- two rows

-- a row is extended over the next one, of the same values, that begins within it or at its end
pub widened :
    (row next wide : PeriodRow) → row.values ≡ next.values
    → row.period.start ≤ℤ next.period.start → next.period.start ≤ℤ row.period.end
    → wide.values ≡ row.values → wide.period.start ≡ row.period.start
    → row.period.end ≤ℤ wide.period.end → next.period.end ≤ℤ wide.period.end
    → (wide.period.end ≡ row.period.end) ⊎ (wide.period.end ≡ next.period.end)
    → Equivalent (row ∷ next ∷ []) (wide ∷ [])
widened row next wide values begins meets wide_values wide_start keeps reaches tight day vs = (
  λ h.
      let (r, c, v, (from, to)) = held (row ∷ next ∷ []) day vs h in
      in_snapshot (wide ∷ []) day vs
      (elim (Contains-cons_cases row (next ∷ []) r c) [
        | inl e ↦ let starts : row.period.start ≡ r.period.start = ap (λ (x : PeriodRow). x.period.start) e in
            let ends : row.period.end ≡ r.period.end = ap (λ (x : PeriodRow). x.period.end) e in
            (wide, Contains-here wide [], wide_values ∙ ap (λ (x : PeriodRow). x.values) e ∙ v, (omega (arith, ints), omega (arith, ints)))
        | inr more ↦ let e : next ≡ r = Contains-one next r more in
            let starts : next.period.start ≡ r.period.start = ap (λ (x : PeriodRow). x.period.start) e in
            let ends : next.period.end ≡ r.period.end = ap (λ (x : PeriodRow). x.period.end) e in
            (wide, Contains-here wide [], wide_values ∙ values ∙ ap (λ (x : PeriodRow). x.values) e ∙ v, (omega (arith, ints), omega (arith, ints)))
      ]),
  λ h.
      let (r, c, v, (from, to)) = held (wide ∷ []) day vs h in
      let e : wide ≡ r = Contains-one wide r c in
      let starts : wide.period.start ≡ r.period.start = ap (λ (x : PeriodRow). x.period.start) e in
      let ends : wide.period.end ≡ r.period.end = ap (λ (x : PeriodRow). x.period.end) e in
      let mine : row.values ≡ vs = sym wide_values ∙ ap (λ (x : PeriodRow). x.values) e ∙ v in
      in_snapshot (row ∷ next ∷ []) day vs
      (by_lt_z {P = HoldsOn (row ∷ next ∷ []) day vs} day row.period.end
      (λ within. (row, Contains-here row (next ∷ []), mine, (omega (arith, ints), within)))
      (λ past. (
        next,
        Contains-there row (next ∷ []) next (Contains-here next []),
        sym values ∙ mine,
        (
          omega (arith, ints),
          elim tight [
            | inl short ↦ absurd (omega (arith, ints))
            | inr long ↦ omega (arith, ints)
          ],
        ),
      ))),
)

same_or_not : (a b : PeriodRow) → (a.values ≡ b.values) ⊎ (a.values ≡ b.values → ⊥)
same_or_not a b =
    let test = values_eq a.values b.values in
    elim (eq_by_cmp values_cmp a.values b.values) as (λ t. eq_by_cmp values_cmp a.values b.values ≡ t → (a.values ≡ b.values) ⊎ (a.values ≡ b.values → ⊥)) [
      | true ↦ λ e. inl (test.0 e)
      | false ↦ λ e. inr (λ same. let yes : eq_by_cmp values_cmp a.values b.values ≡ true = test.1 same in cc)
    ] refl

-- a row that the first does not join lies after it with a gap
pub apart :
    (row next : PeriodRow) → NotAfter row next
    → ((row.values ≡ next.values) × (next.period.start ≤ℤ row.period.end) → ⊥)
    → PrecedesWithGap row next
apart row next before alone =
    by_lt_z {P = PrecedesWithGap row next} row.period.end next.period.start
    (λ gap. elim (same_or_not row next) [ inl same ↦ PrecedesWithGap-gap row next same gap | inr other ↦ PrecedesWithGap-other row next other before ])
    (λ meets. PrecedesWithGap-other row next (λ same. alone (same, meets)) before)

-- ---- coalesced lists

pub IsCoalescedOf-nothing : IsCoalescedOf [] []
IsCoalescedOf-nothing = record { equivalent = Equivalent-refl []; coalesced = λ i j d lt below. absurd (omega arith) }

pub IsCoalescedOf-one : (row : PeriodRow) → IsCoalescedOf (row ∷ []) (row ∷ [])
IsCoalescedOf-one row = record { equivalent = Equivalent-refl (row ∷ []); coalesced = AllPairs-one PrecedesWithGap row }

pub IsCoalescedOf-two :
    (rows : List PeriodRow) (row next : PeriodRow) → Equivalent rows (row ∷ [])
    → PrecedesWithGap row next → IsCoalescedOf (rows ++ next ∷ []) (row ∷ next ∷ [])
IsCoalescedOf-two rows row next p gap = record {
  equivalent = Equivalent-append rows (row ∷ []) (next ∷ []) p;
  coalesced = AllPairs-front PrecedesWithGap row (next ∷ []) (λ y c. subst (PrecedesWithGap row) (Contains-one next y c) gap) (AllPairs-one PrecedesWithGap next);
}

-- rows that become one row and the next, and what the next and all after it become
pub IsCoalescedOf-step :
    (rows : List PeriodRow) (row next : PeriodRow) (rest answer : List PeriodRow)
    → IsCoalescedOf (rows ++ next ∷ []) (row ∷ next ∷ []) → IsOrdered (next ∷ rest)
    → IsCoalescedOf (next ∷ rest) answer → IsCoalescedOf (rows ++ next ∷ rest) (row ∷ answer)
IsCoalescedOf-step rows row next rest answer two up more =
    let whole : Equivalent ((rows ++ next ∷ []) ++ rest) (row ∷ next ∷ rest) = Equivalent-append (rows ++ next ∷ []) (row ∷ next ∷ []) rest two.equivalent in
    let all : Equivalent (rows ++ next ∷ rest) (row ∷ next ∷ rest) = subst (λ l. Equivalent l (row ∷ next ∷ rest)) (append_assoc rows (next ∷ []) rest) whole in
    let gap : PrecedesWithGap row next = AllPairs-head PrecedesWithGap row (next ∷ []) two.coalesced next (Contains-here next []) in
    let behind : (other : PeriodRow) → Contains (next ∷ rest) other → PrecedesWithGap row other = λ other c. elim (Contains-cons_cases next rest other c) [
      | inl same ↦ subst (PrecedesWithGap row) same gap
      | inr later ↦ PrecedesWithGap-upto row next other gap (AllPairs-head NotAfter next rest up other later)
    ] in
    record {
      equivalent = Equivalent-trans (rows ++ next ∷ rest) (row ∷ next ∷ rest) (row ∷ answer) all (Equivalent-front row (next ∷ rest) answer more.equivalent);
      coalesced = AllPairs-front PrecedesWithGap row answer
          (λ y c.
          let (other, inside, values, (from, to)) = held (next ∷ rest) y.period.start y.values ((more.equivalent y.period.start y.values).1 (InSnapshot-start answer y c)) in
          PrecedesWithGap-later row other y (behind other inside) values from)
          more.coalesced;
    }

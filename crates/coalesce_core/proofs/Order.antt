-- The order of answer rows: a total order, and its meaning for rows of the same values.
use Rattle.std.proofs.Common.{◌≡◌, ◌<ℤ◌, ◌≤ℤ◌, ℕ, zero, suc, ◌+◌, ◌<◌, ◌≤◌, false, true, refl, sym, ◌∙◌, ap, subst, inl, inr, arith, List, Ordering, get_or, length, add-one}
use Rattle.std.specs.List.{AllPairs}
use Rattle.std.specs.List.Sorted.{IsSorted}
use Rattle.std.proofs.lemmas.List.Sorted.{sorted_far, ranks_by}
use Rattle.std.specs.declared.cmp.Ordering.TheVariants.{Less, Equal, Greater}
use Rattle.std.specs.Cmp.{IsStrictWeakOrder}
use Rattle.std.specs.Ordering.{int_cmp, is_lt, is_gt, ordering_then, ordering_reverse}
use Rattle.std.proofs.lemmas.Bool.{cases_lt}
use Rattle.std.proofs.lemmas.Int.{ints, by_lt_z}
use Rattle.period_core.specs.Order.{values_cmp}
use Rattle.period_core.specs.OrderLaws.{values_cmp_total, values_cmp-same, values_cmp-refl}
use Rattle.period_core.specs.declared.row.PeriodRow.{PeriodRow}
use Rattle.temporal_model.specs.Answer.{answer_cmp}
use Rattle.temporal_model.proofs.AnswerOrder.{answer_cmp_total, answer_cmp-same, int_cmp-Less}
use Rattle.coalesce_core.specs.Coalesced.{PrecedesWithGap, IsCoalesced, NotAfter}

-- a row that does not come after one of the same values begins no later
pub NotAfter-start : (a b : PeriodRow) → a.values ≡ b.values → NotAfter a b → a.period.start ≤ℤ b.period.start
NotAfter-start a b e h =
    by_lt_z {P = a.period.start ≤ℤ b.period.start} b.period.start a.period.start
    (λ less. let first : answer_cmp b a ≡ Less = answer_cmp-same b a (sym e) ∙ int_cmp-Less b.period.start a.period.start less in
    absurd (let wrong : is_lt (answer_cmp b a) ≡ true = ap is_lt first in cc))
    (λ upto. upto)

is_lt-reverse : (o : Ordering) → is_lt (ordering_reverse o) ≡ is_gt o
is_lt-reverse Less = refl
is_lt-reverse Equal = refl
is_lt-reverse Greater = refl

-- the test with its rows changed over
pub flip : (a b : PeriodRow) → is_lt (answer_cmp b a) ≡ is_gt (answer_cmp a b)
flip a b = ap is_lt (answer_cmp_total.antisymm b a) ∙ is_lt-reverse (answer_cmp a b)

-- a row that comes neither after one row nor after another of the same values and first day
pub NotAfter-same_start :
    (a b c : PeriodRow) → a.values ≡ b.values → a.period.start ≡ b.period.start → NotAfter a c
    → NotAfter b c
NotAfter-same_start a b c v s h = (λ i. is_lt (ordering_then (values_cmp c.values (sym v i)) (int_cmp c.period.start (sym s i)))) ∙ h

-- a gap between rows of the same values
pub PrecedesWithGap-gap :
    (a b : PeriodRow) → a.values ≡ b.values → a.period.end <ℤ b.period.start → PrecedesWithGap a b
PrecedesWithGap-gap a b e gap =
    let first : a.period.start <ℤ a.period.end = a.period.ordered in
    let less : a.period.start <ℤ b.period.start = omega (arith, ints) in
    (answer_cmp-same a b e ∙ int_cmp-Less a.period.start b.period.start less, λ _. gap)

-- a row of lesser values precedes
pub PrecedesWithGap-less : (a b : PeriodRow) → values_cmp a.values b.values ≡ Less → PrecedesWithGap a b
PrecedesWithGap-less a b e = (
  ap (λ o. ordering_then o (int_cmp a.period.start b.period.start)) e,
  λ v. absurd (let tie : values_cmp a.values b.values ≡ Equal = subst (λ vs. values_cmp a.values vs ≡ Equal) v (values_cmp-refl a.values) in cc),
)

-- of two rows in order, with different values, the first precedes
pub PrecedesWithGap-other : (a b : PeriodRow) → (a.values ≡ b.values → ⊥) → NotAfter a b → PrecedesWithGap a b
PrecedesWithGap-other a b other h =
    elim (values_cmp a.values b.values) as (λ o. values_cmp a.values b.values ≡ o → PrecedesWithGap a b) [
      | Less ↦ λ e. (ap (λ o. ordering_then o (int_cmp a.period.start b.period.start)) e, λ v. absurd (other v))
      | Equal ↦ λ e. absurd (other (values_cmp-same a.values b.values e))
      | Greater ↦ λ e. absurd (let after : is_gt (answer_cmp a b) ≡ true = ap (λ o. is_gt (ordering_then o (int_cmp a.period.start b.period.start))) e in
          let upto : is_gt (answer_cmp a b) ≡ false = sym (flip a b) ∙ h in cc)
    ] refl

pub PrecedesWithGap-trans :
    (a b c : PeriodRow) → PrecedesWithGap a b → PrecedesWithGap b c → PrecedesWithGap a c
PrecedesWithGap-trans a b c p q = (
  answer_cmp_total.trans a b c p.0 q.0,
  λ v.
      elim (values_cmp a.values b.values) as (λ o. values_cmp a.values b.values ≡ o → a.period.end <ℤ c.period.start) [
        | Less ↦ λ e. absurd (let back : values_cmp b.values c.values ≡ Greater = subst (λ vs. values_cmp b.values vs ≡ Greater) v (values_cmp_total.antisymm b.values a.values ∙ ap ordering_reverse e) in
            let after : answer_cmp b c ≡ Greater = ap (λ o. ordering_then o (int_cmp b.period.start c.period.start)) back in
            let before : answer_cmp b c ≡ Less = q.0 in cc)
        | Equal ↦ λ e. let same : a.values ≡ b.values = values_cmp-same a.values b.values e in
            let one : a.period.end <ℤ b.period.start = p.1 same in
            let two : b.period.end <ℤ c.period.start = q.1 (sym same ∙ v) in
            let first : b.period.start <ℤ b.period.end = b.period.ordered in
            omega (arith, ints)
        | Greater ↦ λ e. absurd (let after : answer_cmp a b ≡ Greater = ap (λ o. ordering_then o (int_cmp a.period.start b.period.start)) e in
            let before : answer_cmp a b ≡ Less = p.0 in cc)
      ] refl,
)

-- a row behind b, by b's values or from b's first day on, lies after each row that precedes b
pub PrecedesWithGap-later :
    (a b c : PeriodRow) → PrecedesWithGap a b → b.values ≡ c.values
    → b.period.start ≤ℤ c.period.start → PrecedesWithGap a c
PrecedesWithGap-later a b c p same later =
    elim (values_cmp a.values b.values) as (λ o. values_cmp a.values b.values ≡ o → PrecedesWithGap a c) [
      | Less ↦ λ e. (
        ap (λ o. ordering_then o (int_cmp a.period.start c.period.start)) (ap (values_cmp a.values) (sym same) ∙ e),
        λ v. absurd (let tie : values_cmp a.values b.values ≡ Equal = subst (λ vs. values_cmp a.values vs ≡ Equal) (v ∙ sym same) (values_cmp-refl a.values) in cc),
      )
      | Equal ↦ λ e. let one : a.values ≡ b.values = values_cmp-same a.values b.values e in
          let gap : a.period.end <ℤ b.period.start = p.1 one in
          PrecedesWithGap-gap a c (one ∙ same) (omega (arith, ints))
      | Greater ↦ λ e. absurd (let after : answer_cmp a b ≡ Greater = ap (λ o. ordering_then o (int_cmp a.period.start b.period.start)) e in
          let before : answer_cmp a b ≡ Less = p.0 in cc)
    ] refl

-- a row that does not come before b lies after each row that precedes b
pub PrecedesWithGap-upto :
    (a b c : PeriodRow) → PrecedesWithGap a b → NotAfter b c → PrecedesWithGap a c
PrecedesWithGap-upto a b c p upto =
    elim (values_cmp b.values c.values) as (λ o. values_cmp b.values c.values ≡ o → PrecedesWithGap a c) [
      | Less ↦ λ e. PrecedesWithGap-trans a b c p (
        ap (λ o. ordering_then o (int_cmp b.period.start c.period.start)) e,
        λ v. absurd (let tie : values_cmp b.values c.values ≡ Equal = subst (λ vs. values_cmp b.values vs ≡ Equal) v (values_cmp-refl b.values) in cc),
      )
      | Equal ↦ λ e. let same : b.values ≡ c.values = values_cmp-same b.values c.values e in
          PrecedesWithGap-later a b c p same (NotAfter-start b c same upto)
      | Greater ↦ λ e. absurd (let back : values_cmp c.values b.values ≡ Less = values_cmp_total.antisymm c.values b.values ∙ ap ordering_reverse e in
          let first : answer_cmp c b ≡ Less = ap (λ o. ordering_then o (int_cmp c.period.start b.period.start)) back in
          let wrong : is_lt (answer_cmp c b) ≡ true = ap is_lt first in cc)
    ] refl

-- each of the first n rows precedes the next one with a gap
abbrev pub AreApart : List PeriodRow → ℕ → Type 0
AreApart rows n = (k : ℕ) (d : PeriodRow) → k + 1 < n → PrecedesWithGap (get_or rows k d) (get_or rows (k + 1) d)

far_apart :
    (rows : List PeriodRow) (n : ℕ) → AreApart rows n → (i j : ℕ) (d : PeriodRow) → i < j → j < n
    → PrecedesWithGap (get_or rows i d) (get_or rows j d)
far_apart rows n near i zero d lt below = absurd (omega arith)
far_apart rows n near i (suc j) d lt below =
    let next : PrecedesWithGap (get_or rows j d) (get_or rows (suc j) d) = subst (λ m. PrecedesWithGap (get_or rows j d) (get_or rows m d)) (add-one j) (near j d (omega arith)) in
    elim (cases_lt i j) [
      | inl before ↦ PrecedesWithGap-trans (get_or rows i d) (get_or rows j d) (get_or rows (suc j) d) (far_apart rows n near i j d before (omega arith)) next
      | inr not_before ↦ let same : i ≡ j = omega arith in subst (λ m. PrecedesWithGap (get_or rows m d) (get_or rows (suc j) d)) (sym same) next
    ]

-- rows each of which precedes the next one with a gap are a coalesced list
pub coalesced_as_they_are : (rows : List PeriodRow) (n : ℕ) → length rows ≤ n → AreApart rows n → IsCoalesced rows
coalesced_as_they_are rows n whole near i j d lt below = far_apart rows n near i j d lt (omega arith)

-- the order by which rows are sorted
pub answer_ranks : IsStrictWeakOrder (λ a b. is_lt (answer_cmp a b))
answer_ranks = ranks_by answer_cmp_total (λ (r : PeriodRow). r)

-- after the sort no row comes after a later one
pub sorted_rows : (rows : List PeriodRow) → IsSorted answer_cmp rows → AllPairs NotAfter rows
sorted_rows rows up = λ i j d lt below. sorted_far (λ a b. is_lt (answer_cmp a b)) answer_ranks rows up i j d (omega arith) below

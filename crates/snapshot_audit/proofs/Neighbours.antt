-- Rows with gaps: two neighbours show a gap, and after it each row begins anew.
use Rattle.std.proofs.Common.{◌≡◌, ◌<ℤ◌, ◌-ℤ◌, pos, ℕ, ◌+◌, ◌-◌, ◌<◌, ◌≤◌, zero, suc, List, length, get_or, Some, refl, sym, ◌∙◌, ap, subst, inl, inr, arith}
use Rattle.std.specs.List.{slice_get}
use Rattle.std.specs.Ordering.{int_cmp, ordering_then, ordering_reverse}
use Rattle.std.specs.declared.cmp.Ordering.TheVariants.{Less, Equal, Greater}
use Rattle.std.proofs.lemmas.Bool.{cases_lt}
use Rattle.std.proofs.lemmas.Int.{ints}
use Rattle.std.proofs.lemmas.List.{get_or-take, get_or_default, length-take-le}
use Rattle.std.proofs.lemmas.Option.{slice_get_within, slice_get-get_or, same_Some}
use Rattle.period_core.specs.Order.{values_cmp}
use Rattle.period_core.specs.OrderLaws.{values_cmp_total, values_cmp-same}
use Rattle.period_core.specs.declared.row.PeriodRow.{PeriodRow}
use Rattle.temporal_model.specs.Answer.{answer_cmp}
use Rattle.temporal_model.proofs.AnswerOrder.{answer_cmp_total}
use Rattle.temporal_model.proofs.Snapshots.{held}
use Rattle.snapshot_audit.specs.Faults.{BeginsAnew}
use Rattle.snapshot_audit.specs.Gaps.{IsBeforeWithGap, HasGaps}

-- values between equal ones are equal to both
same_between :
    (a b c : PeriodRow) → answer_cmp a b ≡ Less → answer_cmp b c ≡ Less → a.values ≡ c.values
    → a.values ≡ b.values
same_between a b c p q v =
    elim (values_cmp a.values b.values) as (λ o. values_cmp a.values b.values ≡ o → a.values ≡ b.values) [
      | Less ↦ λ e. absurd (let back : values_cmp b.values c.values ≡ Greater = subst (λ vs. values_cmp b.values vs ≡ Greater) v (values_cmp_total.antisymm b.values a.values ∙ ap ordering_reverse e) in
          let after : answer_cmp b c ≡ Greater = ap (λ o. ordering_then o (int_cmp b.period.start c.period.start)) back in
          cc)
      | Equal ↦ λ e. values_cmp-same a.values b.values e
      | Greater ↦ λ e. absurd (let after : answer_cmp a b ≡ Greater = ap (λ o. ordering_then o (int_cmp a.period.start b.period.start)) e in cc)
    ] refl

gap-trans : (a b c : PeriodRow) → IsBeforeWithGap a b → IsBeforeWithGap b c → IsBeforeWithGap a c
gap-trans a b c p q = (
  answer_cmp_total.trans a b c p.0 q.0,
  λ v.
      let same : a.values ≡ b.values = same_between a b c p.0 q.0 v in
      let one : a.period.end <ℤ b.period.start = p.1 same in
      let two : b.period.end <ℤ c.period.start = q.1 (sym same ∙ v) in
      let first : b.period.start <ℤ b.period.end = b.period.ordered in
      omega (arith, ints),
)

-- each row precedes the next one with a gap, up to this place
abbrev pub GapsBelow : List PeriodRow → ℕ → Type 0
GapsBelow rows n = (k : ℕ) (d : PeriodRow) → k + 1 < n → IsBeforeWithGap (get_or rows k d) (get_or rows (k + 1) d)

pub gaps_more :
    (rows : List PeriodRow) (place : ℕ) (a b : PeriodRow) → 1 ≤ place → place < length rows
    → a ≡ get_or rows (place - 1) a → b ≡ get_or rows place b → IsBeforeWithGap a b → GapsBelow rows place
    → GapsBelow rows (place + 1)
gaps_more rows place a b some inside at next gap below k d h =
    elim (cases_lt (k + 1) place) [
      | inl before ↦ below k d before
      | inr ge ↦ let here : place - 1 ≡ k = omega arith in
          let there : place ≡ k + 1 = omega arith in
          let first : a ≡ get_or rows k d = at ∙ get_or_default rows (place - 1) a d (omega arith) ∙ ap (λ n. get_or rows n d) here in
          let second : b ≡ get_or rows (k + 1) d = next ∙ get_or_default rows place b d inside ∙ ap (λ n. get_or rows n d) there in
          subst (IsBeforeWithGap (get_or rows k d)) second (subst (λ r. IsBeforeWithGap r b) first gap)
    ]

-- a row with a gap before the next one is before each later one
gaps_far :
    (rows : List PeriodRow) → GapsBelow rows (length rows) → (i m : ℕ) (d : PeriodRow) → i + m + 1 < length rows
    → IsBeforeWithGap (get_or rows i d) (get_or rows (i + m + 1) d)
gaps_far rows below i zero d h =
    let here : i + 0 ≡ i = omega arith in
    subst (λ k. IsBeforeWithGap (get_or rows i d) (get_or rows (k + 1) d)) (sym here) (below i d (omega arith))
gaps_far rows below i (suc m) d h =
    let next : i + m + 1 ≡ i + suc m = omega arith in
    gap-trans (get_or rows i d) (get_or rows (i + m + 1) d) (get_or rows (i + suc m + 1) d) (gaps_far rows below i m d (omega arith))
    (subst (λ k. IsBeforeWithGap (get_or rows k d) (get_or rows (i + suc m + 1) d)) (sym next) (below (i + suc m) d (omega arith)))

pub gaps_from_neighbours : (rows : List PeriodRow) → GapsBelow rows (length rows) → HasGaps rows
gaps_from_neighbours rows below i j d lt inside = pair j lt inside where
  pair : (j : ℕ) → i < j → j < length rows → IsBeforeWithGap (get_or rows i d) (get_or rows j d)
  pair zero lt inside = absurd (omega arith)
  pair (suc j) lt inside =
      let is : i + (suc j - i - 1) + 1 ≡ suc j = omega arith in
      subst (λ k. IsBeforeWithGap (get_or rows i d) (get_or rows k d)) is (gaps_far rows below i (suc j - i - 1) d (omega arith))

-- a pair of neighbours without a gap
pub gaps_not :
    (rows : List PeriodRow) (place : ℕ) (a b : PeriodRow) → 1 ≤ place → place < length rows
    → a ≡ get_or rows (place - 1) a → b ≡ get_or rows place b → (IsBeforeWithGap a b → ⊥) → HasGaps rows → ⊥
gaps_not rows place a b some inside at next none gaps =
    let second : b ≡ get_or rows place a = next ∙ get_or_default rows place b a inside in
    none (subst (IsBeforeWithGap a) (sym second) (subst (λ r. IsBeforeWithGap r (get_or rows place a)) (sym at) (gaps (place - 1) place a (omega arith) inside)))

-- each row of a list with gaps begins anew
pub anew_from_gaps :
    (rows : List PeriodRow) (place : ℕ) (row : PeriodRow) → slice_get rows place ≡ Some row → HasGaps rows
    → BeginsAnew rows place row
anew_from_gaps rows place row there gaps =
    let inside : place < length rows = slice_get_within rows place row there in
    let at : get_or rows place row ≡ row = same_Some (get_or rows place row) row (sym (slice_get-get_or rows place row inside) ∙ there) in
    let long : row.period.start <ℤ row.period.end = row.period.ordered in
    record {
      absent_before = λ h.
          let (other, (k, below, is), v, (from, to)) = held rows (row.period.start -ℤ pos 1) row.values h in
          let named : get_or rows k row ≡ other = get_or_default rows k row other below ∙ is in
          elim (cases_lt k place) [
            | inl before ↦ let gap : IsBeforeWithGap other row = subst (λ r. IsBeforeWithGap r row) named (subst (IsBeforeWithGap (get_or rows k row)) at (gaps k place row before inside)) in
                let ends : other.period.end <ℤ row.period.start = gap.1 v in
                omega (arith, ints)
            | inr not_before ↦ elim (cases_lt place k) [
              | inl after ↦ let gap : IsBeforeWithGap row other = subst (IsBeforeWithGap row) named (subst (λ r. IsBeforeWithGap r (get_or rows k row)) at (gaps place k row after below)) in
                  let ends : row.period.end <ℤ other.period.start = gap.1 (sym v) in
                  omega (arith, ints)
              | inr not_after ↦ let one : k ≡ place = omega arith in
                  let same : other ≡ row = sym named ∙ ap (λ n. get_or rows n row) one ∙ at in
                  let starts : other.period.start ≡ row.period.start = ap (λ (r : PeriodRow). r.period.start) same in
                  omega (arith, ints)
            ]
          ];
      first = λ h.
          let (other, (k, below, is), same) = h in
          let short = length-take-le place rows (omega arith) in
          let before : k < place = omega arith in
          let named : get_or rows k row ≡ other = get_or_default rows k row other (omega arith) ∙ sym (get_or-take place rows k other before) ∙ is in
          let gap : IsBeforeWithGap other row = subst (λ r. IsBeforeWithGap r row) named (subst (IsBeforeWithGap (get_or rows k row)) at (gaps k place row before inside)) in
          let ends : other.period.end <ℤ row.period.start = gap.1 same.0 in
          let starts : other.period.start ≡ row.period.start = same.1 in
          let other_long : other.period.start <ℤ other.period.end = other.period.ordered in
          omega (arith, ints);
    }

-- A certified list is the shortest of its snapshots, and the only one of its length.
use Rattle.std.proofs.Common.{◌≡◌, ◌≤◌, ◌<ℤ◌, ◌-ℤ◌, pos, List, length, get_or, refl, sym, ◌∙◌, ap, subst, inl, inr, arith}
use Rattle.std.specs.List.{Contains}
use Rattle.std.specs.List.Sorted.{IsPermutation}
use Rattle.std.proofs.lemmas.Int.{ints, by_lt_z}
use Rattle.std.proofs.lemmas.List.{get_or_default}
use Rattle.std.proofs.lemmas.List.Sorted.{Contains-permutation}
use Rattle.std.specs.declared.cmp.Ordering.TheVariants.{Less}
use Rattle.std.proofs.lemmas.Bool.{cases_lt}
use Rattle.period_core.proofs.Periods.{row_same}
use Rattle.period_core.specs.declared.row.PeriodRow.{PeriodRow}
use Rattle.temporal_model.specs.Snapshot.{InSnapshot, Equivalent}
use Rattle.temporal_model.specs.Answer.{IsShortest, IsUniqueUpToOrder, IsInAnswerOrder, IsCertified, SameBeginning, answer_cmp}
use Rattle.temporal_model.proofs.AnswerOrder.{strictly}
use Rattle.temporal_model.proofs.Members.{pigeonhole, onto, permutation_from_members, same_from_members}
use Rattle.temporal_model.proofs.Snapshots.{InSnapshot-start, held, in_snapshot}

-- each row has a row of an equivalent list with the same values and first day
pub begins_in :
    (rows others : List PeriodRow) → IsCertified rows → Equivalent rows others → (row : PeriodRow)
    → Contains rows row → (other : PeriodRow) × Contains others other × SameBeginning row other
begins_in rows others certified same row c =
    let (other, inside, values, (from, to)) = held others row.period.start row.values ((same row.period.start row.values).0 (InSnapshot-start rows row c)) in (
      other,
      inside,
      (
        sym values,
        by_lt_z {P = row.period.start ≡ other.period.start} other.period.start row.period.start
            (λ before. absurd (certified.absent_before row c ((same (row.period.start -ℤ pos 1) row.values).1 (in_snapshot others (row.period.start -ℤ pos 1) row.values (other, inside, values, (omega (arith, ints), omega (arith, ints)))))))
            (λ after. omega (arith, ints)),
      ),
    )

-- a certified list is a shortest one
pub shortest : (rows : List PeriodRow) → IsCertified rows → IsShortest rows
shortest rows certified others same =
    pigeonhole SameBeginning rows others (begins_in rows others certified same)
    (λ i j d lt below other a b. certified.distinct i j d lt below (a.0 ∙ sym b.0, a.1 ∙ sym b.1))

-- two rows of a certified list with one beginning are one row
pub same_row :
    (rows : List PeriodRow) → IsCertified rows → (a b : PeriodRow) → Contains rows a
    → Contains rows b → SameBeginning a b → a ≡ b
same_row rows certified a b (i, in_i, at_i) (j, in_j, at_j) same =
    let value_i : get_or rows i b ≡ a = get_or_default rows i b a in_i ∙ at_i in
    elim (cases_lt i j) [
      | inl before ↦ absurd (certified.distinct i j b before in_j (subst (λ x. SameBeginning x (get_or rows j b)) (sym value_i) (subst (SameBeginning a) (sym at_j) same)))
      | inr not_before ↦ elim (cases_lt j i) [
        | inl after ↦ absurd (certified.distinct j i b after in_i (subst (SameBeginning (get_or rows j b)) (sym value_i) (subst (λ x. SameBeginning x a) (sym at_j) (sym same.0, sym same.1))))
        | inr not_after ↦ let k : i ≡ j = omega arith in sym value_i ∙ ap (λ n. get_or rows n b) k ∙ at_j
      ]
    ]

-- in a certified list a row's values are absent on its end
pub absent_at_end :
    (rows : List PeriodRow) → IsCertified rows → (row : PeriodRow) → Contains rows row
    → InSnapshot rows row.period.end row.values → ⊥
absent_at_end rows certified row c h =
    let (other, inside, values, (from, to)) = held rows row.period.end row.values h in
    let first : row.period.start <ℤ row.period.end = row.period.ordered in
    by_lt_z {P = ⊥} row.period.start other.period.start
    (λ later. certified.absent_before other inside (in_snapshot rows (other.period.start -ℤ pos 1) other.values (row, c, sym values, (omega (arith, ints), omega (arith, ints)))))
    (λ upto. by_lt_z {P = ⊥} other.period.start row.period.start
    (λ earlier. certified.absent_before row c (in_snapshot rows (row.period.start -ℤ pos 1) row.values (other, inside, values, (omega (arith, ints), omega (arith, ints)))))
    (λ from_there. let starts : row.period.start ≡ other.period.start = omega (arith, ints) in
    let one : row ≡ other = same_row rows certified row other c inside (sym values, starts) in
    let ends : row.period.end ≡ other.period.end = ap (λ (r : PeriodRow). r.period.end) one in
    omega (arith, ints)))

-- each row of an equivalent list that is no longer begins as some row of the certified list
pub begins_back :
    (rows others : List PeriodRow) → IsCertified rows → Equivalent rows others
    → length others ≤ length rows → (other : PeriodRow) → Contains others other
    → (row : PeriodRow) × Contains rows row × SameBeginning row other
begins_back rows others certified same short =
    onto SameBeginning rows others (begins_in rows others certified same)
    (λ i j d lt below other a b. certified.distinct i j d lt below (a.0 ∙ sym b.0, a.1 ∙ sym b.1)) short

-- an equivalent list that is no longer has each row of the certified list
pub inside_equivalent :
    (rows others : List PeriodRow) → IsCertified rows → Equivalent rows others
    → length others ≤ length rows → (row : PeriodRow) → Contains rows row → Contains others row
inside_equivalent rows others certified same short row c =
    let first : row.period.start <ℤ row.period.end = row.period.ordered in
    let last : InSnapshot rows (row.period.end -ℤ pos 1) row.values = in_snapshot rows (row.period.end -ℤ pos 1) row.values (row, c, refl, (omega (arith, ints), omega (arith, ints))) in
    let (other, inside, values, (from, to)) = held others (row.period.end -ℤ pos 1) row.values ((same (row.period.end -ℤ pos 1) row.values).0 last) in
    let (mine, mine_in, begins) = begins_back rows others certified same short other inside in
    let mine_values : mine.values ≡ row.values = begins.0 ∙ values in
    let starts : row.period.start ≡ other.period.start =
    by_lt_z {P = row.period.start ≡ other.period.start} row.period.start other.period.start
    (λ later. absurd (certified.absent_before mine mine_in (in_snapshot rows (mine.period.start -ℤ pos 1) mine.values (row, c, sym mine_values, (omega (arith, ints, begins.1), omega (arith, ints, begins.1))))))
    (λ upto. by_lt_z {P = row.period.start ≡ other.period.start} other.period.start row.period.start
    (λ earlier. absurd (certified.absent_before row c ((same (row.period.start -ℤ pos 1) row.values).1 (in_snapshot others (row.period.start -ℤ pos 1) row.values (other, inside, values, (omega (arith, ints), omega (arith, ints)))))))
    (λ from_there. omega (arith, ints))) in
    let ends : row.period.end ≡ other.period.end =
    by_lt_z {P = row.period.end ≡ other.period.end} row.period.end other.period.end
    (λ longer. absurd (absent_at_end rows certified row c ((same row.period.end row.values).1 (in_snapshot others row.period.end row.values (other, inside, values, (omega (arith, ints), longer))))))
    (λ upto. omega (arith, ints)) in
    subst (Contains others) (row_same other row values (sym starts) (sym ends)) inside

-- an equivalent list of the same length is the certified list in another order
pub unique : (rows : List PeriodRow) → IsCertified rows → IsUniqueUpToOrder rows
unique rows certified others same lengths =
    permutation_from_members rows others (inside_equivalent rows others certified same (omega arith))
    (λ i j d lt below equal. certified.distinct i j d lt below (ap (λ (r : PeriodRow). r.values) equal, ap (λ (r : PeriodRow). r.period.start) equal)) (omega arith)

-- two certified answers with the same snapshots have the same rows
pub same_rows :
    (rows others : List PeriodRow) → IsCertified rows → IsInAnswerOrder rows → IsShortest others
    → IsInAnswerOrder others → Equivalent rows others → rows ≡ others
same_rows rows others certified up short down same =
    let back : Equivalent others rows = λ day vs. ((same day vs).1, (same day vs).0) in
    let no_longer : length others ≤ length rows = short rows back in
    let no_shorter : length rows ≤ length others = shortest rows certified others same in
    let moved : IsPermutation others rows = unique rows certified others same (omega arith) in
    same_from_members (λ a b. answer_cmp a b ≡ Less) strictly rows others up down
    (inside_equivalent rows others certified same no_longer) (λ row c. Contains-permutation others rows row moved c)

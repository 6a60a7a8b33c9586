-- Worked rows: a row holds on its first day and not on its end; two rows that meet are not the shortest list, joined they are.
use Rattle.std.proofs.Common.{◌≡◌, ◌-ℤ◌, ◌≤◌, true, ℤ, pos, [], ◌∷◌, ap, refl, ◌∙◌, inl, inr, arith}
use Rattle.std.proofs.lemmas.Int.{ints, by_lt_z}
use Rattle.period_core.proofs.Periods.{are_ends, period_over}
use Rattle.period_core.specs.declared.value.Value.TheVariants.{Int}
use Rattle.period_core.specs.declared.row.PeriodRow.{PeriodRow}
use Rattle.temporal_model.specs.Snapshot.{InSnapshot, Equivalent}
use Rattle.temporal_model.specs.Answer.{IsShortest, IsCertified}
use Rattle.temporal_model.proofs.Members.{Contains-here, Contains-there, Contains-nil, Contains-one, Contains-cons_cases}
use Rattle.temporal_model.proofs.Certificate.{shortest}
use Rattle.temporal_model.proofs.Snapshots.{HoldsOn, held, in_snapshot}

abbrev seven_over : (start end : ℤ) → are_ends start end ≡ true → PeriodRow
seven_over start end ends = record { values = Int (pos 7) ∷ []; period = period_over start end ends }

-- the value 7 from day 1 to day 3, from day 3 to day 5, and from day 1 to day 5
abbrev early : PeriodRow
early = seven_over (pos 1) (pos 3) refl

abbrev late : PeriodRow
late = seven_over (pos 3) (pos 5) refl

abbrev whole : PeriodRow
whole = seven_over (pos 1) (pos 5) refl

first_day-holds : InSnapshot (early ∷ []) (pos 1) (Int (pos 7) ∷ [])
first_day-holds = Contains-here (Int (pos 7) ∷ []) []

end-not_held : InSnapshot (early ∷ []) (pos 3) (Int (pos 7) ∷ []) → ⊥
end-not_held h = Contains-nil (Int (pos 7) ∷ []) h

two-one : Equivalent (early ∷ late ∷ []) (whole ∷ [])
two-one day values = (
  λ h.
      let (row, c, v, (from, to)) = held (early ∷ late ∷ []) day values h in
      in_snapshot (whole ∷ []) day values
      (elim (Contains-cons_cases early (late ∷ []) row c) [
        | inl e ↦ let starts : pos 1 ≡ row.period.start = ap (λ (r : PeriodRow). r.period.start) e in
            let ends : pos 3 ≡ row.period.end = ap (λ (r : PeriodRow). r.period.end) e in
            (whole, Contains-here whole [], ap (λ (r : PeriodRow). r.values) e ∙ v, (omega (arith, ints), omega (arith, ints)))
        | inr k ↦ let e : late ≡ row = Contains-one late row k in
            let starts : pos 3 ≡ row.period.start = ap (λ (r : PeriodRow). r.period.start) e in
            let ends : pos 5 ≡ row.period.end = ap (λ (r : PeriodRow). r.period.end) e in
            (whole, Contains-here whole [], ap (λ (r : PeriodRow). r.values) e ∙ v, (omega (arith, ints), omega (arith, ints)))
      ]),
  λ h.
      let (row, c, v, (from, to)) = held (whole ∷ []) day values h in
      let e : whole ≡ row = Contains-one whole row c in
      let starts : pos 1 ≡ row.period.start = ap (λ (r : PeriodRow). r.period.start) e in
      let ends : pos 5 ≡ row.period.end = ap (λ (r : PeriodRow). r.period.end) e in
      let mine : Int (pos 7) ∷ [] ≡ values = ap (λ (r : PeriodRow). r.values) e ∙ v in
      in_snapshot (early ∷ late ∷ []) day values
      (by_lt_z {P = HoldsOn (early ∷ late ∷ []) day values} day (pos 3)
      (λ before. (early, Contains-here early (late ∷ []), mine, (omega (arith, ints), before)))
      (λ after. (late, Contains-there early (late ∷ []) late (Contains-here late []), mine, (after, omega (arith, ints))))),
)

meeting-not_shortest : IsShortest (early ∷ late ∷ []) → ⊥
meeting-not_shortest short = let fewer : 2 ≤ 1 = short (whole ∷ []) two-one in omega arith

whole-certified : IsCertified (whole ∷ [])
whole-certified = record {
  absent_before = λ row c h.
      let (other, k, v, (from, to)) = held (whole ∷ []) (row.period.start -ℤ pos 1) row.values h in
      let starts : pos 1 ≡ row.period.start = ap (λ (r : PeriodRow). r.period.start) (Contains-one whole row c) in
      let first : pos 1 ≡ other.period.start = ap (λ (r : PeriodRow). r.period.start) (Contains-one whole other k) in
      omega (arith, ints);
  distinct = λ i j d lt below same. omega arith;
}

joined-shortest : IsShortest (whole ∷ [])
joined-shortest = shortest (whole ∷ []) whole-certified

-- Witnesses and certificates: each gives the other.
use Rattle.std.proofs.Common.{◌≡◌, ◌↔◌, ◌-ℤ◌, ℤ, pos, List, map, get_or, refl, ◌∙◌, subst}
use Rattle.std.specs.List.{Contains}
use Rattle.std.specs.Ordering.{int_cmp}
use Rattle.std.specs.declared.cmp.Ordering.TheVariants.{Less, Equal}
use Rattle.std.proofs.lemmas.Cmp.{tied_itself, int_cmp_total}
use Rattle.period_core.specs.declared.value.Value.{Value}
use Rattle.period_core.specs.declared.row.PeriodRow.{PeriodRow}
use Rattle.temporal_model.specs.Snapshot.{InSnapshot}
use Rattle.temporal_model.specs.Answer.{IsInAnswerOrder, IsCertified, answer_cmp}
use Rattle.temporal_model.specs.Witness.{IsWitness, WitnessEachRow, witness_of}
use Rattle.temporal_model.proofs.AnswerOrder.{answer_cmp-same}
use Rattle.temporal_model.proofs.Members.{AllZip-map}
use Rattle.temporal_model.proofs.Snapshots.{InSnapshot-start}

-- a list in order is certified if each row has a witness against daily sets that are its snapshots
pub certified_by_witnesses :
    (sets : ℤ → List Value → Type 0) (rows : List PeriodRow) → IsInAnswerOrder rows
    → ((day : ℤ) (values : List Value) → InSnapshot rows day values → sets day values)
    → ((row : PeriodRow) → Contains rows row → IsWitness sets row (witness_of row))
    → IsCertified rows
certified_by_witnesses sets rows up into witnessed = record {
  absent_before = λ row c held. (witnessed row c).absent (into (row.period.start -ℤ pos 1) row.values held);
  distinct = λ i j d lt below same.
      let a : PeriodRow = get_or rows i d in
      let b : PeriodRow = get_or rows j d in
      let before : answer_cmp a b ≡ Less = up i j d lt below in
      let tie : int_cmp a.period.start b.period.start ≡ Equal = subst (λ n. int_cmp a.period.start n ≡ Equal) same.1 (tied_itself int_cmp_total a.period.start) in
      let level : answer_cmp a b ≡ Equal = answer_cmp-same a b same.0 ∙ tie in
      cc;
}

-- a row of a certified list has its witness against daily sets that are the list's snapshots
pub witness_of_certified :
    (sets : ℤ → List Value → Type 0) (rows : List PeriodRow) → IsCertified rows
    → ((day : ℤ) (values : List Value) → (InSnapshot rows day values ↔ sets day values))
    → (row : PeriodRow) → Contains rows row → IsWitness sets row (witness_of row)
witness_of_certified sets rows certified same row c = record {
  days = refl;
  held = (same row.period.start row.values).0 (InSnapshot-start rows row c);
  absent = λ held. certified.absent_before row c ((same (row.period.start -ℤ pos 1) row.values).1 held);
}

-- each row of a certified list has its witness against daily sets that are the list's snapshots
pub witnessed_by_sets :
    (sets : ℤ → List Value → Type 0) (rows : List PeriodRow) → IsCertified rows
    → ((day : ℤ) (values : List Value) → (InSnapshot rows day values ↔ sets day values))
    → WitnessEachRow sets rows (map witness_of rows)
witnessed_by_sets sets rows certified same = AllZip-map (IsWitness sets) witness_of rows (witness_of_certified sets rows certified same)

-- each row of a certified list is witnessed against the list's own snapshots
pub witnessed :
    (rows : List PeriodRow) → IsCertified rows
    → WitnessEachRow (InSnapshot rows) rows (map witness_of rows)
witnessed rows certified = witnessed_by_sets (InSnapshot rows) rows certified (λ day values. (λ h. h, λ h. h))

-- Sound rows make a certified list, and the first row that is not sound is the fault.
use Rattle.std.proofs.Common.{◌≡◌, ◌≤ℤ◌, ℤ, ℕ, suc, ◌+◌, ◌<◌, ◌≤◌, List, [], ◌∷◌, length, map, take, get_or, Some, None, Bool, true, false, not, refl, sym, ◌∙◌, ap, subst, inl, inr, arith}
use Rattle.std.specs.List.{Contains, slice_get}
use Rattle.std.proofs.lemmas.Bool.{cases_lt}
use Rattle.std.proofs.lemmas.Option.{slice_get-get_or, same_Some}
use Rattle.std.proofs.lemmas.List.{get_or-take, get_or_default, length-take-le}
use Rattle.std.proofs.lemmas.Int.{ints}
use Rattle.period_core.specs.declared.value.Value.{Value}
use Rattle.period_core.specs.declared.row.PeriodRow.{PeriodRow}
use Rattle.period_core.specs.declared.answer.Witness.{Witness}
use Rattle.temporal_model.specs.Snapshot.{InSnapshot}
use Rattle.temporal_model.specs.Answer.{IsCertified}
use Rattle.temporal_model.specs.Witness.{witness_of, WitnessEachRow}
use Rattle.temporal_model.proofs.Snapshots.{held, in_snapshot}
use Rattle.temporal_model.proofs.Witnesses.{witnessed}
use Rattle.snapshot_audit.specs.Faults.{IsSound, SoundBelow, IsFirstFault}

pub first_fault :
    (rows : List PeriodRow) (ws : List Witness) (place : ℕ) (row : PeriodRow) → slice_get rows place ≡ Some row
    → (IsSound rows ws place row → ⊥) → SoundBelow rows ws place → IsFirstFault rows ws (place + 1)
first_fault rows ws place row at unsound below =
    record { place = place; counted = refl; before = below; fault = inl (row, at, unsound) }

pub spare_fault :
    (rows : List PeriodRow) (ws : List Witness) → length rows < length ws → SoundBelow rows ws (length rows)
    → IsFirstFault rows ws (length rows + 1)
spare_fault rows ws more below =
    record { place = length rows; counted = refl; before = below; fault = inr (refl, more) }

pub sound_more :
    (rows : List PeriodRow) (ws : List Witness) (place : ℕ) (row : PeriodRow) → slice_get rows place ≡ Some row
    → IsSound rows ws place row → SoundBelow rows ws place → SoundBelow rows ws (place + 1)
sound_more rows ws place row at sound below k r h is =
    elim (cases_lt k place) [
      | inl before ↦ below k r before is
      | inr ge ↦ let here : place ≡ k = omega arith in
          let one : row ≡ r = same_Some row r (sym at ∙ ap (slice_get rows) here ∙ is) in
          subst (λ n. IsSound rows ws n r) here (subst (IsSound rows ws place) one sound)
    ]

pub certified_from_sound :
    (rows : List PeriodRow) (ws : List Witness) → SoundBelow rows ws (length rows) → IsCertified rows
certified_from_sound rows ws all = record {
  absent_before = λ row c. (all c.0 row c.1 (slice_get-get_or rows c.0 row c.1 ∙ ap Some c.2)).anew.absent_before;
  distinct = λ i j d lt below same.
      let earlier : Contains (take j rows) (get_or rows i d) =
      (i, omega (arith, length-take-le j rows), get_or-take j rows i (get_or rows i d) lt ∙ get_or_default rows i (get_or rows i d) d (omega arith)) in
      (all j (get_or rows j d) below (slice_get-get_or rows j d below)).anew.first (get_or rows i d, earlier, same);
}

-- the witnesses are the rows' witnesses, if there are no spare ones
pub witnesses_from_sound :
    (rows : List PeriodRow) (ws : List Witness) → SoundBelow rows ws (length rows) → length ws ≤ length rows
    → ws ≡ map witness_of rows
witnesses_from_sound rows ws all short =
    let each : (k : ℕ) (d : PeriodRow) → k < length rows → slice_get ws k ≡ Some (witness_of (get_or rows k d)) =
    λ k d h. (all k (get_or rows k d) h (slice_get-get_or rows k d h)).witness in
    same_witnesses rows ws each short where
      same_witnesses : (rs : List PeriodRow) (vs : List Witness) → ((k : ℕ) (d : PeriodRow) → k < length rs → slice_get vs k ≡ Some (witness_of (get_or rs k d))) → length vs ≤ length rs → vs ≡ map witness_of rs
      same_witnesses [] [] each short = refl
      same_witnesses [] (v ∷ vs) each short = absurd (omega arith)
      same_witnesses (r ∷ rs) [] each short = absurd (let wrong : None ≡ Some (witness_of r) = each 0 r (omega arith) in cc)
      same_witnesses (r ∷ rs) (v ∷ vs) each short =
          let head : v ≡ witness_of r = same_Some v (witness_of r) (each 0 r (omega arith)) in
          let tail : vs ≡ map witness_of rs = same_witnesses rs vs (λ k d h. each (suc k) d (omega arith)) (omega arith) in
          cc

-- each row has its witness against the list's own snapshots
pub witnessed_from_sound :
    (rows : List PeriodRow) (ws : List Witness) → SoundBelow rows ws (length rows) → length ws ≤ length rows
    → WitnessEachRow (InSnapshot rows) rows ws
witnessed_from_sound rows ws all short =
    subst (WitnessEachRow (InSnapshot rows) rows) (sym (witnesses_from_sound rows ws all short))
    (witnessed rows (certified_from_sound rows ws all))

pub not_true : (b : Bool) → (b ≡ true → ⊥) → not b ≡ true
not_true true h = absurd (h refl)
not_true false h = refl

-- values that are held on a day are held on an equal day
pub held_then :
    (rows : List PeriodRow) (values : List Value) {a b : ℤ} → InSnapshot rows a values → a ≤ℤ b → b ≤ℤ a
    → InSnapshot rows b values
held_then rows values {a} {b} h up down =
    let (row, c, v, (from, to)) = held rows a values h in
    in_snapshot rows b values (row, c, v, (omega (arith, ints), omega (arith, ints)))

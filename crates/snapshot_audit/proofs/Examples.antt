-- Worked rows: the value 7 over a few days, faults of witnesses, change days, a first difference.
use Rattle.std.proofs.Common.{◌≡◌, true, ℕ, ℤ, pos, neg_ℤ, List, [], ◌∷◌, ap, codes, refl, sym, ◌∙◌, subst, inl, inr, arith}
use Rattle.std.specs.List.{Contains}
use Rattle.std.proofs.lemmas.Int.{ints}
use Rattle.period_core.proofs.Periods.{are_ends, period_over}
use Rattle.period_core.specs.declared.value.Value.{Value}
use Rattle.period_core.specs.declared.value.Value.TheVariants.{Int}
use Rattle.period_core.specs.declared.row.PeriodRow.{PeriodRow}
use Rattle.period_core.specs.declared.answer.Witness.{Witness}
use Rattle.period_core.specs.declared.window.Window.TheVariants.{Now}
use Rattle.sql_statements.specs.declared.tree.SetOperator.TheVariants.{Except}
use Rattle.temporal_model.specs.Snapshot.{InSnapshot}
use Rattle.temporal_model.specs.Witness.{witness_of}
use Rattle.temporal_model.proofs.Members.{Contains-here, Contains-there, Contains-nil, Contains-one, Contains-cons_cases}
use Rattle.temporal_model.proofs.Snapshots.{held, in_snapshot}
use Rattle.catalog_core.specs.declared.query.resolved.Select.{Select}
use Rattle.catalog_core.specs.declared.table.ValueKind.TheVariants.{Integer}
use Rattle.catalog_core.specs.query.Queries.{both, one}
use Rattle.snapshot_audit.specs.ChangeDays.{IsChangeDay, seen_lists}
use Rattle.snapshot_audit.specs.Faults.{IsSound, SoundBelow, IsFirstFault, IsFaultless}
use Rattle.snapshot_audit.specs.Sets.{ListsSet}
use Rattle.snapshot_audit.specs.Verdicts.{IsFirstDifference}
use Rattle.snapshot_audit.proofs.Sound.{sound_more}

abbrev seven : List Value
seven = Int (pos 7) ∷ []

abbrev seven_over : (start end : ℤ) → are_ends start end ≡ true → PeriodRow
seven_over start end ends = record { values = seven; period = period_over start end ends }

-- rows from day 1 to day 3, from day 3 to day 5, from day 1 to day 5, from day 1 to day 9
abbrev early : PeriodRow
early = seven_over (pos 1) (pos 3) refl

abbrev late : PeriodRow
late = seven_over (pos 3) (pos 5) refl

abbrev whole : PeriodRow
whole = seven_over (pos 1) (pos 5) refl

abbrev long : PeriodRow
long = seven_over (pos 1) (pos 9) refl

-- ---- faults

nothing_below : (rows : List PeriodRow) (ws : List Witness) → SoundBelow rows ws 0
nothing_below rows ws k r h is = absurd (omega arith)

-- the first row is sound: nothing is held on day 0
whole-sound : (ws : List Witness) → IsSound (whole ∷ []) (witness_of whole ∷ ws) 0 whole
whole-sound ws = record {
  witness = refl;
  anew = record {
    absent_before = λ h. Contains-nil seven h;
    first = λ h. Contains-nil h.0 h.1;
  };
}

one-faultless : IsFaultless (whole ∷ []) (witness_of whole ∷ [])
one-faultless = record {
  sound = sound_more (whole ∷ []) (witness_of whole ∷ []) 0 whole refl (whole-sound []) (nothing_below (whole ∷ []) (witness_of whole ∷ []));
  spare = omega arith;
}

-- with one witness more the number is the number of rows plus 1
spare-counted : IsFirstFault (whole ∷ []) (witness_of whole ∷ witness_of whole ∷ []) 2
spare-counted = record {
  place = 1;
  counted = refl;
  before = sound_more (whole ∷ []) (witness_of whole ∷ witness_of whole ∷ []) 0 whole refl (whole-sound (witness_of whole ∷ [])) (nothing_below (whole ∷ []) (witness_of whole ∷ witness_of whole ∷ []));
  fault = inr (refl, omega arith);
}

early-sound : (other : PeriodRow) → (InSnapshot (early ∷ other ∷ []) (pos 0) seven → ⊥)
    → IsSound (early ∷ other ∷ []) (witness_of early ∷ witness_of other ∷ []) 0 early
early-sound other none = record {
  witness = refl;
  anew = record {
    absent_before = none;
    first = λ h. Contains-nil h.0 h.1;
  };
}

-- two rows that begin on one day: the second is at fault
begin_together-counted : IsFirstFault (early ∷ whole ∷ []) (witness_of early ∷ witness_of whole ∷ []) 2
begin_together-counted = record {
  place = 1;
  counted = refl;
  before = sound_more (early ∷ whole ∷ []) (witness_of early ∷ witness_of whole ∷ []) 0 early refl (early-sound whole (λ h. Contains-nil seven h)) (nothing_below (early ∷ whole ∷ []) (witness_of early ∷ witness_of whole ∷ []));
  fault = inl (whole, refl, λ sound. sound.anew.first (early, Contains-here early [], (refl, refl)));
}

-- two rows that meet: the values of the second are held on the day before it
meeting-counted : IsFirstFault (early ∷ late ∷ []) (witness_of early ∷ witness_of late ∷ []) 2
meeting-counted = record {
  place = 1;
  counted = refl;
  before = sound_more (early ∷ late ∷ []) (witness_of early ∷ witness_of late ∷ []) 0 early refl (early-sound late (λ h. Contains-nil seven h)) (nothing_below (early ∷ late ∷ []) (witness_of early ∷ witness_of late ∷ []));
  fault = inl (late, refl, λ sound. sound.anew.absent_before (Contains-here seven []));
}

-- ---- sets

-- values that two rows hold are once in the set
held_twice-once : ListsSet (InSnapshot (early ∷ whole ∷ []) (pos 2)) (seven ∷ [])
held_twice-once = record {
  ascending = λ i j d lt below. absurd (omega arith);
  members = λ values. (
    λ h. Contains-there seven (seven ∷ []) values h,
    λ h. elim (Contains-cons_cases seven (seven ∷ []) values h) [
      | inl is ↦ subst (Contains (seven ∷ [])) is (Contains-here seven [])
      | inr more ↦ more
    ],
  );
}

-- ---- days

-- SELECT DISTINCT DEPT, from the list in this place
abbrev department : ℕ → Select
department place = record {
  references = record { place = place; table = 1; window = Now; kinds = Integer ∷ [] } ∷ [];
  conjuncts = [];
  items = record { position = 0; name = codes "DEPT" } ∷ [];
}

-- the audit looks at the rows of both lists of a difference
both_lists-seen : seen_lists (both Except (one (department 0)) (one (department 1))) ((long ∷ []) ∷ (early ∷ []) ∷ []) ≡ (long ∷ []) ∷ (early ∷ []) ∷ []
both_lists-seen = refl

-- the day on which a row ends is one of change
end-change_day : IsChangeDay ((whole ∷ []) ∷ []) (pos 5)
end-change_day = inr (whole ∷ [], Contains-here (whole ∷ []) [], (whole, Contains-here whole [], inr refl))

-- a day within the row is no day of change
within-no_change_day : IsChangeDay ((whole ∷ []) ∷ []) (pos 3) → ⊥
within-no_change_day (inl is) = let first : neg_ℤ (pos 719_162) ≡ pos 3 = is in omega (arith, ints)
within-no_change_day (inr (rows, c, (row, inside, ends))) =
    let one : whole ≡ row = Contains-one whole row (subst (λ l. Contains l row) (sym (Contains-one (whole ∷ []) rows c)) inside) in
    elim ends [
      | inl is ↦ let start : pos 1 ≡ pos 3 = ap (λ (r : PeriodRow). r.period.start) one ∙ is in omega (arith, ints)
      | inr is ↦ let end : pos 5 ≡ pos 3 = ap (λ (r : PeriodRow). r.period.end) one ∙ is in omega (arith, ints)
    ]

-- an answer that continues for four days more than the table differs first on day 5
long-differs : IsFirstDifference (InSnapshot (whole ∷ [])) (long ∷ []) (pos 5)
long-differs = record {
  is_day = (omega (arith, ints), omega (arith, ints));
  differs = λ agrees. Contains-nil seven ((agrees seven).0 (Contains-here seven []));
  before = λ earlier is_day less values. (
    λ h.
        let (row, c, v, (from, to)) = held (long ∷ []) earlier values h in
        let one : long ≡ row = Contains-one long row c in
        let starts : pos 1 ≡ row.period.start = ap (λ (r : PeriodRow). r.period.start) one in
        in_snapshot (whole ∷ []) earlier values (whole, Contains-here whole [], ap (λ (r : PeriodRow). r.values) one ∙ v, (omega (arith, ints), less)),
    λ h.
        let (row, c, v, (from, to)) = held (whole ∷ []) earlier values h in
        let one : whole ≡ row = Contains-one whole row c in
        let starts : pos 1 ≡ row.period.start = ap (λ (r : PeriodRow). r.period.start) one in
        in_snapshot (long ∷ []) earlier values (long, Contains-here long [], ap (λ (r : PeriodRow). r.values) one ∙ v, (omega (arith, ints), omega (arith, ints))),
  );
}

-- Worked rows: a row's witness, and the order of an answer.
use Rattle.std.proofs.Common.{◌≡◌, zero, suc, true, ℤ, pos, neg_ℤ, [], ◌∷◌, Option, Some, None, refl, arith}
use Rattle.std.specs.declared.cmp.Ordering.TheVariants.{Less, Greater}
use Rattle.period_core.proofs.Periods.{are_ends, period_over}
use Rattle.period_core.specs.declared.answer.Witness.{Witness}
use Rattle.period_core.specs.declared.value.Value.TheVariants.{Int}
use Rattle.period_core.specs.declared.row.PeriodRow.{PeriodRow}
use Rattle.temporal_model.specs.Snapshot.{InSnapshot}
use Rattle.temporal_model.specs.Answer.{IsInAnswerOrder}
use Rattle.temporal_model.specs.Witness.{IsWitness, witness_of}
use Rattle.temporal_model.proofs.Members.{Contains-here, Contains-nil}

abbrev number_over : (n : ℤ) (start end : ℤ) → are_ends start end ≡ true → PeriodRow
number_over n start end ends = record { values = Int n ∷ []; period = period_over start end ends }

-- the value 7 from day 3 to day 5, from day 5 to day 8, and from day 10 to day 12
abbrev early : PeriodRow
early = number_over (pos 7) (pos 3) (pos 5) refl

abbrev middle : PeriodRow
middle = number_over (pos 7) (pos 5) (pos 8) refl

abbrev late : PeriodRow
late = number_over (pos 7) (pos 10) (pos 12) refl

-- the value 9 from day 1 to day 2
abbrev nine : PeriodRow
nine = number_over (pos 9) (pos 1) (pos 2) refl

-- ---- witnesses

abbrev shown_by : ℤ → Option ℤ → Witness
shown_by held absent = record { held = held; absent = absent }

-- a row that begins on 0001-01-01 has no day before
witness-of_first_day : witness_of (number_over (pos 7) (neg_ℤ (pos 719_162)) (pos 0) refl) ≡ shown_by (neg_ℤ (pos 719_162)) None
witness-of_first_day = refl

-- alone in its list the row is held on day 5, and not on day 4
alone-witnessed : IsWitness (InSnapshot (middle ∷ [])) middle (shown_by (pos 5) (Some (pos 4)))
alone-witnessed = record {
  days = refl;
  held = Contains-here middle.values [];
  absent = λ h. Contains-nil middle.values h;
}

-- if a row with its values ends as it begins, the values are held on day 4 too
met-no_witness : (witness : Witness) → IsWitness (InSnapshot (early ∷ middle ∷ [])) middle witness → ⊥
met-no_witness witness shown =
    shown.absent (Contains-here early.values [])

-- ---- the order of an answer

-- values come before days: 7 from day 5 precedes 9 from day 1
values-before_days : IsInAnswerOrder (middle ∷ nine ∷ [])
values-before_days zero zero d lt below = absurd (omega arith)
values-before_days zero (suc zero) d lt below = refl
values-before_days zero (suc (suc j)) d lt below = absurd (omega arith)
values-before_days (suc i) zero d lt below = absurd (omega arith)
values-before_days (suc i) (suc j) d lt below = absurd (omega arith)

-- the two rows in the other order
other_way_round-not_in_order : IsInAnswerOrder (late ∷ middle ∷ []) → ⊥
other_way_round-not_in_order up = let before : Greater ≡ Less = up 0 1 late (omega arith) (omega arith) in cc

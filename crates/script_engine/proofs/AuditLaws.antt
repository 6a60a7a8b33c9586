-- A sequenced answer gets no verdict but that it agrees.
use Rattle.std.proofs.Common.{◌≡◌, ◌↔◌, ◌<◌, ◌∷◌, ℕ, ℤ, suc, zero, List, [], Some, None, length, get_or, sym, ◌∙◌, ap, subst, inl, inr, arith}
use Rattle.std.specs.List.{slice_get}
use Rattle.std.proofs.lemmas.List.{get_or-take, length-take-le}
use Rattle.std.proofs.lemmas.Option.{get_or_from_slice_get, same_Some, slice_get_within}
use Rattle.std.proofs.lemmas.Slice.Zip.{AllZip-long}
use Rattle.period_core.specs.declared.answer.Answer.{Answer}
use Rattle.period_core.specs.declared.answer.Witness.{Witness}
use Rattle.period_core.specs.declared.row.PeriodRow.{PeriodRow}
use Rattle.period_core.specs.declared.value.Value.{Value}
use Rattle.temporal_model.specs.Answer.{IsCertified, SameBeginning}
use Rattle.temporal_model.specs.Witness.{IsWitness, WitnessEachRow, witness_of}
use Rattle.history_model.specs.OrdinaryQuery.{VisibleInHistory, InAnswerOn, InAnswerOver, VisibleInTables}
use Rattle.history_model.proofs.Visible.{query_seen}
use Rattle.snapshot_audit.specs.ChangeDays.{seen_lists}
use Rattle.snapshot_audit.specs.Faults.{IsFirstFault, IsSound}
use Rattle.snapshot_audit.specs.Verdicts.{IsVerdict}
use Rattle.snapshot_audit.specs.declared.verdict.Verdict.{Verdict}
use Rattle.snapshot_audit.specs.declared.verdict.Verdict.TheVariants.{Agrees, BadWitness, Differs}
use Rattle.script_engine.specs.Headline.{IsSequencedAnswer}
use Rattle.script_engine.specs.engine.Audits.{AuditsAgree, IsAgreement}
use Rattle.script_engine.proofs.AnswerLaws.{certified}

-- each row has its witness in its place
witness_at : (sets : ℤ → List Value → Type 0) (rows : List PeriodRow) (witnesses : List Witness) → WitnessEachRow sets rows witnesses → (place : ℕ) (row : PeriodRow) → slice_get rows place ≡ Some row →
    slice_get witnesses place ≡ Some (witness_of row)
witness_at sets [] witnesses each place row is = absurd (let none : None ≡ Some row = is in cc)
witness_at sets (first ∷ rows) [] each place row is = absurd each
witness_at sets (first ∷ rows) (witness ∷ witnesses) each zero row is =
    ap Some (each.0.days ∙ ap witness_of (same_Some first row is))
witness_at sets (first ∷ rows) (witness ∷ witnesses) each (suc place) row is = witness_at sets rows witnesses each.1 place row is

-- each row of a certified list is sound
sound_at : (sets : ℤ → List Value → Type 0) (rows : List PeriodRow) (witnesses : List Witness) → IsCertified rows → WitnessEachRow sets rows witnesses → (place : ℕ) (row : PeriodRow) → slice_get rows place ≡ Some row →
    IsSound rows witnesses place row
sound_at sets rows witnesses is_certified each place row is =
    let within : place < length rows = slice_get_within rows place row is in
    let here : (d : PeriodRow) → get_or rows place d ≡ row = λ d. get_or_from_slice_get rows place row d is in
    record {
      witness = witness_at sets rows witnesses each place row is;
      anew = record {
        absent_before = is_certified.absent_before row (place, within, here row);
        first = λ (other, (earlier, before, at), same).
            let less : earlier < place = omega (arith, length-take-le place rows) in
            let there : get_or rows earlier other ≡ other = sym (get_or-take place rows earlier other less) ∙ at in
            is_certified.distinct earlier place other less within (subst (λ (r : PeriodRow). SameBeginning (get_or rows earlier other) r) (sym (here other)) (subst (λ (r : PeriodRow). SameBeginning r row) (sym there) same));
      };
    }

-- no row is the first fault, and no witness is spare
no_fault : (sets : ℤ → List Value → Type 0) (rows : List PeriodRow) (witnesses : List Witness) → IsCertified rows → WitnessEachRow sets rows witnesses → (number : ℕ) → IsFirstFault rows witnesses number → ⊥
no_fault sets rows witnesses is_certified each number fault =
    elim fault.fault [
      | inl (row, at, unsound) ↦ unsound (sound_at sets rows witnesses is_certified each fault.place row at)
      | inr (all, more) ↦ let long = AllZip-long (IsWitness sets) rows witnesses each in omega arith
    ]

-- an audit of a sequenced answer over sets that are the same on each day
agrees_over : (sets others : ℤ → List Value → Type 0) (lists : List (List PeriodRow)) (answer : Answer) (verdict : Verdict) → IsSequencedAnswer sets answer → ((day : ℤ) (values : List Value) → (others day values ↔ sets day values)) →
    IsVerdict others lists answer.rows answer.witnesses verdict → IsAgreement verdict
agrees_over sets others lists answer (Agrees days) right same is = tt
agrees_over sets others lists answer (Differs day) right same is =
    absurd (is.differs (λ values. (λ h. (same day values).1 ((right.daily day values).0 h), λ h. (right.daily day values).1 ((same day values).0 h))))
agrees_over sets others lists answer (BadWitness number) right same is =
    absurd (no_fault sets answer.rows answer.witnesses (certified sets answer right) right.witnessed number is.1)

pub audits_agree : AuditsAgree
audits_agree history query answer verdict right tables seen is =
    agrees_over (InAnswerOn history query) (InAnswerOver query tables) (seen_lists query tables) answer verdict right
    (λ day values. query_seen (VisibleInTables tables day) (VisibleInHistory history day) query (λ reference among. seen reference among day) values) is

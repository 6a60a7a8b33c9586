-- The verdict of an audit: an answer that agrees on its change days agrees on all days.
use Rattle.std.proofs.Common.{◌≡◌, ◌∷◌, ℤ, ℕ, List, length, sym, subst}
use Rattle.period_core.specs.declared.value.Value.{Value}
use Rattle.period_core.specs.declared.row.PeriodRow.{PeriodRow}
use Rattle.period_core.specs.declared.answer.Witness.{Witness}
use Rattle.temporal_model.specs.Snapshot.{IsDay}
use Rattle.temporal_model.specs.Answer.{IsCertified}
use Rattle.temporal_model.specs.Witness.{WitnessEachRow}
use Rattle.temporal_model.proofs.Days.{constant_between, InSnapshot-IsDay}
use Rattle.temporal_model.proofs.Certificate.{shortest}
use Rattle.temporal_model.proofs.Witnesses.{witnessed_by_sets}
use Rattle.snapshot_audit.specs.ChangeDays.{AreChangeDays, IsConstantBetween, seen_lists}
use Rattle.snapshot_audit.specs.Faults.{IsFaultless}
use Rattle.catalog_core.specs.query.Queries.{Query, references_of, rows_for}
use Rattle.history_model.specs.OrdinaryQuery.{InAnswerOver, VisibleInTables}
use Rattle.history_model.proofs.Visible.{query_seen}
use Rattle.snapshot_audit.specs.Verdicts.{AgreesAlways, IsConfirmed, SetOnDays}
use Rattle.snapshot_audit.proofs.Zips.{contains_map}
use Rattle.snapshot_audit.proofs.Sound.{certified_from_sound, witnesses_from_sound}

-- between change days the query's sets stay
pub constant_over : (query : Query) (tables : List (List PeriodRow)) → IsConstantBetween (seen_lists query tables) (InAnswerOver query tables)
constant_over query tables first second order none row =
    query_seen (VisibleInTables tables first) (VisibleInTables tables second) query (λ reference c values.
    constant_between (rows_for tables reference) first second order (none (rows_for tables reference) (contains_map (rows_for tables) (references_of query) reference c)) values) row

pub confirmed :
    (InSet : ℤ → List Value → Type 0) (tables : List (List PeriodRow)) (rows : List PeriodRow) (days : List ℤ) (count : ℕ) (witnesses : List Witness)
    → AreChangeDays (rows ∷ tables) days → AgreesAlways InSet rows → IsFaultless rows witnesses → length days ≡ count
    → IsConfirmed InSet tables rows witnesses count
confirmed InSet tables rows days count witnesses are agrees faultless counted =
    let certified : IsCertified rows = certified_from_sound rows witnesses faultless.sound in
    record {
      agrees = agrees;
      shortest = shortest rows certified;
      certified = certified;
      witnessed = subst (WitnessEachRow (SetOnDays InSet) rows) (sym (witnesses_from_sound rows witnesses faultless.sound faultless.spare))
          (witnessed_by_sets (SetOnDays InSet) rows certified (λ day values. (
            λ h. let is_day : IsDay day = InSnapshot-IsDay rows day values h in (is_day, (agrees day is_day values).0 h),
            λ h. (agrees day h.0 values).1 h.1,
          )));
      faultless = faultless;
      days = days;
      change_days = are;
      counted = counted;
    }

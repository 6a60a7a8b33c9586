use Rattle.std.proofs.Common.{◌∷◌, ℤ, List, Option, length, refl, sym, subst}
use Rattle.std.specs.Prelude.{MatchOption}
use Rattle.period_core.specs.declared.value.Value.{Value}
use Rattle.period_core.specs.declared.row.PeriodRow.{PeriodRow}
use Rattle.catalog_core.specs.query.Queries.{Query, plain_query}
use Rattle.history_model.specs.OrdinaryQuery.{InAnswerOver}
use Rattle.snapshot_audit.specs.ChangeDays.{AreChangeDays, seen_lists}
use Rattle.snapshot_audit.specs.Faults.{IsFirstFault, IsFaultless}
use Rattle.snapshot_audit.specs.Verdicts.{AgreesAlways, IsFirstDifference, IsConfirmed}
use Rattle.snapshot_audit.proofs.Verdicts.{confirmed}
use Rattle.snapshot_audit.proofs.answer_audit.audit.Goals as goal

pub returns-in-Some : goal.returns-in-Some
returns-in-Some c =
    let InSet : ℤ → List Value → Type 0 = InAnswerOver (plain_query c.args.query.now) c.args.tables.now in
    let rows : List PeriodRow = c.as_slice-rows.result.now in
    subst (λ rs. IsFirstDifference InSet rs c.in-Some.day) c.as_slice-rows.ensures
    (subst (λ (o : Option ℤ). MatchOption o (AgreesAlways InSet rows) (IsFirstDifference InSet rows)) c.in-Some.is c.in_ok-day.ensures)

pub returns-in-Some-check_witnesses : goal.returns-in-Some-check_witnesses
returns-in-Some-check_witnesses c =
    let InSet : ℤ → List Value → Type 0 = InAnswerOver (plain_query c.args.query.now) c.args.tables.now in
    let rows : List PeriodRow = c.as_slice-rows.result.now in
    let agrees : AgreesAlways InSet rows = subst (λ (o : Option ℤ). MatchOption o (AgreesAlways InSet rows) (IsFirstDifference InSet rows)) c.in-None.is c.in_ok-day.ensures in
    let fault : IsFirstFault rows c.args.answer.now.witnesses c.in-Some-check_witnesses.row = subst (λ ws. IsFirstFault rows ws c.in-Some-check_witnesses.row) c.as_slice.ensures c.in-Some-check_witnesses.ensures.fault in (
      subst (AgreesAlways InSet) c.as_slice-rows.ensures agrees,
      subst (λ rs. IsFirstFault rs c.args.answer.now.witnesses c.in-Some-check_witnesses.row) c.as_slice-rows.ensures fault,
    )

pub returns : goal.returns
returns c =
    let query : Query = plain_query c.args.query.now in
    let tables : List (List PeriodRow) = c.args.tables.now in
    let InSet : ℤ → List Value → Type 0 = InAnswerOver query tables in
    let rows : List PeriodRow = c.as_slice-rows.result.now in
    let days : List ℤ = c.as_slice-days.result.now in
    let are : AreChangeDays (rows ∷ seen_lists query tables) days = subst (AreChangeDays (rows ∷ seen_lists query tables)) (sym c.as_slice-days.ensures.value) c.in_ok-found.ensures in
    let agrees : AgreesAlways InSet rows = subst (λ (o : Option ℤ). MatchOption o (AgreesAlways InSet rows) (IsFirstDifference InSet rows)) c.in-None.is c.in_ok-day.ensures in
    let faultless : IsFaultless rows c.args.answer.now.witnesses = subst (IsFaultless rows) c.as_slice.ensures c.in-None-check_witnesses.ensures.faultless in
    subst (λ rs. IsConfirmed InSet (seen_lists query tables) rs c.args.answer.now.witnesses (length days)) c.as_slice-rows.ensures
    (confirmed InSet (seen_lists query tables) rows days (length days) c.args.answer.now.witnesses are agrees faultless refl)

use Rattle.std.proofs.Common.{◌≡◌, ◌≤◌, ◌<◌, ◌+◌, [], ◌∙◌, ℕ, List, get_or, length, take, sym, subst, inl, inr, arith}
use Rattle.std.proofs.lemmas.Bool.{cases_lt, false≢true}
use Rattle.std.proofs.lemmas.List.{take_more}
use Rattle.catalog_core.specs.declared.change.Action.{Action}
use Rattle.period_core.specs.declared.row.PeriodRow.{PeriodRow}
use Rattle.period_core.specs.declared.version.VersionRow.{VersionRow}
use Rattle.portion_dml.specs.Plans.{Plans}
use Rattle.period_keys.proofs.PlanParts.{plans_nothing}
use Rattle.period_keys.proofs.PlacedRows.{passed_more, plan_beside, quiet_after, quiet_to, row_of_some}
use Rattle.period_keys.proofs.plans.plan_at.Goals as goal
use Rattle.period_keys.proofs.plans.plan_at.Goals.{then-is_next+in_ok-plan_one, else-is_next}

pub loop-place-init : goal.loop-place-init
loop-place-init c = record {
  plans = subst (λ (xs : List VersionRow). Plans c.args.action.now [] (record { ended = xs; added = c.empty-2.result })) (sym c.empty.ensures)
      (subst (λ (ys : List PeriodRow). Plans c.args.action.now [] (record { ended = []; added = ys })) (sym c.empty-2.ensures) (plans_nothing c.args.action.now c.requires.given));
  bound = omega arith;
  passed = λ k d lt. absurd (omega (arith, lt));
}

pub loop-place-preserved : goal.loop-place-preserved
loop-place-preserved c =
    let action : Action = c.args.action.now in
    let rows : List VersionRow = c.args.rows.now in
    let places : List ℕ = c.args.places.now in
    let i : ℕ = c.loop-place.place-index in
    let at : ℕ = get_or places i 0 in
    let next : ℕ = c.loop-place.next in
    let inv = c.loop-place.invariant in
    let below : i < length places = omega arith in
    elim c.if-is_next.branch [
      | then-is_next+in_ok-plan_one w ↦
          let between : (next ≤ at) × (at < length rows) = c.is_between-is_next.ensures.0 w.if-is_next.true in
          let row : VersionRow = row_of_some rows at between.1 in
          let upto : Plans action (take at rows) c.loop-place.plan = plan_beside action (take next rows) (take at rows) c.loop-place.plan
          (quiet_to action rows places i next c.requires.ascending c.requires.others inv.passed below between.0 between.1) inv.plans in
          let more : Plans action (take (at + 1) rows) w.plan_one.new.plan = subst (λ (xs : List VersionRow). Plans action xs w.plan_one.new.plan) (sym (take_more rows at row between.1)) (w.in_ok-plan_one.ensures (take at rows) row upto) in
          record {
            plans = subst (λ n. Plans action (take n rows) c.if-is_next.plan) (sym w.next-is) (subst (Plans action (take (at + 1) rows)) (sym w.plan-is) more);
            bound = (let e : c.if-is_next.next ≡ at + 1 = w.next-is in omega (arith, between.1));
            passed = (let e : c.if-is_next.next ≡ at + 1 = w.next-is in passed_more rows places i next c.if-is_next.next below inv.passed (omega (arith, between.0)) (inl (omega arith)));
          }
      | else-is_next w ↦
          let same : c.if-is_next.next ≡ next = w.next-is in
          record {
            plans = subst (λ n. Plans action (take n rows) c.if-is_next.plan) (sym same) (subst (Plans action (take next rows)) (sym w.plan-is) inv.plans);
            bound = (let b = inv.bound in omega arith);
            passed = passed_more rows places i next c.if-is_next.next below inv.passed (omega arith)
                (elim (cases_lt at next) [
                  | inl less ↦ inl (omega arith)
                  | inr ge ↦ elim (cases_lt at (length rows)) [
                    | inl inside ↦ absurd (false≢true (sym w.if-is_next.false ∙ c.is_between-is_next.ensures.1 (ge, inside)))
                    | inr past ↦ inr past
                  ]
                ]);
          }
    ]

pub returns : goal.returns
returns c =
    let inv = c.loop-place.invariant in
    plan_beside c.args.action.now (take c.loop-place.next c.args.rows.now) c.args.rows.now c.loop-place.plan
    (quiet_after c.args.action.now c.args.rows.now c.args.places.now c.loop-place.place-index c.loop-place.next c.requires.others inv.passed c.loop-place-test.false inv.bound) inv.plans

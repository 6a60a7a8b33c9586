use Rattle.std.proofs.Common.{◌≡◌, ◌++◌, [], ◌∙◌, List, map, sym, ap, subst, append_assoc, append-nil, arith}
use Rattle.std.specs.Borrow.{Bor}
use Rattle.catalog_core.specs.declared.change.Action.{Action}
use Rattle.period_core.specs.declared.row.PeriodRow.{PeriodRow}
use Rattle.period_core.specs.declared.version.VersionRow.{VersionRow}
use Rattle.portion_dml.specs.Plans.{Plans}
use Rattle.period_keys.specs.declared.key_rows.KeyRows.{KeyRows}
use Rattle.period_keys.specs.Rows.{rows_of_lists}
use Rattle.period_keys.proofs.PlanParts.{plans_joined, plans_nothing}
use Rattle.std.proofs.lemmas.List.{nil_from_length}
use Rattle.period_keys.proofs.plans.plan_over.Goals as goal

abbrev rows_of : List (Bor KeyRows) → List VersionRow
rows_of groups = rows_of_lists (map (λ (g : Bor KeyRows). g.now) groups)

pub loop-group-init : goal.loop-group-init
loop-group-init c = (
  [],
  ap rows_of (sym c.into_iter-group-iterator.ensures.into_iter_gives.0),
  subst (λ (xs : List VersionRow). Plans c.args.action.now [] (record { ended = xs; added = c.empty-2.result })) (sym c.empty.ensures)
      (subst (λ (ys : List PeriodRow). Plans c.args.action.now [] (record { ended = []; added = ys })) (sym c.empty-2.ensures) (plans_nothing c.args.action.now c.requires)),
)

pub loop-group-preserved : goal.loop-group-preserved
loop-group-preserved c =
    let action : Action = c.args.action.now in
    let (done, split, plans) = c.loop-group.invariant in
    let rows : List VersionRow = c.in-Some.group.now.rows.items in
    let rest : List VersionRow = rows_of c.next.new.self.rest.items in
    let left : rows_of c.loop-group.group-iterator.rest.items ≡ rows ++ rest = ap rows_of c.in-Some.ensures.steps.0 in (
      done ++ rows,
      split ∙ ap (λ (xs : List VersionRow). done ++ xs) left ∙ sym (append_assoc done rows rest),
      subst (Plans action (done ++ rows)) (sym c.in_ok-append_plan.ensures)
          (plans_joined action done rows c.loop-group.plan c.in_ok-own.own c.requires plans c.in_ok-own.ensures),
    )

pub returns : goal.returns
returns c =
    let (done, split, plans) = c.loop-group.invariant in
    let none : c.loop-group.group-iterator.rest.items ≡ [] = nil_from_length c.loop-group.group-iterator.rest.items (grind (arith, c.loop-group.group-iterator.rest.ok, c.in-None.ensures.steps)) in
    let all : rows_of c.args.groups.items ≡ done = split ∙ ap (λ (xs : List VersionRow). done ++ xs) (ap rows_of none) ∙ append-nil done in
    subst (λ (xs : List VersionRow). Plans c.args.action.now xs c.loop-group.plan) (sym all) plans

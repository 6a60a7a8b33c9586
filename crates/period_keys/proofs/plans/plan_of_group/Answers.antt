use Rattle.std.proofs.Common.{◌<◌, ℕ, List, get_or, length, sym, subst}
use Rattle.std.specs.Prelude.{IfOk, IfSome, Option}
use Rattle.std.proofs.Common.{Vec, Global}
use Rattle.std.specs.List.{Contains}
use Rattle.std.specs.List.Sorted.{IsSorted}
use Rattle.std.specs.Ordering.{nat_cmp}
use Rattle.period_core.specs.declared.version.VersionRow.{VersionRow}
use Rattle.portion_dml.specs.Plans.{Plans}
use Rattle.period_keys.specs.Between.{Meets}
use Rattle.period_keys.proofs.PlacedRows.{AreAllAt}
use Rattle.period_keys.proofs.plans.plan_of_group.Goals as goal

pub plan_at-requires-clause-ascending : goal.plan_at-requires-clause-ascending
plan_at-requires-clause-ascending c =
    subst (IsSorted nat_cmp) (sym c.as_slice-3.ensures.value)
    (subst (λ (o : Option (Vec ℕ Global)). IfSome o (λ places. IsSorted nat_cmp places.items)) c.in-Some-2.is c.in_ok-places.ensures.ascending)

pub plan_at-requires-clause-others : goal.plan_at-requires-clause-others
plan_at-requires-clause-others c =
    let action = c.args.action.now in
    let places : List ℕ = c.as_slice-3.result.now in
    let all : (place : ℕ) (d : VersionRow) → place < length c.args.group.now.rows.items → Meets (get_or c.args.group.now.rows.items place d).period c.in-Some.portion.now → (Contains c.in-Some-2.places.items place → ⊥) → ⊥ =
    subst (λ (o : Option (Vec ℕ Global)). IfSome o (λ ps. (place : ℕ) (d : VersionRow) → place < length c.args.group.now.rows.items → Meets (get_or c.args.group.now.rows.items place d).period c.in-Some.portion.now → (Contains ps.items place → ⊥) → ⊥)) c.in-Some-2.is c.in_ok-places.ensures.all in
    subst (λ (rows : List VersionRow). AreAllAt action rows places) (sym c.as_slice-2.ensures) (λ place d inside t none.
    all place d inside (c.in-Some.ensures (get_or c.args.group.now.rows.items place d) t)
    (λ there. none (subst (λ (ps : List ℕ). Contains ps place) (sym c.as_slice-3.ensures.value) there)))

pub returns-in_default : goal.returns-in_default
returns-in_default c = subst (λ (rows : List VersionRow). IfOk c.plan_portion.result (λ plan. Plans c.args.action.now rows plan)) c.as_slice.ensures c.plan_portion.ensures

use Rattle.std.proofs.Common.{◌≡◌, ◌++◌, List, Option, ◌∙◌, ap₂, false, refl, subst}
use Rattle.std.specs.Prelude.{MatchOption}
use Rattle.period_core.specs.declared.value.Value.{Value}
use Rattle.period_core.specs.declared.row.PeriodRow.{PeriodRow}
use Rattle.sql_statements.specs.declared.tree.Tree.{Tree}
use Rattle.catalog_core.specs.declared.condition.CompareValues.{CompareValues}
use Rattle.history_model.specs.OrdinaryQuery.{meets_all}
use Rattle.snapshot_audit.specs.Selections.{IsKept}
use Rattle.snapshot_audit.proofs.Adding.{kept_one, pair_added, pair_apart, pair_ruled_out}
use Rattle.snapshot_audit.proofs.joins.add_pair.Goals as goal

pub returns-in_ok-push-in-Some-2 : goal.returns-in_ok-push-in-Some-2
returns-in_ok-push-in-Some-2 c =
    let first : PeriodRow = c.args.first.now in
    let second : PeriodRow = c.args.second.now in
    let both : List Value = c.in_ok-both.both in
    let whole : both ≡ first.values ++ second.values =
    c.in_ok-both.ensures ∙ ap₂ (λ (a b : List Value). a ++ b) c.as_slice-3.ensures c.as_slice-4.ensures in
    let Keeps : List Value → Type 0 = IsKept c.args.select.now c.args.output both in
    let its : Keeps c.in-Some-2.values =
    subst (λ (o : Option (List Value)). MatchOption o ((row : List Value) → Keeps row → ⊥) Keeps) c.in-Some-2.is c.in_ok-kept.ensures in
    let kept : IsKept c.args.select.now c.args.output (first.values ++ second.values) c.in-Some-2.values =
    subst (λ v. IsKept c.args.select.now c.args.output v c.in-Some-2.values) whole its in
    let added : PeriodRow = record { values = c.in-Some-2.values; period = c.in-Some.period } in
    rw c.in_ok-push-in-Some-2.ensures.items
    (pair_added c.args.select.now c.args.output first second c.args.rows.now.items added
    (λ day inside. (c.in-Some.ensures day).0 inside) (λ day a b. (c.in-Some.ensures day).1 (a, b)) kept
    (λ row other. kept_one c.args.select.now c.args.output (first.values ++ second.values) c.in-Some-2.values row kept other))

pub returns-in_default : goal.returns-in_default
returns-in_default c = pair_apart c.args.select.now c.args.output c.args.first.now c.args.second.now c.args.rows.now.items (λ day one other. (c.in_default.ensures day).1 (one, other))

pub returns-then-is_ruled_out : goal.returns-then-is_ruled_out
returns-then-is_ruled_out c =
    let first : List Value = c.args.first.now.values in
    let second : List Value = c.args.second.now.values in
    let conjuncts : List (Tree CompareValues) = c.as_slice-conjuncts.result.now in
    pair_ruled_out c.args.select.now c.args.output c.args.first.now c.args.second.now c.args.rows.now.items
    (λ rest.
    subst (λ l. meets_all l ((first ++ second) ++ rest) ≡ false) c.as_slice-conjuncts.ensures
    (subst (λ (v : List Value). meets_all conjuncts ((v ++ second) ++ rest) ≡ false) c.as_slice.ensures
    (subst (λ (v : List Value). meets_all conjuncts ((c.as_slice.result.now ++ v) ++ rest) ≡ false) c.as_slice-2.ensures (c.if-is_ruled_out.ensures refl rest))))

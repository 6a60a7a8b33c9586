use Rattle.std.proofs.Common.{◌≡◌, ◌+◌, ◌≤◌, take, length, Some, refl, sym, ◌∙◌, ap, subst}
use Rattle.std.specs.Prelude.{slice_get}
use Rattle.std.proofs.lemmas.Option.{slice_get_past, slice_get_read}
use Rattle.period_core.specs.declared.value.Value.{Value}
use Rattle.catalog_core.specs.declared.query.AnswerColumn.{AnswerColumn}
use Rattle.history_model.specs.OrdinaryQuery.{IsProjection}
use Rattle.snapshot_audit.proofs.SelectSteps.{no_value, projected_more}
use Rattle.snapshot_audit.proofs.combined_rows.item_values.Goals as goal

pub returns-in_default : goal.returns-in_default
returns-in_default c = λ row its.
    let values = c.args.values.now in
    let past : length values ≤ c.item-item.result.position = c.in_default.ensures.lookup.3 in
    no_value c.args.items.now values row c.loop-item.item-index c.item-item.result c.loop-item-test.true
    (ap (λ (x : AnswerColumn). slice_get values x.position) (sym c.item-item.is) ∙ slice_get_past values c.item-item.result.position past) its

pub loop-item-preserved : goal.loop-item-preserved
loop-item-preserved c =
    let values = c.args.values.now in
    let position = c.item-item.result.position in
    let value = c.in-Some.value.now in
    let there : slice_get values position ≡ Some value =
    slice_get_read values (length values) position value refl c.in-Some.ensures.lookup.3.0 c.in-Some.ensures.lookup.1 in
    subst (IsProjection (take (c.loop-item.item-index + 1) c.args.items.now) values) (sym c.in_ok-push.ensures.items)
    (projected_more c.args.items.now values c.loop-item.row.items c.loop-item.item-index c.item-item.result c.in_ok-copy.field-0 c.loop-item-test.true c.item-item.is
    (there ∙ ap (λ (v : Value). Some v) (sym c.in_ok-copy.ensures)) c.loop-item.invariant)

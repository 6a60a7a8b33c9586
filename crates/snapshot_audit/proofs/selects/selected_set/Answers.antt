use Rattle.std.proofs.Common.{◌↔◌, ◌⊎◌, [], List, subst}
use Rattle.std.specs.List.{Contains}
use Rattle.std.proofs.lemmas.Result.{IfOk-weaker}
use Rattle.period_core.specs.declared.value.Value.{Value}
use Rattle.history_model.specs.OrdinaryQuery.{InSelect}
use Rattle.snapshot_audit.specs.ActiveRows.{VisibleInActive}
use Rattle.snapshot_audit.specs.Selections.{InRest}
use Rattle.snapshot_audit.proofs.Once.{set_from_once}
use Rattle.snapshot_audit.proofs.SelectSteps.{selected_all}
use Rattle.snapshot_audit.proofs.selects.selected_set.Goals as goal

pub returns : goal.returns
returns c =
    let rows : List (List Value) = c.add_rest.new.rows.items in
    let old : List (List Value) = c.new-rows.result.items in
    let members = selected_all c.args.seen.now c.args.select.now old rows c.new-rows.ensures.items
    (λ row. subst (λ references. Contains rows row ↔ (Contains old row ⊎ InRest (VisibleInActive c.args.seen.now) c.args.select.now references [] row)) c.as_slice.ensures.value (c.in_ok-add_rest.ensures row)) in
    IfOk-weaker c.sorted_once.result _ _ (λ once is. set_from_once (InSelect (VisibleInActive c.args.seen.now) c.args.select.now) rows once.items members is) c.sorted_once.ensures

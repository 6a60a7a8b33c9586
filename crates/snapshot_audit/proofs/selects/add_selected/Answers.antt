use Rattle.std.proofs.Common.{List, Option, subst}
use Rattle.std.specs.Prelude.{MatchOption}
use Rattle.period_core.specs.declared.value.Value.{Value}
use Rattle.snapshot_audit.specs.Selections.{IsSelected}
use Rattle.snapshot_audit.proofs.SelectSteps.{selected_pushed, selected_skipped}
use Rattle.snapshot_audit.proofs.selects.add_selected.Goals as goal

-- the combined row is not selected, or this is the select list's row of it
abbrev Found : (List Value → Type 0) → Option (List Value) → Type 0
Found Is found = MatchOption found ((row : List Value) → Is row → ⊥) Is

pub returns-in-None : goal.returns-in-None
returns-in-None c =
    let none : (row : List Value) → IsSelected c.args.select.now c.args.values.now row → ⊥ =
    subst (Found (IsSelected c.args.select.now c.args.values.now)) c.in-None.is c.in_ok-selected.ensures in
    selected_skipped c.args.select.now c.args.values.now c.args.rows.now.items none

pub returns-in_ok-push-in-Some : goal.returns-in_ok-push-in-Some
returns-in_ok-push-in-Some c =
    let its : IsSelected c.args.select.now c.args.values.now c.in-Some.row =
    subst (Found (IsSelected c.args.select.now c.args.values.now)) c.in-Some.is c.in_ok-selected.ensures in
    rw c.in_ok-push-in-Some.ensures.items (selected_pushed c.args.select.now c.args.values.now c.in-Some.row c.args.rows.now.items its)

use Rattle.std.proofs.Common.{◌≡◌, ◌↔◌, ◌+◌, ◌++◌, ◌∷◌, [], ◌∙◌, ap, List, Bor, take, sym, subst, arith}
use Rattle.std.specs.List.{Contains}
use Rattle.std.proofs.lemmas.List.{take_more, take_all}
use Rattle.std.proofs.lemmas.Result.{IfOk-weaker}
use Rattle.period_core.specs.declared.row.PeriodRow.{PeriodRow}
use Rattle.period_core.specs.declared.value.Value.{Value}
use Rattle.snapshot_audit.specs.ActiveRows.{RowReferences, InActive}
use Rattle.snapshot_audit.proofs.ActiveFacts.{InActive-more}
use Rattle.snapshot_audit.proofs.Once.{set_from_once}
use Rattle.snapshot_audit.proofs.snapshots.values_of.Goals as goal

pub loop-row-preserved : goal.loop-row-preserved
loop-row-preserved c = λ values.
    let active : RowReferences = c.args.active.now in
    let k = c.loop-row.row-index in
    let row : Bor PeriodRow = c.row-item.result in
    let held : List (List Value) = c.loop-row.held.items in
    let more : take (k + 1) active ≡ take k active ++ row ∷ [] = take_more active k row (omega arith) ∙ ap (λ r. take k active ++ r ∷ []) (sym c.row-item.is) in
    let pushed : c.push.new.self.items ≡ held ++ row.now.values ∷ [] = c.in_ok-push.ensures.items ∙ ap (λ (v : List Value). held ++ v ∷ []) c.in_ok-copy.ensures in
    rw (more, pushed) (InActive-more held (take k active) row c.loop-row.invariant values)

pub returns : goal.returns
returns c =
    let active : RowReferences = c.args.active.now in
    let held : List (List Value) = c.loop-row.held.items in
    let all : take c.loop-row.row-index active ≡ active = take_all c.loop-row.row-index active (omega arith) in
    IfOk-weaker c.sorted_once.result _ _ (λ once is. set_from_once (InActive active) held once.items
    (λ values. subst (λ l. Contains held values ↔ InActive l values) all (c.loop-row.invariant values)) is) c.sorted_once.ensures

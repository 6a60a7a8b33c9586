use Rattle.std.proofs.Common.{◌≡◌, ◌+◌, ◌++◌, ◌∷◌, [], List, take, refl, sym, ◌∙◌, ap, subst}
use Rattle.std.specs.Global.{Vec}
use Rattle.std.proofs.lemmas.List.{take_more}
use Rattle.period_core.specs.declared.row.PeriodRow.{PeriodRow}
use Rattle.sequenced_ops.specs.Operations.{Cond}
use Rattle.sequenced_ops.specs.Planning.{RulesOut}
use Rattle.sequenced_ops.proofs.KeptRows.{IsKept, kept_more, kept_same}
use Rattle.sequenced_ops.proofs.pruning.copy_pruned.Goals as goal
use Rattle.sequenced_ops.proofs.pruning.copy_pruned.Goals.{then-not-is_ruled_out+in_ok-copy+in_ok-push, else-not-is_ruled_out}

abbrev items_of : Vec PeriodRow → List PeriodRow
items_of v = v.items

pub loop-row-preserved : goal.loop-row-preserved
loop-row-preserved c =
    let conjuncts : List Cond = c.args.conjuncts.now in
    let start = c.args.start in
    let rows : List PeriodRow = c.args.rows.now in
    let i = c.loop-row.row-index in
    let row : PeriodRow = c.row-item.result in
    let kept : List PeriodRow = c.loop-row.kept.items in
    let after : List PeriodRow = c.if-not-is_ruled_out.kept.items in
    let next : take (i + 1) rows ≡ take i rows ++ row ∷ [] =
    take_more rows i row c.loop-row-test.true
    ∙ ap (λ (r : PeriodRow). take i rows ++ r ∷ []) (sym c.row-item.is) in
    subst (λ (l : List PeriodRow). IsKept conjuncts start l after) (sym next)
    (elim c.if-not-is_ruled_out.branch [
      | then-not-is_ruled_out+in_ok-copy+in_ok-push w ↦
          subst (IsKept conjuncts start (take i rows ++ row ∷ []))
          (sym
          (ap items_of w.kept-is ∙ w.in_ok-push.ensures.items
          ∙ ap (λ (r : PeriodRow). kept ++ r ∷ []) w.in_ok-copy.ensures))
          (kept_more conjuncts start (take i rows) kept row c.loop-row.invariant)
      | else-not-is_ruled_out w ↦
          let ruled : RulesOut conjuncts start row.values =
          subst (RulesOut conjuncts start) c.as_slice.ensures
          (w.if-not-is_ruled_out.ensures refl) in
          subst (IsKept conjuncts start (take i rows ++ row ∷ [])) (sym (ap items_of w.kept-is))
          (kept_same conjuncts start (take i rows) kept row ruled c.loop-row.invariant)
    ])

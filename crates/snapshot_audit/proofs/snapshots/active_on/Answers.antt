use Rattle.std.proofs.Common.{◌≡◌, ◌+◌, ◌++◌, ◌∷◌, [], ◌∙◌, ap, List, take, refl, sym, subst, arith}
use Rattle.std.proofs.lemmas.List.{take_more, take_all}
use Rattle.period_core.specs.declared.row.PeriodRow.{PeriodRow}
use Rattle.snapshot_audit.specs.ActiveRows.{AreActive}
use Rattle.snapshot_audit.proofs.ActiveFacts.{AreActive-more, AreActive-skip}
use Rattle.snapshot_audit.proofs.snapshots.active_on.Goals.{then-contains_day+in_ok-push, else-contains_day}
use Rattle.snapshot_audit.proofs.snapshots.active_on.Goals as goal

pub loop-row-preserved : goal.loop-row-preserved
loop-row-preserved c =
    let rows : List PeriodRow = c.args.rows.now in
    let k = c.loop-row.row-index in
    let row : PeriodRow = c.row-item.result in
    let more : take (k + 1) rows ≡ take k rows ++ row ∷ [] = take_more rows k row (omega arith) ∙ ap (λ r. take k rows ++ r ∷ []) (sym c.row-item.is) in
    elim c.if-contains_day.branch [
      | then-contains_day+in_ok-push w ↦
          rw (more, w.active-is, w.in_ok-push.ensures.items)
          (AreActive-more (take k rows) c.loop-row.active.items c.args.day row _ refl (c.contains_day.ensures.days.0 w.if-contains_day.true) c.loop-row.invariant)
      | else-contains_day w ↦
          rw (more, w.active-is)
          (AreActive-skip (take k rows) c.loop-row.active.items c.args.day row (λ h. let wrong = c.contains_day.ensures.days.1 h in let no = w.if-contains_day.false in cc) c.loop-row.invariant)
    ]

pub returns : goal.returns
returns c =
    let all : take c.loop-row.row-index c.args.rows.now ≡ c.args.rows.now = take_all c.loop-row.row-index c.args.rows.now (omega arith) in
    subst (λ rows. AreActive rows c.loop-row.active.items c.args.day) all c.loop-row.invariant

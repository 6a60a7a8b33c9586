use Rattle.std.proofs.Common.{◌≡◌, ◌+◌, ◌++◌, ◌∷◌, [], ◌∙◌, ap, List, ℤ, take, sym, subst, arith}
use Rattle.std.proofs.lemmas.List.{take_more, take_all}
use Rattle.period_core.specs.declared.row.PeriodRow.{PeriodRow}
use Rattle.snapshot_audit.proofs.Changes.{HasEnds, HasEnds-none, HasEnds-more}
use Rattle.snapshot_audit.proofs.days.add_ends.Goals as goal

pub loop-row-init : goal.loop-row-init
loop-row-init c = HasEnds-none c.args.days.now.items

pub loop-row-preserved : goal.loop-row-preserved
loop-row-preserved c =
    let rows : List PeriodRow = c.args.rows.now in
    let k = c.loop-row.row-index in
    let row : PeriodRow = c.row-item.result in
    let more : take (k + 1) rows ≡ take k rows ++ row ∷ [] = take_more rows k row (omega arith) ∙ ap (λ r. take k rows ++ r ∷ []) (sym c.row-item.is) in
    let days : c.push-in-loop-row.new.self.items ≡ (c.loop-row.days.items ++ row.period.start ∷ []) ++ row.period.end ∷ [] = c.in_ok-push-2.ensures.items ∙ ap (λ (ds : List ℤ). ds ++ row.period.end ∷ []) c.in_ok-push.ensures.items in
    rw (more, days) (HasEnds-more c.args.days.now.items (take k rows) c.loop-row.days.items row c.loop-row.invariant)

pub returns : goal.returns
returns c =
    let all : take c.loop-row.row-index c.args.rows.now ≡ c.args.rows.now = take_all c.loop-row.row-index c.args.rows.now (omega arith) in
    subst (λ rows. HasEnds c.args.days.now.items rows c.loop-row.days.items) all c.loop-row.invariant

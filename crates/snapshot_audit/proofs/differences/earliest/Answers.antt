use Rattle.std.proofs.Common.{◌≡◌, ◌+◌, ◌++◌, ◌∷◌, [], List, take, sym, ◌∙◌, ap, subst}
use Rattle.std.proofs.lemmas.List.{take_all, take_more}
use Rattle.temporal_model.proofs.Members.{Contains-nil}
use Rattle.period_core.specs.declared.row.PeriodRow.{PeriodRow}
use Rattle.catalog_core.specs.query.Queries.{Query, plain_query}
use Rattle.snapshot_audit.specs.Differences.{ChangesOn, Checks}
use Rattle.snapshot_audit.proofs.DifferenceSteps.{checks_none, checks_row}
use Rattle.snapshot_audit.proofs.differences.earliest.Goals as goal

pub loop-row-preserved : goal.loop-row-preserved
loop-row-preserved c =
    let query : Query = plain_query c.args.query.now in
    let rows : List PeriodRow = c.args.rows.now in
    let k = c.loop-row.row-index in
    let row : PeriodRow = c.row-item.result in
    let more : take (k + 1) rows ≡ take k rows ++ row ∷ [] = take_more rows k row c.loop-row-test.true ∙ ap (λ x. take k rows ++ x ∷ []) (sym c.row-item.is) in
    subst (λ l. Checks query c.args.lists.now c.args.answer.now (ChangesOn l) c.args.least c.earlier-first.result) (sym more)
    (checks_row query c.args.lists.now c.args.answer.now (take k rows) row c.args.least c.loop-row.first c.earlier-start.result c.earlier-first.result
    c.loop-row.invariant c.earlier-start.ensures c.earlier-first.ensures)

pub loop-row-init : goal.loop-row-init
loop-row-init c = checks_none (plain_query c.args.query.now) c.args.lists.now c.args.answer.now (ChangesOn []) c.args.least (λ day values (row, there, same, ends). Contains-nil row there)

pub returns : goal.returns
returns c =
    subst (λ (rows : List PeriodRow). Checks (plain_query c.args.query.now) c.args.lists.now c.args.answer.now (ChangesOn rows) c.args.least c.loop-row.first)
    (take_all c.loop-row.row-index c.args.rows.now c.loop-row-test.false) c.loop-row.invariant

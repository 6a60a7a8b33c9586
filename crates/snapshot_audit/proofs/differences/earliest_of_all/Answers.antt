use Rattle.std.proofs.Common.{◌≡◌, ◌+◌, ◌++◌, ◌∷◌, [], List, None, take, sym, ◌∙◌, ap, subst}
use Rattle.std.proofs.lemmas.List.{take_all, take_more}
use Rattle.period_core.specs.declared.row.PeriodRow.{PeriodRow}
use Rattle.catalog_core.specs.query.Queries.{Query, plain_query}
use Rattle.snapshot_audit.specs.Differences.{ChangesOn, ChangesOnAny, Checks}
use Rattle.snapshot_audit.proofs.DifferenceSteps.{checks_answer, checks_list}
use Rattle.snapshot_audit.proofs.differences.earliest_of_all.Goals as goal

pub loop-list-init : goal.loop-list-init
loop-list-init c = checks_answer (plain_query c.args.query.now) c.args.lists.now c.args.answer.now None c.earliest-first.result c.earliest-first.ensures

pub loop-list-preserved : goal.loop-list-preserved
loop-list-preserved c =
    let query : Query = plain_query c.args.query.now in
    let lists : List (List PeriodRow) = c.args.lists.now in
    let answer : List PeriodRow = c.args.answer.now in
    let k = c.loop-list.list-index in
    let list : List PeriodRow = c.list-item.result in
    let more : take (k + 1) lists ≡ take k lists ++ list ∷ [] = take_more lists k list c.loop-list-test.true ∙ ap (λ x. take k lists ++ x ∷ []) (sym c.list-item.is) in
    let next : Checks query lists answer (ChangesOn list) c.loop-list.first c.earliest-first-in-loop-list.result =
    subst (λ l. Checks query lists answer (ChangesOn l) c.loop-list.first c.earliest-first-in-loop-list.result) c.as_slice.ensures c.earliest-first-in-loop-list.ensures in
    subst (λ l. Checks query lists answer (ChangesOnAny answer l) None c.earliest-first-in-loop-list.result) (sym more)
    (checks_list query lists answer (take k lists) list None c.loop-list.first c.earliest-first-in-loop-list.result c.loop-list.invariant next)

pub returns : goal.returns
returns c =
    subst (λ (lists : List (List PeriodRow)). Checks (plain_query c.args.query.now) c.args.lists.now c.args.answer.now (ChangesOnAny c.args.answer.now lists) None c.loop-list.first)
    (take_all c.loop-list.list-index c.args.lists.now c.loop-list-test.false) c.loop-list.invariant

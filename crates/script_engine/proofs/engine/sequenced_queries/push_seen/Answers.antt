use Rattle.std.proofs.Common.{◌≡◌, ◌+◌, ◌++◌, ◌∷◌, ◌∙◌, List, [], append-nil, append_assoc, ap, subst, sym, take}
use Rattle.std.proofs.lemmas.List.{take_more}
use Rattle.period_core.specs.declared.row.PeriodRow.{PeriodRow}
use Rattle.catalog_core.specs.declared.query.resolved.QueryReference.{QueryReference}
use Rattle.script_engine.specs.engine.Answering.{EachSees}
use Rattle.script_engine.proofs.Answering.{each_more}
use Rattle.script_engine.proofs.engine.sequenced_queries.push_seen.Goals as goal

pub loop-reference-init : goal.loop-reference-init
loop-reference-init c = λ history kept before each. subst (λ (l : List QueryReference). EachSees history l c.args.lists.now.items) (sym (append-nil before)) each

pub loop-reference-preserved : goal.loop-reference-preserved
loop-reference-preserved c = λ history kept before each.
    let references : List QueryReference = c.args.references.now in
    let i = c.loop-reference.reference-index in
    let reference : QueryReference = c.reference-item.result in
    let rows : List PeriodRow = c.in_ok-seen_by.field-0 in
    let so_far = c.loop-reference.invariant history kept before each in
    let more = each_more history (before ++ take i references) c.loop-reference.lists.items reference rows so_far (c.in_ok-seen_by.ensures history kept) in
    let placed : (before ++ take i references) ++ reference ∷ [] ≡ before ++ take (i + 1) references =
    append_assoc before (take i references) (reference ∷ []) ∙ ap (λ (l : List QueryReference). before ++ l) (ap (λ (r : QueryReference). take i references ++ r ∷ []) c.reference-item.is ∙ sym (take_more references i reference c.loop-reference-test.true)) in
    rw c.in_ok-push.ensures.items (subst (λ (l : List QueryReference). EachSees history l (c.loop-reference.lists.items ++ rows ∷ [])) placed more)

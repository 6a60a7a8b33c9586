use Rattle.std.proofs.Common.{◌≡◌, ◌++◌, ◌∙◌, List, OnOk, Option, ap, ap₂, append_assoc, map, subst, sym}
use Rattle.std.proofs.lemmas.Result.{IfOk-weaker}
use Rattle.history_model.specs.Portions.{PlainRow, leftovers, plain_row}
use Rattle.period_core.specs.declared.period.Period.{Period}
use Rattle.portion_dml.specs.Parts.{row_over}
use Rattle.portion_dml.specs.Plans.{version_row}
use Rattle.portion_dml.proofs.PeriodParts.{part_after, part_before}
use Rattle.portion_dml.proofs.parts.push_leftovers.Goals as goal

-- the two parts are the leftovers
pub returns : goal.returns
returns c =
    let row = c.args.row.now in
    let portion : Period = c.in-Some.portion in
    let old : List PlainRow = map plain_row c.args.rows.now.items in
    let before = c.minus-before.result.0 in
    let after = c.minus-before.result.1 in
    subst (λ (p : Option Period). OnOk c.push_part-2.result (map plain_row c.push_part-2.new.rows.items ≡ old ++ leftovers p (version_row row))) (sym c.in-Some.is)
    (IfOk-weaker c.push_part-2.result _ _
    (λ _ made. made ∙ ap (λ l. l ++ row_over row.values after) c.in_ok-push_part.ensures ∙ append_assoc old (row_over row.values before) (row_over row.values after)
    ∙ ap₂ (λ a b. old ++ (a ++ b)) (part_before row.values row.period portion before c.minus-before.ensures.before) (part_after row.values row.period portion after c.minus-before.ensures.after)) c.push_part-2.ensures)

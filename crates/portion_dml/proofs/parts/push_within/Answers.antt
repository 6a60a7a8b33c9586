use Rattle.std.proofs.Common.{◌≡◌, ◌++◌, ◌∙◌, List, OnOk, Option, ap, map, subst, sym}
use Rattle.std.proofs.lemmas.Result.{IfOk-weaker}
use Rattle.history_model.specs.Portions.{PlainRow, plain_row, within}
use Rattle.period_core.specs.declared.period.Period.{Period}
use Rattle.portion_dml.specs.Plans.{version_row}
use Rattle.portion_dml.proofs.PeriodParts.{part_whole, part_within}
use Rattle.portion_dml.proofs.parts.push_within.Goals as goal

pub returns-in-None : goal.returns-in-None
returns-in-None c =
    let row = c.args.row.now in
    let values = c.args.values.now in
    let old : List PlainRow = map plain_row c.args.rows.now.items in
    subst (λ (p : Option Period). OnOk c.push_part.result (map plain_row c.push_part.new.rows.items ≡ old ++ within p values (version_row row))) (sym c.in-None.is)
    (IfOk-weaker c.push_part.result _ _ (λ _ made. made ∙ ap (λ l. old ++ l) (part_whole values row.period)) c.push_part.ensures)

pub returns-in-Some : goal.returns-in-Some
returns-in-Some c =
    let row = c.args.row.now in
    let values = c.args.values.now in
    let portion : Period = c.in-Some.portion in
    let old : List PlainRow = map plain_row c.args.rows.now.items in
    subst (λ (p : Option Period). OnOk c.push_part-in-Some.result (map plain_row c.push_part-in-Some.new.rows.items ≡ old ++ within p values (version_row row))) (sym c.in-Some.is)
    (IfOk-weaker c.push_part-in-Some.result _ _ (λ _ made. made ∙ ap (λ l. old ++ l) (part_within values row.period portion c.intersect.result c.intersect.ensures)) c.push_part-in-Some.ensures)

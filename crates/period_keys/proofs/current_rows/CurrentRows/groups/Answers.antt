use Rattle.std.proofs.Common.{◌∙◌, ap}
use Rattle.period_keys.specs.Rows.{RowsByKey, rows_of_lists}
use Rattle.period_keys.proofs.Grouped.{lists_of_groups}
use Rattle.period_keys.proofs.current_rows.CurrentRows.groups.Goals as goal

pub returns : goal.returns
returns c = ap rows_of_lists c.values.ensures.rest ∙ lists_of_groups c.self.inside.groups.entries ∙ ap (λ (t : RowsByKey). t.rows) c.self.view_is

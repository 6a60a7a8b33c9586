use Rattle.std.proofs.Common.{◌≡◌, ap, rules, ◌∙◌}
use Rattle.ordered_rows.specs.Edits.{inserted, removed}
use Rattle.ordered_rows.proofs.Undone.{inserted_removed}
use Rattle.ordered_rows.proofs.rows.OrderedRows.add.Goals as goal

pub returns-clause-ok : goal.returns-clause-ok
returns-clause-ok c =
    let made : c.inserted.result.rows ≡ inserted c.args.at c.args.new c.args.self.now = search rules in
    (made, ap (removed c.args.at) made ∙ inserted_removed c.args.self.now c.args.at c.args.new c.requires.within)

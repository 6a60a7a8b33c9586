use Rattle.std.proofs.Common.{◌≡◌, ◌≤◌, ◌+◌, ◌∷◌, ap, drop, length, rules, set, ◌∙◌}
use Rattle.std.proofs.lemmas.List.{set_past}
use Rattle.ordered_rows.specs.Undos.{edited}
use Rattle.ordered_rows.proofs.Undone.{written_back}
use Rattle.ordered_rows.proofs.rows.OrderedRows.replace.Goals.{in-None, in-Some}
use Rattle.ordered_rows.proofs.rows.OrderedRows.replace.Goals as goal

pub returns : goal.returns
returns c =
    let rows = c.args.self.now in
    let made : c.replaced-tree.result.0.rows ≡ set rows c.args.at c.args.new = search rules in (
      made,
      elim c.match-taken.branch [
        | in-Some w ↦
            let found : drop c.args.at rows ≡ w.in-Some.old ∷ drop (c.args.at + 1) rows = search rules in
            rw w.result-is (ap (λ l. set l c.args.at w.in-Some.old) made ∙ written_back rows c.args.at c.args.new w.in-Some.old found)
        | in-None w ↦
            let none : length rows ≤ c.args.at = search rules in
            rw w.result-is (ap (λ inverse. edited inverse c.replaced-tree.result.0.rows) w.nothing.ensures ∙ made ∙ set_past rows c.args.at c.args.new none)
      ],
    )

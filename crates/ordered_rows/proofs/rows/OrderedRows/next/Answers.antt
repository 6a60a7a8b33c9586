use Rattle.std.proofs.Common.{◌≡◌, ◌≢◌, ◌≤◌, ◌-◌, ◌+◌, ◌∷◌, drop, min, length, rules}
use Rattle.sqlite_trees.specs.declared.store.Direction.TheVariants.{Backward, Forward}
use Rattle.ordered_rows.specs.Forks.{most}
use Rattle.ordered_rows.proofs.Given.{given_backward}
use Rattle.ordered_rows.proofs.rows.OrderedRows.next.Goals.{in-Forward, in-Backward+else-rest-eq0}
use Rattle.ordered_rows.proofs.rows.OrderedRows.next.Goals as goal

pub returns-clause-ok : goal.returns-clause-ok
returns-clause-ok c =
    let row : c.copy_from.new.self ≡ c.in-Some.found.now = search rules in
    elim c.match-cursor.branch [
      | in-Forward w ↦
          let forward : c.args.cursor.now.direction ≡ Forward = search rules in
          let at : c.match-cursor.at.0 ≡ c.args.cursor.now.at = search rules in
          let after : c.match-cursor.at.1 ≡ c.args.cursor.now.at + 1 = search rules in
          let found : drop c.args.cursor.now.at c.args.self.now ≡ c.copy_from.new.self ∷ drop (c.args.cursor.now.at + 1) c.args.self.now = search rules in
          rw (forward, after) found
      | in-Backward+else-rest-eq0 w ↦
          let backward : c.args.cursor.now.direction ≡ Backward = search rules in
          let rest : w.min-rest.result ≡ min c.args.cursor.now.at (min (length c.args.self.now) most) = search rules in
          let some : w.min-rest.result ≢ 0 = search rules in
          let found : drop (w.min-rest.result - 1) c.args.self.now ≡ c.copy_from.new.self ∷ drop (w.min-rest.result - 1 + 1) c.args.self.now = search rules in
          let low : c.args.cursor.now.at ≤ most = search rules in
          let after : c.match-cursor.at.1 ≡ w.min-rest.result - 1 = search rules in
          rw (backward, after) (given_backward c.args.self.now c.args.cursor.now.at w.min-rest.result c.copy_from.new.self low rest some found)
    ]

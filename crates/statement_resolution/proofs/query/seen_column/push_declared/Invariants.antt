use Rattle.std.specs.Prelude.{◌≡◌, ◌++◌}
use Rattle.statement_resolution.proofs.lemmas.query.ColumnLists.{seen_front}
use Rattle.statement_resolution.proofs.query.seen_column.push_declared.Given as goal

abbrev pub invariant-loop-place : goal.invariant-loop-place
invariant-loop-place l = l.columns.items ≡ l.initial.columns.items ++ seen_front l.known_as l.table l.declared l.place

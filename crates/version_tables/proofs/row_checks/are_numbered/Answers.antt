use Rattle.std.proofs.Common.{◌≡◌, ◌∙◌, [], ℤ, rules, subst, sym, true}
use Rattle.std.proofs.lemmas.List.{get_or_default}
use Rattle.sqlite.specs.View.{is_int}
use Rattle.sqlite.specs.Tree.{rowid}
use Rattle.version_tables.specs.Rows.{IsNumberAt}
use Rattle.version_tables.proofs.ColumnFacts.{never, numbered}
use Rattle.version_tables.proofs.row_checks.are_numbered.Goals as goal

pub returns-then-is_none : goal.returns-then-is_none
returns-then-is_none c =
    let none : ¬ ((n : ℤ) × IsNumberAt c.row-item.result 0 n) = search rules in (
      never,
      λ all.
          let at = c.loop-row.row-index in
          let row = c.row-item.is ∙ get_or_default c.args.rows.now at c.row-item.result [] c.loop-row-test.true in
          absurd (none (numbered c.row-item.result (subst (λ r. is_int (rowid r) ≡ true) (sym row) (all at c.loop-row-test.true)))),
    )

use Rattle.std.proofs.Common.{◌≡◌, ◌∙◌, ◌++◌, List, ap, subst, sym}
use Rattle.period_core.specs.declared.row.PeriodRow.{PeriodRow}
use Rattle.catalog_core.specs.query.Queries.{plain_query}
use Rattle.script_engine.specs.engine.Needed.{IsNeededBy}
use Rattle.script_engine.proofs.engine.needed.needed_tables.Goals as goal

pub returns-clause-needed : goal.returns-clause-needed
returns-clause-needed c history represents known =
    let (added, made, needed) = c.in_ok-push_needed_tables.ensures.needed history represents known in
    let all : c.new.result ≡ added = c.new.ensures ∙ c.from_vec.ensures ∙ made ∙ ap (λ (l : List (List PeriodRow)). l ++ added) c.new-lists.ensures.items in
    subst (IsNeededBy history (plain_query c.args.query.now)) (sym all) needed

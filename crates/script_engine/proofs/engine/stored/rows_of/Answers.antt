use Rattle.std.proofs.lemmas.Bool.{and_parts}
use Rattle.period_core.specs.Windows.{window_sees}
use Rattle.catalog_core.specs.stored.StoredAnswers.{meets_tests}
use Rattle.period_keys.proofs.PlanParts.{if_ok}
use Rattle.script_engine.proofs.engine.stored.rows_of.Goals as goal

pub returns-in-Some-clause-left : goal.returns-in-Some-clause-left
returns-in-Some-clause-left c =
    let query = c.args.query.now in
    if_ok c.rows_left.result _ _
    (λ rows within v shown. within v (rw c.in-Some.is at (and_parts (window_sees query.window v.from v.to) (meets_tests query.condition v) shown).1))
    c.rows_left.ensures.left

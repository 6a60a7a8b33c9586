use Rattle.std.proofs.Common.{◌++◌, ◌∙◌, ap, List}
use Rattle.period_core.specs.declared.value.Value.{Value}
use Rattle.catalog_core.specs.Conditions.{compares, meets}
use Rattle.catalog_core.proofs.lemmas.conditions.Truth.{test_truth}
use Rattle.snapshot_audit.proofs.exclusion.is_failing.Goals as goal

pub returns-in-Test : goal.returns-in-Test
returns-in-Test c = λ e rest.
    let values : List Value = (c.args.front.now ++ c.args.next.now) ++ rest in
    ap (λ condition. meets condition values) c.in-Test.is ∙ test_truth (compares values) c.in-Test.test ∙ c.fails.ensures e rest

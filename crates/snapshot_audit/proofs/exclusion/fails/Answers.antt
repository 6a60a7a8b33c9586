use Rattle.std.proofs.Common.{◌++◌, ◌∙◌, ap, List}
use Rattle.period_core.specs.declared.value.Value.{Value}
use Rattle.catalog_core.specs.Conditions.{compared, side_value}
use Rattle.snapshot_audit.proofs.Ruling.{compared_other}
use Rattle.snapshot_audit.proofs.exclusion.fails.Goals as goal

pub returns : goal.returns
returns c = λ e rest.
    let values : List Value = (c.args.front.now ++ c.args.next.now) ++ rest in
    let test = c.args.test.now in
    ap (λ comparison. compared comparison (side_value test.left values) (side_value test.right values)) c.in-Equal.is
    ∙ compared_other (side_value test.left values) (side_value test.right values) c.in-Some.left.now c.in-Some-side_among.right.now
    (c.in-Some.ensures rest) (c.in-Some-side_among.ensures rest) (c.is_other.ensures e)

use Rattle.std.proofs.lemmas.Result.{on_ok_weaker}
use Rattle.snapshot_audit.proofs.SharedSteps.{test_more}
use Rattle.snapshot_audit.proofs.shared_columns.add_test.Goals as goal

pub returns-in_ok-add_columns-in-Equal-Position-Position : goal.returns-in_ok-add_columns-in-Equal-Position-Position
returns-in_ok-add_columns-in-Equal-Position-Position c =
    let arm = c.in-Equal-Position-Position in
    on_ok_weaker c.add_columns-in-Equal-Position-Position.result
    (λ then. test_more c.args.width c.args.more c.args.test.now arm.left arm.right c.args.columns.now c.add_columns.new.columns
    c.add_columns-in-Equal-Position-Position.new.columns arm.is-0 arm.is-1 arm.is-2 c.in_ok-add_columns-in-Equal-Position-Position.ensures then)
    c.add_columns-in-Equal-Position-Position.ensures

use Rattle.std.proofs.Common.{arith}
use Rattle.snapshot_audit.proofs.SharedSteps.{columns_more}
use Rattle.snapshot_audit.proofs.shared_columns.add_columns.Goals as goal

pub returns-in_ok-push-2 : goal.returns-in_ok-push-2
returns-in_ok-push-2 c =
    columns_more c.args.width c.args.more c.args.left c.args.right c.args.columns.now (record { first = c.push.new.self; second = c.push-then-right-width.new.self })
    (omega arith) (omega arith) (omega arith) c.in_ok-push.ensures.items c.in_ok-push-2.ensures.items

use Rattle.std.proofs.Common.{rules}
use Rattle.std.proofs.lemmas.List.Sorted.{IsPartitionPoint-from_clause}
use Rattle.snapshot_audit.proofs.KeyOrder.{before_in_order, entry_before}
use Rattle.snapshot_audit.proofs.keys.count_before.Goals as goal

pub returns-clause-before : goal.returns-clause-before
returns-clause-before c =
    IsPartitionPoint-from_clause (entry_before c.args.key.now c.args.day) c.args.entries.now c.partition_point.result c.partition_point.ensures.partitioned
    (before_in_order c.args.key.now c.args.day c.args.entries.now c.requires) (λ a r f' k. search rules)

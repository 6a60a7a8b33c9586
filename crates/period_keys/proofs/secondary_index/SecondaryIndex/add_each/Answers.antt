use Rattle.std.proofs.Common.{List, ap₂, subst}
use Rattle.std.specs.List.{Contains}
use Rattle.period_core.specs.declared.value.Value.{Value}
use Rattle.period_keys.specs.Keys.{values_at}
use Rattle.period_keys.specs.Secondary.{entries_of}
use Rattle.period_keys.proofs.EntryKeys.{more_after}
use Rattle.period_keys.proofs.Members.{first_more}
use Rattle.period_keys.proofs.secondary_index.SecondaryIndex.add_each.Goals as goal

pub loop-row-preserved : goal.loop-row-preserved
loop-row-preserved g c =
    let inv = c.loop-row.invariant in
    let entry : g.row.R.Denot → List Value = λ row. values_at c.args.self.now.entry_positions (g.R.Valued.values row) in
    let added : Contains (entries_of c.add.new.self) (entry c.row-item.result) = subst (Contains (entries_of c.add.new.self)) (ap₂ values_at inv.more.entry_positions c.values.ensures) c.in_ok-add.ensures.added in
    record {
      more = more_after c.args.self.now c.loop-row.self c.add.new.self inv.more c.add.ensures.more;
      seen = first_more (λ row. Contains (entries_of c.loop-row.self) (entry row)) (λ row. Contains (entries_of c.add.new.self) (entry row)) c.args.rows.now c.loop-row.row-index c.row-item.result c.loop-row-test.true c.row-item.is
          (λ row. c.add.ensures.more.entries (entry row)) added inv.seen;
    }

use Rattle.std.proofs.Common.{List, drop, length}
use Rattle.std.specs.BTreeMap.Range.{entries_between}
use Rattle.std.specs.declared.ops.Bound.TheVariants.{Included, Unbounded}
use Rattle.period_core.specs.Order.{values_cmp}
use Rattle.period_core.specs.declared.value.Value.{Value}
use Rattle.period_keys.specs.Ranges.{first_values}
use Rattle.period_keys.proofs.Picked.{HasPicked}
use Rattle.period_keys.proofs.secondary_index.SecondaryIndex.keys_within.Given as goal

abbrev pub invariant-loop-entry : goal.invariant-loop-entry
invariant-loop-entry l = HasPicked l.range (λ (e : List Value × Unit {0}). drop (length l.self.positions) e.0) (entries_between values_cmp (Included (first_values l.range)) Unbounded l.self.entries.entries) l.entry-iterator l.keys.items

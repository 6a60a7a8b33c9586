use Rattle.std.proofs.Common.{List, map}
use Rattle.std.specs.Borrow.{Bor}
use Rattle.std.specs.BTreeMap.Range.{entries_between}
use Rattle.std.specs.declared.ops.Bound.TheVariants.{Included, Unbounded}
use Rattle.period_core.specs.Order.{values_cmp}
use Rattle.period_core.specs.declared.value.Value.{Value}
use Rattle.period_keys.specs.declared.key_rows.KeyRows.{KeyRows}
use Rattle.period_keys.specs.Ranges.{first_values}
use Rattle.period_keys.proofs.Picked.{HasPicked}
use Rattle.period_keys.proofs.groups.groups_in.Given as goal

abbrev pub invariant-loop-key : goal.invariant-loop-key
invariant-loop-key l = HasPicked l.range (λ (group : List Value × KeyRows). group.1) (entries_between values_cmp (Included (first_values l.range)) Unbounded l.groups.entries) l.key-iterator (map (λ (g : Bor KeyRows). g.now) l.found.items)

use Rattle.std.proofs.Common.{◌≡◌, map, take}
use Rattle.std.specs.Borrow.{Bor}
use Rattle.std.specs.List.{flat_map}
use Rattle.period_keys.specs.declared.key_rows.KeyRows.{KeyRows}
use Rattle.period_keys.specs.Rows.{rows_of_key, rows_of_lists}
use Rattle.period_keys.proofs.current_rows.CurrentRows.groups_of_keys.Given as goal

abbrev pub invariant-loop-key : goal.invariant-loop-key
invariant-loop-key l = rows_of_lists (map (λ (g : Bor KeyRows). g.now) l.groups.items) ≡ flat_map (rows_of_key l.self) (take l.key-index l.keys)

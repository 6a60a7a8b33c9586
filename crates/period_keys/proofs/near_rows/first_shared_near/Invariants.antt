use Rattle.std.proofs.Common.{take}
use Rattle.std.specs.List.{Any}
use Rattle.period_keys.specs.Index.{periods_at}
use Rattle.period_keys.specs.Keys.{IsLeastOf}
use Rattle.period_keys.specs.Near.{IsKeptAt}
use Rattle.period_keys.specs.declared.block.Block.{Block}
use Rattle.period_keys.proofs.near_rows.first_shared_near.Given as goal

abbrev pub invariant-loop-block : goal.invariant-loop-block
invariant-loop-block l = IsLeastOf (λ day. Any (λ (block : Block). Any (IsKeptAt l.rows (periods_at l.gone l.key) l.period day) block.items.items) (take l.block-index l.blocks)) l.found

use Rattle.std.proofs.Common.{◌≡◌, take}
use Rattle.std.specs.List.{filter_map}
use Rattle.period_keys.specs.Positions.{value_position_of}
use Rattle.period_keys.proofs.positions.positions_of.Given as goal

abbrev pub invariant-loop-place : goal.invariant-loop-place
invariant-loop-place l = l.positions.items ≡ filter_map (value_position_of l.def) (take l.place-index l.places)

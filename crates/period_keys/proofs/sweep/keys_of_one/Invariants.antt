use Rattle.std.proofs.Common.{◌≡◌, [], map, take}
use Rattle.history_model.specs.Versions.{row_of}
use Rattle.period_keys.specs.Repeats.{key_row}
use Rattle.period_keys.proofs.sweep.keys_of_one.Given as goal

abbrev pub invariant-loop-version : goal.invariant-loop-version
invariant-loop-version l = l.keyed.items ≡ map (key_row []) (map row_of (take l.version-index l.versions))

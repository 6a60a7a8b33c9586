use Rattle.std.proofs.Common.{◌≡◌, take}
use Rattle.std.specs.List.{All}
use Rattle.period_core.specs.Encoding.{IsColumnValue, encoded}
use Rattle.period_core.proofs.encoding.encode_values.Given as goal

abbrev pub invariant-loop-value : goal.invariant-loop-value
invariant-loop-value l = record {
  bytes : l.bytes.items ≡ encoded (take l.value-index l.values);
  held : All IsColumnValue (take l.value-index l.values);
}

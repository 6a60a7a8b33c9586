use Rattle.std.proofs.Common.{◌≡◌, ◌++◌, length}
use Rattle.std.specs.List.{All}
use Rattle.period_core.specs.Encoding.{IsColumnValue, IsEncoding, encoded}
use Rattle.period_core.proofs.decoding.decode_values.Given as goal

abbrev pub invariant-values : goal.invariant-values
invariant-values l = record {
  read : encoded l.values.items ++ l.rest ≡ l.bytes;
  held : All IsColumnValue l.values.items;
  left : IsEncoding l.bytes → IsEncoding l.rest;
}

abbrev pub decreases-values : goal.decreases-values
decreases-values l = length l.rest

use Rattle.std.proofs.Common.{◌≡◌, ◌++◌, take}
use Rattle.std.specs.List.{flat_map}
use Rattle.period_core.specs.Encoding.{escaped_byte}
use Rattle.period_core.proofs.encoding.push_escaped.Given as goal

abbrev pub invariant-loop-byte : goal.invariant-loop-byte
invariant-loop-byte l =
    l.bytes.items ≡ l.fn.bytes.items ++ flat_map escaped_byte (take l.byte-index l.text)

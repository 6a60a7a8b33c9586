use Rattle.std.proofs.Common.{◌≡◌, ◌≤◌, ◌-◌, length, take, true}
use Rattle.std.specs.Io.KnownBytes.{Appends}
use Rattle.command_line.proofs.exit.write_text.Given as goal

abbrev pub invariant-writes : goal.invariant-writes
invariant-writes g l = record {
  bounded : l.written ≤ length l.text;
  taken : Appends (g.W.Write.contents l.fn.err.inner) (g.W.Write.contents l.err.inner) (take l.written l.text);
  failed : l.fn.err.has_failed ≡ true → l.err.has_failed ≡ true;
}

abbrev pub decreases-writes : goal.decreases-writes
decreases-writes g l = length l.text - l.written

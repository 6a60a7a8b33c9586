use Rattle.std.proofs.Common.{◌≡◌, ◌<◌, true}
use Rattle.std.specs.Io.KnownBytes.{Keeps}
use Rattle.bitemporal_file.proofs.parts.next_byte.Given as goal

abbrev pub invariant-reads : goal.invariant-reads
invariant-reads g l = record {
  kept : Keeps (g.R.Read.remaining l.fn.input.inner) (g.R.Read.remaining l.input.inner);
  failed : 0 < l.counter → l.input.has_failed ≡ true;
}

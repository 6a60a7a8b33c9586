use Rattle.std.proofs.Common.{◌≡◌, length}
use Rattle.ended_versions.specs.Found.{AreChainedIn}
use Rattle.ended_versions.proofs.chained_values.ChainedValues.extend.Given as goal

abbrev pub invariant-places : goal.invariant-places
invariant-places l = record {
  chained : AreChainedIn l.versions l.self;
  next : l.place ≡ length l.self.hashes;
}

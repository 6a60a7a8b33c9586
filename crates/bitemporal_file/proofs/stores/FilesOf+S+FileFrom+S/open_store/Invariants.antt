use Rattle.std.proofs.Common.{◌≡◌}
use Rattle.bitemporal_file.specs.declared.stores.StoreEnd.TheVariants.{Unopened}
use Rattle.bitemporal_file.proofs.stores.FilesOf+S+FileFrom+S.open_store.Given as goal

abbrev pub invariant-tries : goal.invariant-tries
invariant-tries g l = l.self.end ≡ Unopened

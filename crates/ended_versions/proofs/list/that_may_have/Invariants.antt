use Rattle.std.proofs.Common.{◌≡◌, ◌++◌}
use Rattle.std.specs.List.{filter}
use Rattle.ended_versions.specs.Hashes.{may_have}
use Rattle.ended_versions.proofs.list.that_may_have.Given as goal

abbrev pub invariant-loop-version : goal.invariant-loop-version
invariant-loop-version l =
    filter (may_have l.positions l.key) l.fn.versions.items
    ≡ l.found.items ++ filter (may_have l.positions l.key) l.version-iterator.rest.items

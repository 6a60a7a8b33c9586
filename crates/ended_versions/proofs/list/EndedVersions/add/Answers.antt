use Rattle.std.proofs.Common.{◌∷◌, [], List, subst, sym}
use Rattle.std.specs.List.{All}
use Rattle.ended_versions.specs.Found.{AreChainedIn}
use Rattle.ended_versions.specs.Packed.{PackedVersion, ended_at, packed}
use Rattle.ended_versions.proofs.FoundFacts.{chained_kept}
use Rattle.ended_versions.proofs.list.EndedVersions.add.Goals as goal

pub invariant_of-self-2 : goal.invariant_of-self-2
invariant_of-self-2 c =
    subst (λ (l : List PackedVersion). All (AreChainedIn l) c.self.inside.chained.items) (sym c.in_ok-add.ensures.ok)
    (chained_kept c.self.inside.versions (packed (ended_at c.args.end c.args.version.now) ∷ []) c.self.inside.chained.items c.self.invariant)

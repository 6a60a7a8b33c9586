use Rattle.std.proofs.Common.{subst, sym}
use Rattle.std.proofs.lemmas.List.Elements.{All-set}
use Rattle.ended_versions.specs.Found.{AreChainedIn}
use Rattle.ended_versions.proofs.list.EndedVersions.chain.Goals as goal

pub invariant_of-self : goal.invariant_of-self
invariant_of-self c = c.made_place.ensures.all c.self.inside.versions c.self.invariant

pub extend-requires : goal.extend-requires
extend-requires c =
    subst (AreChainedIn c.self.inside.versions) (sym c.index_mut.ensures.value)
    (c.made_place.ensures.all c.self.inside.versions c.self.invariant c.in_ok-place.place c.index_mut.result.now c.in_ok-place.ensures.within)

pub invariant_of-self-2 : goal.invariant_of-self-2
invariant_of-self-2 c =
    All-set (AreChainedIn c.self.inside.versions) c.made_place.new.chained.items c.in_ok-place.place c.extend.new.self c.extend.ensures (c.made_place.ensures.all c.self.inside.versions c.self.invariant)
